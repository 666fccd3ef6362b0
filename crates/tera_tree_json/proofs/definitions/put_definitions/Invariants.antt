use Rattle.std.proofs.Common.{◌≡◌, ◌++◌, map, drop}
use Rattle.json.specs.Tree.{items_tokens}
use Rattle.tera_tree.specs.View.{definition_view}
use Rattle.tera_tree_json.specs.TreeJson.{definitions_json}
use Rattle.tera_tree_json.proofs.definitions.put_definitions.Given as goal

abbrev pub invariant-loop-definition : goal.invariant-loop-definition
invariant-loop-definition l =
    (l.out.before ≡ l.initial.out.before)
    × (l.initial.out.tokens ++ items_tokens (definitions_json (map definition_view l.definition-items)) ≡ l.out.tokens ++ items_tokens (definitions_json (map definition_view (drop l.definition-index l.definition-items))))
