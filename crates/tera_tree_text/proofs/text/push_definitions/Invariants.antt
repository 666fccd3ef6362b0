use Rattle.std.proofs.Common.{◌≡◌, ◌++◌, drop, map, string_bytes}
use Rattle.std.specs.List.{flat_map}
use Rattle.tera_tree.specs.View.{definition_view}
use Rattle.tera_tree_text.specs.TreeText.{definition_text}
use Rattle.tera_tree_text.proofs.text.push_definitions.Given as goal

abbrev pub invariant-loop-definition : goal.invariant-loop-definition
invariant-loop-definition l =
    string_bytes l.initial.text ++ flat_map definition_text (map definition_view l.definition-items) ≡ string_bytes l.text ++ flat_map definition_text (map definition_view (drop l.definition-index l.definition-items))
