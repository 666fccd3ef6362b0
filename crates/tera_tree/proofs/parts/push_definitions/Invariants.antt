use Rattle.std.proofs.Common.{◌≡◌, ◌++◌, drop, map}
use Rattle.std.specs.List.{flat_map}
use Rattle.tera_ast.specs.View.{nodes_of}
use Rattle.tera_tree.specs.View.{definition_view}
use Rattle.tera_tree.specs.Parts.{parts_view, parts_of_nodes}
use Rattle.tera_tree.proofs.parts.push_definitions.Given as goal

abbrev pub invariant-loop-definition : goal.invariant-loop-definition
invariant-loop-definition l =
    parts_view l.initial.parts.items ++ flat_map (λ d. parts_of_nodes (nodes_of d.body)) (map definition_view l.definition-items)
    ≡ parts_view l.parts.items ++ flat_map (λ d. parts_of_nodes (nodes_of d.body)) (map definition_view (drop l.definition-index l.definition-items))
