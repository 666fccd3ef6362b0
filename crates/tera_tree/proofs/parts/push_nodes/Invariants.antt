use Rattle.std.proofs.Common.{◌≡◌, ◌++◌, drop}
use Rattle.tera_ast.specs.View.{nodes_view}
use Rattle.tera_tree.specs.Parts.{parts_view, parts_of_nodes}
use Rattle.tera_tree.proofs.parts.push_nodes.Given as goal

abbrev pub invariant-loop-node : goal.invariant-loop-node
invariant-loop-node l =
    parts_view l.initial.parts.items ++ parts_of_nodes (nodes_view l.node-items)
    ≡ parts_view l.parts.items ++ parts_of_nodes (nodes_view (drop l.node-index l.node-items))
