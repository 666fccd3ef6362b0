use Rattle.std.proofs.Common.{◌≡◌, drop}
use Rattle.tera_ast.specs.View.{nodes_view}
use Rattle.tera_rules.specs.Bodies.{is_blank_body}
use Rattle.tera_rules.proofs.bodies.is_blank_body.Given as goal

abbrev pub invariant-loop-node : goal.invariant-loop-node
invariant-loop-node l = is_blank_body (nodes_view (drop l.node-index l.node-items)) ≡ is_blank_body (nodes_view l.node-items)
