use Rattle.std.proofs.Common.{◌≡◌, length, map}
use Rattle.tera_ast.specs.View.{node_view}
use Rattle.tera_grammar.specs.statements.Reading.Loops.{nest}
use Rattle.tera_statements.specs.Conditions.{branch_view}
use Rattle.tera_statements.proofs.conditions.nested.Given as goal

abbrev pub invariant-branches : goal.invariant-branches
invariant-branches l =
    nest (map branch_view l.branches.items) (map node_view l.nodes.items) ≡ nest (map branch_view l.fn.branches.items) (map node_view l.fn.otherwise.items)

abbrev pub decreases-branches : goal.decreases-branches
decreases-branches l = length l.branches.items
