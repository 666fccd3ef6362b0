use Rattle.std.proofs.Common.{◌≤◌}
use Rattle.tera_ast.specs.declared.ast.If.{size-If}
use Rattle.tera_ast.proofs.+drops.Given as goal

abbrev pub decreases-ast::If::drop : goal.decreases-ast::If::drop
decreases-ast::If::drop l = goal.size-ast::If::drop l

abbrev pub invariant-ast::If::drop-chain : goal.invariant-ast::If::drop-chain
invariant-ast::If::drop-chain l = size-If l.self ≤ size-If l.initial.self
