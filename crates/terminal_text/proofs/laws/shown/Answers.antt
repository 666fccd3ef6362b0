use Rattle.std.proofs.Common.{[]}
use Rattle.terminal_text.specs.Hunks.{placed_edits}
use Rattle.terminal_text.proofs.ShownEdits.{in_order, unshown}
use Rattle.terminal_text.proofs.laws.shown.Goals as goal

pub returns-clause-order : goal.returns-clause-order
returns-clause-order c es = in_order (λ p. p.shown) (placed_edits [] es)

pub returns-clause-others : goal.returns-clause-others
returns-clause-others c es = unshown [] es
