use Rattle.std.proofs.Common.{inl, inr, refl}
use Rattle.tera_exchange.proofs.SendLemmas.{on_any_err}
use Rattle.tera_exchange.proofs.ServingLemmas.{on_ok, on_err, unloaded}
use Rattle.tera_exchange.proofs.server.give_template.Goals as goal

pub returns-then-branch-clause-given : goal.returns-then-branch-clause-given
returns-then-branch-clause-given g c = on_ok c.give_single.result (λ h. inr (inl h)) c.give_single.ensures.loaded

pub returns-then-branch-clause-in_part : goal.returns-then-branch-clause-in_part
returns-then-branch-clause-in_part g c = on_err c.give_single.result (λ h. inl h) c.give_single.ensures.unloaded

pub returns-else-branch-clause-given : goal.returns-else-branch-clause-given
returns-else-branch-clause-given g c = inl (c.in_ok-is_needed.ensures c.if-branch.false, refl)

pub returns-in_err-is_needed-clause-in_part : goal.returns-in_err-is_needed-clause-in_part
returns-in_err-is_needed-clause-in_part g c = on_any_err c.from_residual.result (inl (unloaded c.args.path.now c.args.server.now))
