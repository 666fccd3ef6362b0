use Rattle.std.proofs.Common.{inl, inr}
use Rattle.tera_exchange.proofs.ServingLemmas.{on_ok, on_err}
use Rattle.tera_exchange.proofs.server.give_gone.Goals as goal

pub returns-then-is_known-clause-given : goal.returns-then-is_known-clause-given
returns-then-is_known-clause-given g c = on_ok c.give_single.result (λ h. inr (inl h)) c.give_single.ensures.loaded

pub returns-then-is_known-clause-in_part : goal.returns-then-is_known-clause-in_part
returns-then-is_known-clause-in_part g c = on_err c.give_single.result (λ h. inl h) c.give_single.ensures.unloaded

pub returns-else-is_known-clause-given : goal.returns-else-is_known-clause-given
returns-else-is_known-clause-given g c = on_ok c.give_known.result (λ h. inr (inr (inl h))) c.give_known.ensures.given

pub returns-else-is_known-clause-in_part : goal.returns-else-is_known-clause-in_part
returns-else-is_known-clause-in_part g c = on_err c.give_known.result (λ h. inr (inl (inl h))) c.give_known.ensures.in_part
