use Rattle.std.proofs.Common.{inl, inr}
use Rattle.tera_exchange.proofs.SendLemmas.{on_any_err}
use Rattle.tera_exchange.proofs.server.give_or_ask_again.Goals as goal

pub returns-in_err-ask_again-in-Err-clause-in_part : goal.returns-in_err-ask_again-in-Err-clause-in_part
returns-in_err-ask_again-in-Err-clause-in_part g c =
    on_any_err c.from_residual.result
    (record { mid = c.give_anew.new.server; given = c.in-Err.ensures.in_part; same = c.ask_again.ensures.same; again = inr c.in_err-ask_again-in-Err.ensures.err })

pub returns-in_ok-ask_again-in-Err-clause-in_part : goal.returns-in_ok-ask_again-in-Err-clause-in_part
returns-in_ok-ask_again-in-Err-clause-in_part g c =
    record { mid = c.give_anew.new.server; given = c.in-Err.ensures.in_part; same = c.ask_again.ensures.same; again = inl c.in_ok-ask_again-in-Err.ensures.needed }
