use Rattle.tera_exchange.proofs.ServingLemmas.{on_ok, on_err}
use Rattle.tera_exchange.proofs.server.give_anew.Goals as goal

pub returns-clause-given : goal.returns-clause-given
returns-clause-given g c =
    on_ok c.give_needed.result (λ given. (c.look_again.new.self, record { only = c.look_again.ensures.only; due = c.look_again.ensures.due }, given)) c.give_needed.ensures.given

pub returns-clause-in_part : goal.returns-clause-in_part
returns-clause-in_part g c =
    on_err c.give_needed.result (λ given. (c.look_again.new.self, record { only = c.look_again.ensures.only; due = c.look_again.ensures.due }, given)) c.give_needed.ensures.in_part
