use Rattle.std.proofs.Common.{map, string_bytes, inl, inr, refl}
use Rattle.tera_exchange.proofs.SendLemmas.{on_any_err}
use Rattle.tera_exchange.proofs.ServingLemmas.{on_ok, on_err}
use Rattle.tera_exchange.proofs.server.give_libraries.Goals as goal

pub returns-in_err-found-clause-in_part : goal.returns-in_err-found-clause-in_part
returns-in_err-found-clause-in_part g c = on_any_err c.from_residual.result (inl refl)

pub returns-clause-given : goal.returns-clause-given
returns-clause-given g c =
    on_ok c.give_files.result (λ loaded. (map string_bytes c.in_ok-found.found.files.items, c.in_ok-found.ensures, loaded)) c.give_files.ensures.given

pub returns-clause-in_part : goal.returns-clause-in_part
returns-clause-in_part g c =
    on_err c.give_files.result (λ loaded. inr (map string_bytes c.in_ok-found.found.files.items, c.in_ok-found.ensures, loaded)) c.give_files.ensures.in_part
