use Rattle.std.proofs.Common.{inl, inr}
use Rattle.tera_exchange.proofs.SendLemmas.{on_any_err}
use Rattle.tera_exchange.proofs.ServingLemmas.{on_ok, on_err, unconfigured}
use Rattle.tera_exchange.proofs.server.give_with_settings.Goals as goal

pub returns-in_err-found-clause-in_part : goal.returns-in_err-found-clause-in_part
returns-in_err-found-clause-in_part g c = on_any_err c.from_residual.result (inl (unconfigured c.args.server.now))

pub returns-in_err-configure-clause-in_part : goal.returns-in_err-configure-clause-in_part
returns-in_err-configure-clause-in_part g c = on_any_err c.from_residual-in_err-configure.result (inl c.in_err-configure.ensures.err)

pub returns-in_err-give_folder-clause-in_part : goal.returns-in_err-give_folder-clause-in_part
returns-in_err-give_folder-clause-in_part g c =
    on_any_err c.from_residual-in_err-give_folder.result
    (inr (c.configure.new.self, (c.in_ok-found.found, c.in_ok-configure.ensures.configured), inl c.in_err-give_folder.ensures.in_part))

pub returns-in_err-give_apart-clause-in_part : goal.returns-in_err-give_apart-clause-in_part
returns-in_err-give_apart-clause-in_part g c =
    on_any_err c.from_residual-in_err-give_apart.result
    (inr (
      c.configure.new.self,
      (c.in_ok-found.found, c.in_ok-configure.ensures.configured),
      inr (c.give_folder.new.server, c.in_ok-give_folder.ensures.given, inl c.in_err-give_apart.ensures.in_part),
    ))

pub returns-clause-given : goal.returns-clause-given
returns-clause-given g c =
    on_ok c.give_libraries.result
    (λ given. (
      c.configure.new.self,
      c.give_folder.new.server,
      c.give_apart.new.server,
      (c.in_ok-found.found, c.in_ok-configure.ensures.configured),
      c.in_ok-give_folder.ensures.given,
      c.in_ok-give_apart.ensures.given,
      given,
    ))
    c.give_libraries.ensures.given

pub returns-clause-in_part : goal.returns-clause-in_part
returns-clause-in_part g c =
    on_err c.give_libraries.result
    (λ part. inr (
      c.configure.new.self,
      (c.in_ok-found.found, c.in_ok-configure.ensures.configured),
      inr (c.give_folder.new.server, c.in_ok-give_folder.ensures.given, inr (c.give_apart.new.server, c.in_ok-give_apart.ensures.given, part)),
    ))
    c.give_libraries.ensures.in_part
