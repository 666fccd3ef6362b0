use Rattle.tera_exchange.proofs.SendLemmas.{on_any_err}
use Rattle.tera_exchange.proofs.ServingLemmas.{unloaded}
use Rattle.tera_exchange.proofs.server.give_single.Goals as goal

pub returns-in_err-is_excluded_in-clause-unloaded : goal.returns-in_err-is_excluded_in-clause-unloaded
returns-in_err-is_excluded_in-clause-unloaded g c = on_any_err c.from_residual.result (unloaded c.args.path.now c.args.server.now)
