use Rattle.tera_exchange.proofs.SendLemmas.{on_any_err}
use Rattle.tera_exchange.proofs.ServingLemmas.{unloaded}
use Rattle.tera_exchange.proofs.server.give_again.Goals as goal

pub returns-in_err-still_counts-clause-unloaded : goal.returns-in_err-still_counts-clause-unloaded
returns-in_err-still_counts-clause-unloaded g c = on_any_err c.from_residual.result (unloaded c.args.path.now c.args.server.now)
