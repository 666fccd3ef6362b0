use Rattle.tera_exchange.proofs.SendLemmas.{on_any_err}
use Rattle.tera_exchange.proofs.ServingLemmas.{is_loaded, is_unloaded, unloaded}
use Rattle.tera_exchange.proofs.server.give_file.Goals as goal

pub returns-in_err-found-clause-unloaded : goal.returns-in_err-found-clause-unloaded
returns-in_err-found-clause-unloaded g c = on_any_err c.from_residual.result (unloaded c.args.path.now c.args.server.now)

pub returns-clause-loaded : goal.returns-clause-loaded
returns-clause-loaded g c =
    is_loaded c.load.result c.args.path.now c.in_ok-found.found c.args.server.now c.load.new.self c.load.ensures.stays c.load.ensures.same c.load.ensures.loaded c.load.ensures.known

pub returns-clause-unloaded : goal.returns-clause-unloaded
returns-clause-unloaded g c = is_unloaded c.load.result c.args.path.now c.args.server.now c.load.new.self c.load.ensures.stays c.load.ensures.same c.load.ensures.err
