use Rattle.tera_server.specs.declared.server.OnDisk.TheVariants.{Nothing}
use Rattle.tera_exchange.proofs.ServingLemmas.{is_loaded, is_unloaded}
use Rattle.tera_exchange.proofs.server.give_nothing.Goals as goal

pub returns-clause-loaded : goal.returns-clause-loaded
returns-clause-loaded g c =
    is_loaded c.load.result c.args.path.now Nothing c.args.server.now c.load.new.self c.load.ensures.stays c.load.ensures.same c.load.ensures.loaded c.load.ensures.known

pub returns-clause-unloaded : goal.returns-clause-unloaded
returns-clause-unloaded g c = is_unloaded c.load.result c.args.path.now c.args.server.now c.load.new.self c.load.ensures.stays c.load.ensures.same c.load.ensures.err
