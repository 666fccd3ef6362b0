use Rattle.protocol_values.specs.Members.{seen}
use Rattle.tera_server.proofs.RequestLemmas.{begun_answered}
use Rattle.tera_server.proofs.server.Server.result_of.Goals as goal

pub returns-in-Initialize : goal.returns-in-Initialize
returns-in-Initialize c =
    begun_answered c.args.id.now c.args.asked (seen c.args.params) c.args.self.now c.initialize.new.self c.initialize.result c.in-New.is c.in-Initialize.is
    c.initialize.ensures.begun c.initialize.ensures.err
