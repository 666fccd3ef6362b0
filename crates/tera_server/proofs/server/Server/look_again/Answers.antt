use Rattle.std.proofs.Common.{refl}
use Rattle.tera_server.proofs.NamingLemmas.{only_sites}
use Rattle.tera_server.proofs.server.Server.look_again.Goals as goal

pub returns-clause-only : goal.returns-clause-only
returns-clause-only c = only_sites c.args.self.now (record c.args.self.now { sites = c.look_again.new.self }) refl c.look_again.ensures.given c.look_again.ensures.renewed
