use Rattle.std.proofs.Common.{refl}
use Rattle.tera_server.proofs.NamingLemmas.{only_sites}
use Rattle.tera_answers.proofs.Tails.{and_so}
use Rattle.tera_server.proofs.server.Server.set_presence.Goals as goal

pub returns-clause-only : goal.returns-clause-only
returns-clause-only c = only_sites c.args.self.now (record c.args.self.now { sites = c.set_presence.new.self }) refl c.set_presence.ensures.given c.set_presence.ensures.renewed

pub returns-clause-said : goal.returns-clause-said
returns-clause-said c = and_so c.set_presence.result c.set_presence.ensures.set (λ h. record { same = refl; said = h })
