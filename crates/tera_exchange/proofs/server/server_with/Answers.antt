use Rattle.std.proofs.Common.{sym, subst}
use Rattle.tera_exchange.specs.Serving.{IsNew}
use Rattle.tera_exchange.proofs.server.server_with.Goals as goal

pub returns-clause-new : goal.returns-clause-new
returns-clause-new c =
    let new = c.new-server.ensures in
    subst IsNew (sym c.set_markers.ensures.same)
    (record { phase = new.phase; known = new.known; reported = new.reported; kept = new.kept; none = new.none; sites = new.sites })
