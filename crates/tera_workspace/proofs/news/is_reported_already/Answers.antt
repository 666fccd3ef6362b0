use Rattle.std.proofs.Common.{◌≡◌, Bool, map, sym, subst}
use Rattle.std.specs.Bool.{Decides}
use Rattle.tera_workspace.specs.Diagnostics.{diagnostic_view}
use Rattle.tera_workspace.specs.Kept.{reported_of}
use Rattle.tera_workspace.specs.Reported.{reported_one}
use Rattle.tera_workspace.proofs.AlikeLemmas.{lists_decide}
use Rattle.tera_workspace.proofs.SettleLemmas.{News}
use Rattle.tera_workspace.proofs.news.is_reported_already.Goals as goal

pub returns-in-Some : goal.returns-in-Some
returns-in-Some c =
    let judged = c.args.judged.now in
    subst (λ (v : News). Decides c.eq.result (reported_of (reported_one judged v) ≡ reported_of judged)) (sym c.in-Some.is)
    (subst (λ (r : Bool). Decides r (map diagnostic_view c.in-Some.diagnostics.items ≡ reported_of judged)) (sym c.eq.ensures) (lists_decide c.in-Some.diagnostics.items judged.reported.items))
