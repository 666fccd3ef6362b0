use Rattle.std.proofs.Common.{◌≡◌, ◌∙◌, [], map, get_or, None, Some, Option, IfOk, sym, ap, subst}
use Rattle.std.specs.Prelude.{MatchOption}
use Rattle.std.proofs.lemmas.List.{get_or_read}
use Rattle.tera_workspace.specs.Between.{IsFaultIn}
use Rattle.tera_workspace.specs.Diagnostics.{diagnostic_view}
use Rattle.tera_workspace.specs.Kept.{source_of, sources_of}
use Rattle.tera_workspace.specs.Sources.{Source}
use Rattle.tera_workspace.specs.declared.judged.Judged.{Judged}
use Rattle.tera_workspace.proofs.BetweenLemmas.{source_numbered, source_nowhere}
use Rattle.tera_workspace.proofs.workspace.Workspace.fault_between.Goals as goal

pub returns-in-Ok : goal.returns-in-Ok
returns-in-Ok c =
    let e = c.args.self.now.encoding in
    let items = c.args.self.now.judged.items in
    let m = c.args.markers.now in
    let j = c.index.result.now in
    let is : j ≡ get_or items c.in-Ok.number j = get_or_read items c.in-Ok.number j c.in-Ok.ensures.within c.index.ensures j in
    subst (λ (o : Option Source). IfOk c.fault_in.result (λ v. MatchOption o (map diagnostic_view v.items ≡ []) (λ s. IsFaultIn e (sources_of items) m s (map diagnostic_view v.items))))
    (ap (λ (x : Judged). Some (source_of x)) is ∙ sym (source_numbered c.args.name.now items c.in-Ok.number j c.in-Ok.ensures))
    c.fault_in.ensures

pub returns-in-Err : goal.returns-in-Err
returns-in-Err c =
    let e = c.args.self.now.encoding in
    let items = c.args.self.now.judged.items in
    let m = c.args.markers.now in
    let ds = map diagnostic_view c.new.result.items in
    subst (λ (o : Option Source). MatchOption o (ds ≡ []) (λ s. IsFaultIn e (sources_of items) m s ds))
    (sym (source_nowhere c.args.name.now items c.in-Err.ensures.none))
    (ap (map diagnostic_view) c.new.ensures.items)
