use Rattle.std.proofs.Common.{◌≡◌, ◌∙◌, map, get_or, IfOk, sym, ap, subst}
use Rattle.std.proofs.lemmas.List.{get_or_read}
use Rattle.tera_rules.specs.Registered.{registered_view}
use Rattle.tera_workspace.specs.Diagnostics.{diagnostic_view}
use Rattle.tera_workspace.specs.Kept.{sources_of}
use Rattle.tera_workspace.specs.Unregistered.{unknown_in}
use Rattle.tera_workspace.specs.declared.judged.Judged.{Judged}
use Rattle.tera_workspace.proofs.UnregisteredLemmas.{unknown_numbered, unknown_nowhere}
use Rattle.tera_workspace.proofs.workspace.Workspace.unknown_of.Goals as goal

pub returns-in-Ok : goal.returns-in-Ok
returns-in-Ok c =
    let e = c.args.self.now.encoding in
    let items = c.args.self.now.judged.items in
    let r = registered_view c.args.registered.now in
    let j = c.index.result.now in
    let is : j ≡ get_or items c.in-Ok.number j = get_or_read items c.in-Ok.number j c.in-Ok.ensures.within c.index.ensures j in
    subst (λ ds. IfOk c.unknown_in.result (λ v. map diagnostic_view v.items ≡ ds))
    (ap (λ (x : Judged). unknown_in e (sources_of items) r x.text x.template) is ∙ sym (unknown_numbered e r c.args.name.now items c.in-Ok.number j c.in-Ok.ensures))
    c.unknown_in.ensures

pub returns-in-Err : goal.returns-in-Err
returns-in-Err c =
    ap (map diagnostic_view) c.new.ensures.items
    ∙ sym (unknown_nowhere c.args.self.now.encoding (registered_view c.args.registered.now) c.args.name.now c.args.self.now.judged.items c.in-Err.ensures.none)
