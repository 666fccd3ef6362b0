use Rattle.std.proofs.Common.{◌≡◌, ◌∙◌, map, get_or, None, Some, IfOk, option_map, sym, ap, subst}
use Rattle.std.proofs.lemmas.List.{get_or_read}
use Rattle.tera_site.specs.Kept.{kept_around, kept_view}
use Rattle.tera_workspace.specs.Diagnostics.{diagnostic_view}
use Rattle.tera_workspace.specs.Kept.{sources_of, templates_of}
use Rattle.tera_workspace.specs.Sites.{around_named, named_in}
use Rattle.tera_workspace.specs.declared.judged.Judged.{Judged}
use Rattle.tera_workspace.proofs.NamedLemmas.{named_nowhere, named_numbered, named_unread}
use Rattle.tera_workspace.proofs.workspace.Workspace.named_of.Goals as goal

pub returns-in-Ok : goal.returns-in-Ok
returns-in-Ok c =
    let w = c.args.self.now in
    let s = c.args.site.now in
    let name = c.args.name.now in
    let items = w.judged.items in
    let k = kept_view c.in-Some.around.now in
    let j = c.index.result.now in
    let around : around_named name s.documents ≡ Some k = sym c.around.ensures ∙ ap (option_map (λ a. kept_view a.now)) c.in-Some.is in
    let is : j ≡ get_or items c.in-Ok.number j = get_or_read items c.in-Ok.number j c.in-Ok.ensures.within c.index.ensures j in
    subst (λ ds. IfOk c.named_in.result (λ v. map diagnostic_view v.items ≡ ds))
    (ap (λ (x : Judged). named_in w.encoding (sources_of items) (kept_around c.in-Some.around.now) x.text x.template) is ∙ sym (named_numbered w.encoding s name items k c.in-Ok.number j around c.in-Ok.ensures))
    c.named_in.ensures

pub returns-in-Err : goal.returns-in-Err
returns-in-Err c =
    let w = c.args.self.now in
    let s = c.args.site.now in
    let name = c.args.name.now in
    let k = kept_view c.in-Some.around.now in
    let around : around_named name s.documents ≡ Some k = sym c.around.ensures ∙ ap (option_map (λ a. kept_view a.now)) c.in-Some.is in
    ap (map diagnostic_view) c.new-in-Err.ensures.items ∙ sym (named_unread w.encoding s name w.judged.items k around c.in-Err.ensures.none)

pub returns-in_default : goal.returns-in_default
returns-in_default c =
    let w = c.args.self.now in
    let s = c.args.site.now in
    let none : around_named c.args.name.now s.documents ≡ None = sym c.around.ensures ∙ ap (option_map (λ a. kept_view a.now)) c.in_default.is in
    ap (map diagnostic_view) c.new.ensures.items ∙ sym (named_nowhere w.encoding (sources_of w.judged.items) (templates_of w.judged.items) s c.args.name.now none)
