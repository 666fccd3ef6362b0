use Rattle.std.proofs.Common.{ap, map, refl, subst, sym}
use Rattle.tera_workspace.specs.Diagnostics.{diagnostic_view}
use Rattle.tera_workspace.specs.Kept.{HasNames}
use Rattle.tera_workspace.proofs.NewlyReadLemmas.{is_read, is_newly_read}
use Rattle.tera_workspace.proofs.judged.Judged.read.Goals as goal

pub returns : goal.returns
returns c =
    let t = c.in_ok-template.ensures in
    is_newly_read c.args.name.now c.args.text.now _ c.in_ok-lined.ensures
    (is_read c.args.name.now c.args.text.now c.in_ok-template.template t.file t.sound t.complete t.fault t.refusal t.lost t.notes t.whole t.mended t.places t.ignores t.hidden)
    (subst (λ ns. HasNames ns c.in_ok-template.template) (sym c.of-names.ensures) c.in_ok-names.ensures) c.in_ok-page.ensures refl (ap (map diagnostic_view) c.new.ensures.items)
