use Rattle.std.proofs.Common.{◌<◌, length, refl, ap, arith}
use Rattle.std.specs.Vec.{with_item}
use Rattle.tera_editor.specs.declared.sites.FolderSite.{FolderSite}
use Rattle.tera_editor.proofs.SiteLemmas.{around_same, asked_next}
use Rattle.tera_editor.proofs.sites.Sites.look_again.Goals as goal

pub loop-number-init : goal.loop-number-init
loop-number-init c =
    let s = c.args.self.now in
    record { around = around_same s; given = λ g. g; renewed = refl; done = λ k d n below. absurd (omega (arith, below)); rest = λ k d above. refl }

pub loop-number-preserved : goal.loop-number-preserved
loop-number-preserved c =
    let k = c.loop-number.number in
    let t = c.loop-number.self in
    let x = c.index_mut.result.now in
    let y = c.look_again.new.self in
    let h = c.loop-number.invariant in
    let within : k < length t.all.items = omega (arith, h.around.as_many) in
    let same = c.look_again.ensures.same in
    asked_next k c.args.self.now t (record { all = with_item t.all k y; renewed = t.renewed }) x y h within c.index_mut.ensures.value refl refl
    (ap (λ (z : FolderSite). z.folder) same) (ap (λ (z : FolderSite). z.site) same) c.look_again.ensures.given c.look_again.ensures.due
