use Rattle.std.proofs.Common.{◌≡◌, ◌∙◌, ◌<◌, Bool, true, if◌then◌else◌, length, refl, sym, ap, arith}
use Rattle.std.specs.Vec.{with_item}
use Rattle.tera_editor.specs.Sites.{IsSaid}
use Rattle.tera_editor.proofs.SiteLemmas.{around_same, assumed_next, keeps_same, none_below}
use Rattle.tera_editor.proofs.sites.Sites.assume.Goals as goal
use Rattle.tera_editor.proofs.sites.Sites.assume.Goals.{then-branch, else-branch}

pub loop-number-init : goal.loop-number-init
loop-number-init c =
    let s = c.args.self.now in
    record { around = around_same s; known = keeps_same s; given = λ g. g; renewed = refl; same = λ e. refl; said = λ e. none_below IsSaid s.all.items }

pub loop-number-preserved : goal.loop-number-preserved
loop-number-preserved c =
    let k = c.loop-number.number in
    let t = c.loop-number.self in
    let x = c.index_mut.result.now in
    let y = c.assume.new.self in
    let h = c.loop-number.invariant in
    let some = c.loop-number.some in
    let more = c.in_ok-assume.field-0 in
    let within : k < length t.all.items = omega (arith, h.around.as_many) in
    let now : c.if-branch.some ≡ (if more then true else some) = elim c.if-branch.branch [
      | then-branch w ↦ w.some-is ∙ sym (ap (λ (b : Bool). if b then true else some) w.if-branch.true)
      | else-branch w ↦ w.some-is ∙ sym (ap (λ (b : Bool). if b then true else some) w.if-branch.false)
    ] in
    assumed_next k some more c.if-branch.some c.args.self.now t (record { all = with_item t.all k y; renewed = t.renewed }) x y h within c.index_mut.ensures.value refl refl
    c.assume.ensures.same c.assume.ensures.known c.assume.ensures.given c.in_ok-assume.ensures.none c.in_ok-assume.ensures.said now
