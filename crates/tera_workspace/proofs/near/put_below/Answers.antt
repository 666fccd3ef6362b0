use Rattle.std.proofs.Common.{◌≡◌, ◌∙◌, ◌<◌, Bor, Some, length, map, ap, sym, subst, arith}
use Rattle.std.specs.Prelude.{slice_get}
use Rattle.std.proofs.lemmas.List.{length-map}
use Rattle.std.proofs.lemmas.Option.{slice_get_within}
use Rattle.tera_workspace.specs.Names.{contains_name}
use Rattle.tera_workspace.specs.declared.judged.Judged.{Judged}
use Rattle.tera_workspace.proofs.NearSteps.{at_index, pass_next}
use Rattle.tera_workspace.proofs.PlaceLemmas.{false_true}
use Rattle.tera_workspace.proofs.RenewedLemmas.{viewed}
use Rattle.tera_workspace.proofs.near.put_below.Goals as goal
use Rattle.tera_workspace.proofs.near.put_below.Goals.{then-branch, else-branch}

pub loop-judged-preserved : goal.loop-judged-preserved
loop-judged-preserved c = (
  λ n is. c.in_ok-put_if_below.ensures.more n (c.loop-judged.invariant.0 n is),
  λ free.
      let items = c.deref-judged-items.result.now in
      let at = c.loop-judged.judged-index in
      let b = c.judged-item.result in
      elim c.if-branch.branch [
        | then-branch w ↦ absurd (false_true (sym free ∙ w.put-is))
        | else-branch w ↦
            pass_next c.args.root.now (map (λ (j : Bor Judged). j.now) items) at b.now (contains_name c.loop-judged.names) (contains_name c.put_if_below.new.names)
            (viewed (λ (j : Bor Judged). j.now) items at b (at_index items at b c.loop-judged-test.true c.judged-item.is))
            (c.in_ok-put_if_below.ensures.same w.if-branch.false) c.in_ok-put_if_below.ensures.own (c.loop-judged.invariant.1 (sym w.put-is ∙ free))
      ],
)

pub returns-clause-all : goal.returns-clause-all
returns-clause-all c = λ free number j here.
    let below = c.args.below.now.items in
    let inside : number < c.loop-judged.judged-index =
    (let w = slice_get_within (map (λ (b : Bor Judged). b.now) below) number j here in let l = length-map below (λ (b : Bor Judged). b.now) in omega (arith, w, l, ap length c.deref-judged-items.ensures.value)) in
    c.loop-judged.invariant.1 free number j inside (subst (λ bs. slice_get (map (λ (b : Bor Judged). b.now) bs) number ≡ Some j) (sym c.deref-judged-items.ensures.value) here)
