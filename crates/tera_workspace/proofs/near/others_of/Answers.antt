use Rattle.std.proofs.Common.{◌≡◌, ◌∙◌, ◌+◌, ◌<◌, ◌≤◌, Some, length, get_or, ap, sym, subst, arith}
use Rattle.std.specs.Prelude.{slice_get}
use Rattle.std.proofs.lemmas.List.{get_or_read}
use Rattle.std.proofs.lemmas.Option.{slice_get-get_or, slice_get_within}
use Rattle.tera_workspace.proofs.NearSteps.{at_index}
use Rattle.tera_workspace.proofs.OthersNear.{OthersSoFar, others_more, others_passed}
use Rattle.tera_workspace.proofs.PlaceLemmas.{false_true}
use Rattle.tera_workspace.proofs.near.others_of.Goals as goal
use Rattle.tera_workspace.proofs.near.others_of.Goals.{then-not-same_surroundings+in_ok-push, else-not-same_surroundings}

pub loop-place-preserved : goal.loop-place-preserved
loop-place-preserved c =
    let kept = c.args.kept.now.items in
    let near = c.args.near.now.items in
    let documents = c.args.documents.now.items in
    let at = c.loop-place.place in
    let m = get_or c.deref-number-items.result.now at 0 in
    let f = c.index.result.now in
    let g = c.index-in-loop-place.result.now in
    let in_near : at < length near = omega (arith, ap length c.deref-number-items.ensures.value) in
    let here : slice_get near at ≡ Some m = slice_get-get_or near at 0 in_near ∙ sym (ap (λ xs. Some (get_or xs at 0)) c.deref-number-items.ensures.value) in
    let in_kept : m < length kept = c.requires.near.within at m here in
    let was : slice_get kept m ≡ Some f = at_index kept m f in_kept (get_or_read kept m f in_kept c.index.ensures f) in
    let in_documents : at < length documents = omega (arith, c.requires.each, in_near) in
    let made : slice_get documents at ≡ Some g = at_index documents at g in_documents (get_or_read documents at g in_documents c.index-in-loop-place.ensures g) in
    elim c.if-not-same_surroundings.branch [
      | then-not-same_surroundings+in_ok-push w ↦
          others_more kept near documents at m f g c.loop-place.others.items c.if-not-same_surroundings.others.items here was made
          (λ same. false_true (sym w.if-not-same_surroundings.true ∙ c.same_surroundings.ensures.1 same))
          (ap (λ v. v.items) w.others-is ∙ w.in_ok-push.ensures.items) c.loop-place.invariant
      | else-not-same_surroundings w ↦
          subst (λ v. OthersSoFar kept near documents (at + 1) v.items) (sym w.others-is)
          (others_passed kept near documents at m f g c.loop-place.others.items here was made (c.same_surroundings.ensures.0 w.if-not-same_surroundings.false) c.loop-place.invariant)
    ]

pub returns : goal.returns
returns c =
    let near = c.args.near.now.items in
    let over : length near ≤ c.loop-place.place = omega (arith, ap length c.deref-number-items.ensures.value) in
    record {
      others = c.loop-place.invariant.others;
      same = λ k q d e is was made. c.loop-place.invariant.same k q d e (let w = slice_get_within near k q is in omega (arith, w, over)) is was made;
    }
