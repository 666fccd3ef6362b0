use Rattle.std.proofs.Common.{◌≡◌, ◌∙◌, ◌+◌, ◌<◌, ◌≤◌, Bor, List, length, get_or, map, option_map, None, Some, not, true, false, Bool, string_bytes, ap, refl, sym, subst, arith}
use Rattle.std.specs.Prelude.{slice_get}
use Rattle.std.proofs.lemmas.List.{get_or_read, length-map}
use Rattle.std.proofs.lemmas.Slice.Eq.{bytes_eq-Decides}
use Rattle.tera_site.specs.Kept.{names_in}
use Rattle.tera_workspace.specs.Kept.{name_of}
use Rattle.tera_workspace.specs.KeptSites.{names_before, said_in, said_of}
use Rattle.tera_workspace.specs.Sites.{Said}
use Rattle.tera_workspace.specs.declared.judged.Judged.{Judged}
use Rattle.tera_workspace.specs.declared.sites.KeptDocument.{KeptDocument}
use Rattle.tera_workspace.proofs.NearSteps.{OtherSoFar, UseSoFar, at_index, none_is, not_some, other_found, other_is, other_same, use_all, use_found, use_rest, use_same}
use Rattle.tera_workspace.proofs.RenewedLemmas.{viewed}
use Rattle.tera_workspace.proofs.near.compared.Goals as goal
use Rattle.tera_workspace.proofs.near.compared.Goals.{then-not-branch+else-is_some+else-ne, else-not-branch}

not_false : (b : Bool) → not b ≡ false → b ≡ true
not_false true e = refl
not_false false e = cc

abbrev now_of : List (Bor Judged) → List Judged
now_of below = map (λ (j : Bor Judged). j.now) below

pub loop-number-preserved : goal.loop-number-preserved
loop-number-preserved c =
    let kept = c.args.kept.now.items in
    let below = c.args.below.now.items in
    let at = c.loop-number.number in
    let d = c.index.result.now in
    let b = c.judged-item.result in
    let in_below : at < length below = omega (arith, ap length c.deref-judged-items.ensures.value) in
    let in_kept : at < length kept = omega (arith, ap length c.deref-judged-items.ensures.value) in
    let is_b : b ≡ get_or below at b = c.judged-item.is ∙ ap (λ xs. get_or xs at b) c.deref-judged-items.ensures.value in
    let was : (e : KeptDocument) → e ≡ get_or kept at e → slice_get (map said_of kept) at ≡ Some (said_of e) =
    λ e is. viewed said_of kept at e (at_index kept at e in_kept (get_or_read kept at e in_kept is e)) in
    let old : slice_get (map said_of kept) at ≡ Some (said_of d) = was d c.index.ensures in
    let new : slice_get (map said_in (now_of below)) at ≡ Some (said_in b.now) =
    viewed said_in (now_of below) at b.now (viewed (λ (j : Bor Judged). j.now) below at b (at_index below at b in_below is_b)) in
    let in_now : at < length (map said_in (now_of below)) = (let l = length-map (now_of below) said_in in let m = length-map below (λ (j : Bor Judged). j.now) in omega (arith, in_below, l, m)) in
    let was_names = names_before c.args.before.now c.args.others.now in
    let names = names_in c.args.others.now in
    elim c.if-not-branch.branch [
      | then-not-branch+else-is_some+else-ne w ↦
          let none : c.loop-number.other ≡ None = not_some c.loop-number.other (sym w.is_some.ensures ∙ w.if-is_some.false) in (
            subst (OtherSoFar (map said_of kept) (map said_in (now_of below)) (at + 1)) (sym w.other-is)
                (other_found (map said_of kept) (map said_in (now_of below)) at in_now
                (ap (option_map (λ (x : Said). x.file)) (was w.index-else-is_some.result.now w.index-else-is_some.ensures)
                ∙ ap Some ((bytes_eq-Decides (string_bytes w.index-else-is_some.result.now.file) (name_of b.now)).0 (not_false _ (sym w.ne.ensures ∙ w.if-ne.false)))
                ∙ sym (ap (option_map (λ (x : Said). x.file)) new))
                (subst (OtherSoFar (map said_of kept) (map said_in (now_of below)) at) none c.loop-number.invariant.0)),
            subst (UseSoFar was_names names (map said_of kept) (at + 1)) (sym w.other-is)
                (use_found was_names names (map said_of kept) at (subst (UseSoFar was_names names (map said_of kept) at) none c.loop-number.invariant.1)),
          )
      | else-not-branch w ↦ (
        subst (OtherSoFar (map said_of kept) (map said_in (now_of below)) (at + 1)) (sym w.other-is)
            (other_same (map said_of kept) (map said_in (now_of below)) at c.loop-number.other (old ∙ ap Some (c.in_ok-is_as_before.ensures.said w.if-not-branch.false) ∙ sym new) c.loop-number.invariant.0),
        subst (UseSoFar was_names names (map said_of kept) (at + 1)) (sym w.other-is)
            (use_same was_names names (map said_of kept) at c.loop-number.other (said_of d) old (c.in_ok-is_as_before.ensures.names w.if-not-branch.false) c.loop-number.invariant.1),
      )
    ]

pub returns-in-Some : goal.returns-in-Some
returns-in-Some c =
    let kept = c.args.kept.now.items in
    let below = c.args.below.now.items in
    let many : length (map said_of kept) ≡ length kept = length-map kept said_of in
    let all : length (map said_in (now_of below)) ≡ length below = length-map (now_of below) said_in ∙ length-map below (λ (j : Bor Judged). j.now) in
    let equal : length kept ≡ length below = omega arith in
    let over : length (map said_in (now_of below)) ≤ c.loop-number.number = omega (arith, all, ap length c.deref-judged-items.ensures.value) in
    let over_kept : length (map said_of kept) ≤ c.loop-number.number = omega (arith, many, equal, ap length c.deref-judged-items.ensures.value) in (
      other_is (map said_of kept) (map said_in (now_of below)) c.loop-number.number c.in-Some.at c.loop-number.other c.in-Some.is (many ∙ equal ∙ sym all) over c.loop-number.invariant.0,
      use_rest (names_before c.args.before.now c.args.others.now) (names_in c.args.others.now) (map said_of kept) c.loop-number.number c.in-Some.at c.loop-number.other c.in-Some.is over_kept c.loop-number.invariant.1,
    )

pub returns-in-None : goal.returns-in-None
returns-in-None c =
    let kept = c.args.kept.now.items in
    let below = c.args.below.now.items in
    let many : length (map said_of kept) ≡ length kept = length-map kept said_of in
    let all : length (map said_in (now_of below)) ≡ length below = length-map (now_of below) said_in ∙ length-map below (λ (j : Bor Judged). j.now) in
    let equal : length kept ≡ length below = omega arith in
    let over : length (map said_in (now_of below)) ≤ c.loop-number.number = omega (arith, all, ap length c.deref-judged-items.ensures.value) in
    let over_kept : length (map said_of kept) ≤ c.loop-number.number = omega (arith, many, equal, ap length c.deref-judged-items.ensures.value) in (
      none_is (map said_of kept) (map said_in (now_of below)) c.loop-number.number c.loop-number.other c.in-None.is (many ∙ equal ∙ sym all) over c.loop-number.invariant.0,
      use_all (names_before c.args.before.now c.args.others.now) (names_in c.args.others.now) (map said_of kept) c.loop-number.number c.loop-number.other c.in-None.is over_kept c.loop-number.invariant.1,
    )
