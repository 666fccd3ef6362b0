-- What is added to what is found in templates, one after the other.
use Rattle.std.proofs.Common.{◌≡◌, ◌≢◌, ◌∙◌, ◌<◌, ◌+◌, ◌⊎◌, inl, inr, ℕ, zero, suc, List, [], ◌∷◌, ◌++◌, None, Some, length, map, refl, set, sym, ap, subst, arith}
use Rattle.std.specs.Prelude.{slice_get}
use Rattle.std.specs.List.Sorted.{IsPermutation}
use Rattle.std.proofs.lemmas.List.{length-set, map-append}
use Rattle.std.proofs.lemmas.List.Sorted.{IsPermutation-map}
use Rattle.tera_check.specs.Added.{AreAdded, IsAddedAt, IsWith}
use Rattle.tera_findings.specs.Findings.{FindingVal, finding_view}
use Rattle.tera_findings.specs.declared.finding.Finding.{Finding}
use Rattle.tera_check.specs.declared.found.Found.{Found}
use Rattle.tera_templates.specs.declared.templates.Template.{Template}

-- ---- in one template

None_Some : {X : Type 0} (x : X) → None ≡ Some x → ⊥
None_Some x e = cc

same_Some : {X : Type 0} (x y : X) → Some x ≡ Some y → x ≡ y
same_Some x y e = cc

get_other : {X : Type 0} (xs : List X) (i j : ℕ) (y : X) → j ≢ i → slice_get (set xs i y) j ≡ slice_get xs j
get_other [] i j y other = refl
get_other (x ∷ xs) zero zero y other = absurd (other refl)
get_other (x ∷ xs) zero (suc j) y other = refl
get_other (x ∷ xs) (suc i) zero y other = refl
get_other (x ∷ xs) (suc i) (suc j) y other = get_other xs i j y (λ same. other (ap suc same))

get_same : {X : Type 0} (xs : List X) (i : ℕ) (x y : X) → slice_get xs i ≡ Some x → slice_get (set xs i y) i ≡ Some y
get_same [] i x y is = absurd (None_Some x is)
get_same (z ∷ xs) zero x y is = refl
get_same (z ∷ xs) (suc i) x y is = get_same xs i x y is

pub replaced : (due : Template → List FindingVal) (ts : List Template) (number : ℕ) (old : List Found) (t : Template) (f g : Found)
    → slice_get ts number ≡ Some t → slice_get old number ≡ Some f → IsWith (due t) f g → IsAddedAt due ts number old (set old number g)
replaced due ts number old t f g has was is = record {
  each = length-set old number g;
  here = λ u h k there before now.
      subst (λ x. IsWith (due x) h k) (same_Some t u (sym has ∙ there))
      (subst (λ x. IsWith (due t) x k) (same_Some f h (sym was ∙ before))
      (subst (λ x. IsWith (due t) f x) (same_Some g k (sym (get_same old number f g was) ∙ now)) is));
  others = λ n other. get_other old number n g other;
}

pub none_added : (due : Template → List FindingVal) (ts : List Template) (number : ℕ) (old : List Found) → slice_get ts number ≡ None → IsAddedAt due ts number old old
none_added due ts number old none = record {
  each = refl;
  here = λ t f g there was now. absurd (None_Some t (sym none ∙ there));
  others = λ n other. refl;
}

pub none_found : (due : Template → List FindingVal) (ts : List Template) (number : ℕ) (old : List Found) → slice_get old number ≡ None → IsAddedAt due ts number old old
none_found due ts number old none = record {
  each = refl;
  here = λ t f g there was now. absurd (None_Some f (sym none ∙ was));
  others = λ n other. refl;
}

-- findings with others after them, in another order, are those and these others
pub together : (found more both : List Finding) → IsPermutation (found ++ more) both
    → IsPermutation (map finding_view found ++ map finding_view more) (map finding_view both)
together found more both moved =
    subst (λ fs. IsPermutation fs (map finding_view both)) (map-append finding_view found more) (IsPermutation-map finding_view (found ++ more) both moved)

-- ---- one after the other

pub none_yet : (due : Template → List FindingVal) (ts : List Template) (old : List Found) → AreAdded due ts 0 old old
none_yet due ts old = record {
  each = refl;
  added = λ n t f g under there was now. absurd (let no : ⊥ = omega (arith, under) in no);
  others = λ n rest. refl;
}

-- a number is below the next one, or is that
below_or : (n number : ℕ) → n < number + 1 → (n < number) ⊎ (n ≡ number)
below_or n zero under = inr (omega (arith, under))
below_or zero (suc m) under = inl (omega arith)
below_or (suc n) (suc m) under = elim (below_or n m (omega (arith, under))) [
  | inl before ↦ inl (omega (arith, before))
  | inr same ↦ inr (ap suc same)
]

pub added_more : (due : Template → List FindingVal) (ts : List Template) (number : ℕ) (old mid new : List Found)
    → AreAdded due ts number old mid → IsAddedAt due ts number mid new → AreAdded due ts (number + 1) old new
added_more due ts number old mid new h step = record {
  each = step.each ∙ h.each;
  added = λ n t f g under there was now. elim (below_or n number under) [
    | inl before ↦ h.added n t f g before there was
        (sym (step.others n (λ same. let no : ⊥ = omega (arith, same, before) in absurd no)) ∙ now)
    | inr same ↦ step.here t f g
        (ap (slice_get ts) (sym same) ∙ there)
        (h.others number (omega arith) ∙ ap (slice_get old) (sym same) ∙ was)
        (ap (slice_get new) (sym same) ∙ now)
  ];
  others = λ n past. step.others n (λ same. let no : ⊥ = omega (arith, same, past) in absurd no) ∙ h.others n (omega (arith, past));
}
