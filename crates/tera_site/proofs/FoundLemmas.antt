-- What is found of names is added in one template after the other.
use Rattle.std.proofs.Common.{◌≡◌, ◌∙◌, ◌<◌, ◌+◌, ◌⊎◌, inl, inr, ℕ, zero, suc, Bool, true, false, List, ◌++◌, map, refl, Result, Ok, Err, OnOk, Vec, sym, ap, subst, arith}
use Rattle.std.specs.Prelude.{slice_get}
use Rattle.std.specs.declared.alloc.Global.{Global}
use Rattle.std.specs.List.Sorted.{IsPermutation}
use Rattle.std.proofs.lemmas.List.{map-append}
use Rattle.std.proofs.lemmas.List.Sorted.{IsPermutation-append_right, IsPermutation-map, IsPermutation-trans}
use Rattle.tera_findings.specs.Findings.{FindingVal, finding_view}
use Rattle.tera_check.specs.OrderAndStatus.{IsInOrder}
use Rattle.tera_findings.specs.declared.finding.Finding.{Finding}
use Rattle.tera_check.specs.declared.found.Found.{Found}
use Rattle.tera_templates.specs.declared.templates.Template.{Template}
use Rattle.tera_site.specs.Found.{AddsAt, AddsIf, AreAdded, IsWith, is_named}
use Rattle.tera_site.specs.Named.{due_names}
use Rattle.tera_site.specs.Sites.{AroundVal}
use Rattle.tera_site.specs.declared.found.SiteNames.{SiteNames}
use Rattle.tera_site.proofs.TourLemmas.{no_way}

-- ---- one is replaced

-- ---- what is found in one

-- findings with others after them, in another order, are those and what these others are
pub together : (found more both : List Finding) (due : List FindingVal) → IsPermutation due (map finding_view more) → IsPermutation (found ++ more) both
    → IsPermutation (map finding_view found ++ due) (map finding_view both)
together found more both due same moved =
    IsPermutation-trans (map finding_view found ++ due) (map finding_view (found ++ more)) (map finding_view both)
    (subst (IsPermutation (map finding_view found ++ due)) (sym (map-append finding_view found more))
    (IsPermutation-append_right (map finding_view found) due (map finding_view more) same))
    (IsPermutation-map finding_view (found ++ more) both moved)

-- .. of a file
pub is_with : {E : Type 0} (r : Result (Unit {0}) E) (a : AroundVal) (t : Template) (old : Found) (findings : Vec Finding Global)
    → OnOk r (IsInOrder findings.items) → OnOk r (IsPermutation (map finding_view old.findings.items ++ due_names a t) (map finding_view findings.items))
    → OnOk r (IsWith a t old (record old { findings = findings }))
is_with (Ok x) a t old findings ordered found = record { file = refl; in_order = ordered; found = found }
is_with (Err x) a t old findings ordered found = tt

-- ---- one after the other

pub none_yet : (around : ℕ → AroundVal) (names : SiteNames) (ts : List Template) (old : List Found) → AreAdded around names ts 0 old old
none_yet around names ts old = record {
  each = refl;
  added = λ n t f g under named there was now. absurd (let no : ⊥ = omega (arith, under) in no);
  others = λ n rest. refl;
}

-- a number is below the next one, or is that
below_or : (n number : ℕ) → n < number + 1 → (n < number) ⊎ (n ≡ number)
below_or n zero under = inr (omega (arith, under))
below_or zero (suc m) under = inl (omega arith)
below_or (suc n) (suc m) under = elim (below_or n m (omega (arith, under))) [
  | inl before ↦ inl (omega (arith, before))
  | inr same ↦ inr (ap suc same)
]

module _ (around : ℕ → AroundVal) (names : SiteNames) (ts : List Template) (number : ℕ) (old mid : List Found) (h : AreAdded around names ts number old mid) where
  added_more : (new : List Found) → is_named names number ≡ true → AddsAt (around number) ts number mid new → AreAdded around names ts (number + 1) old new
  added_more new named step = record {
    each = step.each ∙ h.each;
    added = λ n t f g under is there was now. elim (below_or n number under) [
      | inl before ↦ h.added n t f g before is there was
          (sym (step.others n (λ same. let no : ⊥ = omega (arith, same, before) in absurd no)) ∙ now)
      | inr same ↦ subst (λ m. IsWith (around m) t f g) (sym same) (step.here t f g
          (ap (slice_get ts) (sym same) ∙ there)
          (h.others number (inl (omega arith)) ∙ ap (slice_get old) (sym same) ∙ was)
          (ap (slice_get new) (sym same) ∙ now))
    ];
    others = λ n rest. elim rest [
      | inl past ↦ step.others n (λ same. let no : ⊥ = omega (arith, same, past) in absurd no) ∙ h.others n (inl (omega (arith, past)))
      | inr unnamed ↦ step.others n (λ same. no_way (sym unnamed ∙ ap (is_named names) same ∙ named)) ∙ h.others n (inr unnamed)
    ];
  }

  not_added : is_named names number ≡ false → AreAdded around names ts (number + 1) old mid
  not_added unnamed = record {
    each = h.each;
    added = λ n t f g under is there was now. elim (below_or n number under) [
      | inl before ↦ h.added n t f g before is there was now
      | inr same ↦ absurd (no_way (sym unnamed ∙ ap (is_named names) (sym same) ∙ is))
    ];
    others = λ n rest. elim rest [
      | inl past ↦ h.others n (inl (omega (arith, past)))
      | inr unnamed ↦ h.others n (inr unnamed)
    ];
  }

  pub added_step : (new : List Found) (named : Bool) → is_named names number ≡ named → AddsIf named (around number) ts number mid new → AreAdded around names ts (number + 1) old new
  added_step new true named step = added_more new named step
  added_step new false unnamed same = subst (AreAdded around names ts (number + 1) old) (sym same) (not_added unnamed)
