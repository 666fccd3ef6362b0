-- The pages that extend none, one by one.
use Rattle.std.proofs.Common.{◌≡◌, ◌∙◌, ◌+◌, ◌<◌, ◌⊎◌, inl, inr, ℕ, List, [], ◌∷◌, ◌++◌, None, Some, length, refl, sym, ap, subst, arith}
use Rattle.std.specs.Prelude.{slice_get}
use Rattle.std.specs.List.{Contains}
use Rattle.std.proofs.lemmas.Bool.Decides.{eqb_tells}
use Rattle.std.proofs.lemmas.List.Elements.{Contains-append_left, Contains-push, Contains-push_cases}
use Rattle.tera_site.specs.Pages.{PageVal}
use Rattle.tera_site.specs.Tours.{AreTops, AreTopsTo}
use Rattle.tera_site.specs.declared.above.Step.{Step}
use Rattle.tera_site.specs.declared.above.Step.TheVariants.{Enter, Leave}
use Rattle.tera_site.proofs.TourLemmas.{none_in, same_Some}

same_Enter : (n m : ℕ) → Enter n ≡ Enter m → n ≡ m
same_Enter n m e = cc

Enter_Leave : (n m : ℕ) → Enter n ≡ Leave m → ⊥
Enter_Leave n m e = cc

pub no_tops : (ps : List PageVal) → AreTopsTo ps 0 []
no_tops ps = record {
  all = λ n p below at none. absurd (omega (arith, below));
  only = λ n p has. absurd (none_in (Enter n) has);
  none = λ n has. none_in (Leave n) has;
}

pub top_more : (ps : List PageVal) (at : ℕ) (steps : List Step) (p : PageVal) → slice_get ps at ≡ Some p → p.parent ≡ None
    → AreTopsTo ps at steps → AreTopsTo ps (at + 1) (steps ++ Enter at ∷ [])
top_more ps at steps p there none h = record {
  all = λ n q below here top. elim (eqb_tells n at) [
    | inl e ↦ subst (λ m. Contains (steps ++ Enter at ∷ []) (Enter m)) (sym e.1) (Contains-push steps (Enter at))
    | inr other ↦ Contains-append_left steps (Enter at ∷ []) (Enter n) (h.all n q (let ne = other.1 in omega (arith, below, ne)) here top)
  ];
  only = λ n q has here. elim (Contains-push_cases steps (Enter at) (Enter n) has) [
    | inl before ↦ h.only n q before here
    | inr e ↦ ap (λ r. r.parent) (same_Some q p (sym here ∙ ap (slice_get ps) (sym (same_Enter at n e)) ∙ there)) ∙ none
  ];
  none = λ n has. elim (Contains-push_cases steps (Enter at) (Leave n) has) [ inl before ↦ h.none n before | inr e ↦ Enter_Leave at n e ];
}

pub top_not : (ps : List PageVal) (at : ℕ) (steps : List Step) (p : PageVal) → slice_get ps at ≡ Some p → (p.parent ≡ None → ⊥)
    → AreTopsTo ps at steps → AreTopsTo ps (at + 1) steps
top_not ps at steps p there some h = record {
  all = λ n q below here top. elim (eqb_tells n at) [
    | inl e ↦ absurd (some (ap (λ r. r.parent) (same_Some p q (sym there ∙ ap (slice_get ps) (sym e.1) ∙ here)) ∙ top))
    | inr other ↦ h.all n q (let ne = other.1 in omega (arith, below, ne)) here top
  ];
  only = h.only;
  none = h.none;
}

pub all_tops : (ps : List PageVal) (at : ℕ) (steps : List Step) → at ≡ length ps → AreTopsTo ps at steps → AreTops ps steps
all_tops ps at steps end h = subst (λ n. AreTopsTo ps n steps) end h
