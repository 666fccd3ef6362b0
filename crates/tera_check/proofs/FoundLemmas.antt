-- What is found in templates, one after another.
use Rattle.std.proofs.Common.{◌≡◌, ◌<◌, ◌+◌, ℕ, suc, List, [], ◌∷◌, ◌++◌, Bool, length, map, Option, Result, Ok, Err, IfOk, Vec, Global, subst, arith}
use Rattle.std.specs.List.Sorted.{IsPermutation}
use Rattle.tera_check.specs.Due.{due_findings}
use Rattle.tera_templates.specs.FaultFindings.{AreFaultsOf}
use Rattle.tera_findings.specs.Findings.{FindingVal, finding_view}
use Rattle.tera_rules.specs.Judged.{KnownVal}
use Rattle.tera_check.specs.OrderAndStatus.{IsInOrder}
use Rattle.tera_findings.specs.declared.finding.Finding.{Finding}
use Rattle.tera_templates.specs.declared.templates.Template.{Template}
use Rattle.tera_check.specs.Found.{AreFound, none, one, IsFoundUnder, IsFoundOf}
use Rattle.tera_check.specs.declared.found.Found.{Found}

-- functions that answer the same
pub same_answers : {X Y : Type 0} (f g : X → Y) → ((x : X) → f x ≡ g x) → f ≡ g
same_answers f g same = λ i x. same x i

module _ (known : List ℕ → Option KnownVal) (open_text : Bool) (checked : ℕ) where
  pub found_more : (number : ℕ) (templates : List Template) (all : List Found) (template : Template) (found : Found)
      → AreFound known open_text checked number templates all → IsFoundUnder known open_text checked (number + length templates) template found
      → AreFound known open_text checked number (templates ++ template ∷ []) (all ++ found ∷ [])
  found_more number [] [] template found none last =
      let here : number + 0 ≡ number = omega arith in
      one (subst (λ n. IsFoundUnder known open_text checked n template found) here last) none
  found_more number [] (f ∷ fs) template found held last = elim held [ ]
  found_more number (t ∷ ts) [] template found held last = elim held [ ]
  found_more number (t ∷ ts) (f ∷ fs) template found (one first rest) last =
      let here : number + suc (length ts) ≡ suc number + length ts = omega arith in
      one first (found_more (suc number) ts fs template found rest (subst (λ n. IsFoundUnder known open_text checked n template found) here last))

  -- what is found in a template that is checked, and in one of the library
  pub found_of_checked : {E : Type 0} (number : ℕ) (t : Template) (r : Result (Vec Finding Global) E) → number < checked → IfOk r (λ v. IsInOrder v.items) →
      IfOk r (λ v. (faults : List FindingVal) × AreFaultsOf t faults × IsPermutation (faults ++ due_findings known open_text number t) (map finding_view v.items)) →
      IfOk r (λ v. IsFoundOf known open_text checked number t v.items)
  found_of_checked number t (Ok v) within ordered found = record {
    in_order = ordered;
    found = λ _. record { faults = found.0; are = found.1; found = found.2 };
    of_library = λ past. absurd (omega (arith, within, past));
  }
  found_of_checked number t (Err e) within ordered found = tt
