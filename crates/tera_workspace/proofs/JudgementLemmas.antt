-- What is found in the document of a number.
use Rattle.std.proofs.Common.{◌≡◌, ◌∙◌, ◌<◌, ◌++◌, ℕ, zero, suc, List, [], ◌∷◌, length, get_or, slice_get, map, Bool, true, false, Some, Option, if◌then◌else◌, refl, sym, ap, subst, arith}
use Rattle.std.proofs.lemmas.Option.{slice_get-map, slice_get-get_or}
use Rattle.std.proofs.lemmas.Slice.Eq.{bytes_eq-Decides}
use Rattle.std.specs.List.Sorted.{IsPermutation}
use Rattle.std.specs.Option.{option_map}
use Rattle.tera_check.specs.Due.{due_findings}
use Rattle.tera_templates.specs.FaultFindings.{AreFaultsOf}
use Rattle.tera_findings.specs.Findings.{FindingVal, finding_view}
use Rattle.tera_rules.specs.Judged.{KnownVal}
use Rattle.tera_templates.specs.Lost.{are_open}
use Rattle.tera_check.specs.Named.{first_named, defined_by}
use Rattle.tera_check.specs.OrderAndStatus.{IsInOrder}
use Rattle.tera_findings.specs.declared.finding.Finding.{Finding}
use Rattle.tera_templates.specs.declared.templates.Template.{Template}
use Rattle.tera_workspace.specs.Fresh.{IsFound}
use Rattle.tera_workspace.specs.Kept.{name_of, sources_of, templates_of, NoneBefore, IsNumbered}
use Rattle.tera_workspace.specs.Names.{is_among}
use Rattle.tera_workspace.specs.Sources.{Source}
use Rattle.tera_workspace.specs.declared.judged.Judged.{Judged}

-- its name and its template
pub named_at : (name : List ℕ) (js : List Judged) (k : ℕ) → IsNumbered name js k → slice_get (map (λ (s : Source). s.name) (sources_of js)) k ≡ Some name
named_at name [] k h = absurd (omega (arith, h.within))
named_at name (j ∷ js) zero h = ap Some ((bytes_eq-Decides (name_of j) name).0 (h.is j))
named_at name (j ∷ js) (suc k) h = named_at name js k (record { within = omega (arith, h.within); is = h.is; first = λ m e below. h.first (suc m) e (omega arith) })

pub none_among : (name : List ℕ) (js : List Judged) → NoneBefore name js (length js) → is_among name (map (λ (s : Source). s.name) (sources_of js)) ≡ false
none_among name [] h = refl
none_among name (j ∷ js) h =
    ap (λ (b : Bool). if b then true else is_among name (map (λ (s : Source). s.name) (sources_of js))) (h 0 j (omega arith))
    ∙ none_among name js (λ m e below. h (suc m) e (omega arith))

pub template_there : (js : List Judged) (k : ℕ) (j : Judged) → k < length js → j ≡ get_or js k j → slice_get (templates_of js) k ≡ Some j.template
template_there js k j within is =
    slice_get-map (λ (x : Judged). x.template) js k ∙ ap (option_map (λ (x : Judged). x.template)) (slice_get-get_or js k j within ∙ ap Some (sym is))

-- what is found in it by all components
pub found_by_all : (known : List ℕ → Option KnownVal) (open_text : Bool) (ts : List Template) (number : ℕ) (t : Template) (fs : List Finding)
    → ((n : List ℕ) → known n ≡ first_named n (defined_by 0 ts)) → open_text ≡ are_open ts → IsInOrder fs
    → (faults : List FindingVal) → AreFaultsOf t faults → IsPermutation (faults ++ due_findings known open_text number t) (map finding_view fs)
    → IsFound ts number t fs
found_by_all known open_text ts number t fs same is ordered faults are found = record {
  ordered = ordered;
  faults = faults;
  are = are;
  found =
      subst (λ x. IsPermutation (faults ++ x) (map finding_view fs))
      (ap (λ b. due_findings known b number t) is ∙ (λ i. due_findings (λ n. same n i) (are_open ts) number t)) found;
}
