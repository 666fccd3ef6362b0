-- What is found in a template, in whatever order.
use Rattle.std.proofs.Common.{◌≡◌, ◌∙◌, ◌+◌, ◌<◌, ℕ, zero, suc, List, [], ◌∷◌, ◌++◌, Option, None, Some, Result, Ok, Err, length, get_or, map, refl, sym, subst, ap, arith}
use Rattle.std.specs.List.{All}
use Rattle.std.specs.List.Sorted.{IsPermutation}
use Rattle.std.proofs.lemmas.List.Sorted.{All-permutation, IsPermutation-map, IsPermutation-trans, length_permutation}
use Rattle.tera_base.specs.ErrorView.{error_view}
use Rattle.tera_base.specs.declared.errors.Error.{Error}
use Rattle.tera_tree.specs.declared.outputs.ParserOutput.{ParserOutput}
use Rattle.tera_templates.specs.FaultFindings.{AreFaultsBy, AreFaultsOf}
use Rattle.tera_findings.specs.Findings.{FindingVal, IsOfError, finding_view}
use Rattle.tera_findings.specs.declared.finding.Finding.{Finding}
use Rattle.tera_templates.specs.declared.mended.Mended.{Mended}
use Rattle.tera_templates.specs.declared.templates.Template.{Template}

none_left : (gs : List FindingVal) → length gs ≡ 0 → gs ≡ []
none_left [] none = refl
none_left (g ∷ gs) none = absurd (omega (arith, none))

one_left : (f : FindingVal) (gs : List FindingVal) → length gs ≡ 1 → All (λ g. g ≡ f) gs → gs ≡ f ∷ []
one_left f [] one all = absurd (omega (arith, one))
one_left f (g ∷ []) one all = ap (λ x. x ∷ []) (all 0 g (omega arith))
one_left f (g ∷ h ∷ gs) one all = absurd (omega (arith, one))

only : (f : FindingVal) (k : ℕ) (d : FindingVal) → k < 1 → get_or (f ∷ []) k d ≡ f
only f zero d below = refl
only f (suc k) d below = absurd (omega arith)

all_one : (f : FindingVal) (fs : List FindingVal) → fs ≡ f ∷ [] → All (λ g. g ≡ f) fs
all_one f fs is = subst (All (λ g. g ≡ f)) (sym is) (λ k d below. only f k d below)

faults_by : (file : List ℕ) (parsed : Result ParserOutput Error) (mended : Option Mended) (fs gs : List FindingVal) → AreFaultsBy file parsed mended fs → IsPermutation fs gs
    → AreFaultsBy file parsed mended gs
faults_by file (Ok o) mended fs gs none same = none_left gs (length_permutation fs gs same ∙ ap length none)
faults_by file (Err e) None fs gs (f, one, is) same =
    (f, one_left f gs (length_permutation fs gs same ∙ ap length one) (All-permutation (λ g. g ≡ f) fs gs same (all_one f fs one)), is)
faults_by file (Err e) (Some m) fs gs (each, are, moved) same = (each, are, IsPermutation-trans each fs gs moved same)

pub faults_sorted : (t : Template) (found sorted : List Finding) → AreFaultsOf t (map finding_view found) → IsPermutation found sorted → AreFaultsOf t (map finding_view sorted)
faults_sorted t found sorted are same = faults_by _ t.parsed t.mended _ _ are (IsPermutation-map finding_view found sorted same)

pub all_sorted : (t : Template) (faults all sorted : List Finding) (due : List FindingVal) → AreFaultsOf t (map finding_view faults) → map finding_view all ≡ map finding_view faults ++ due → IsPermutation all sorted
    → (of_faults : List FindingVal) × AreFaultsOf t of_faults × IsPermutation (of_faults ++ due) (map finding_view sorted)
all_sorted t faults all sorted due are is same =
    (map finding_view faults, are, subst (λ fs. IsPermutation fs (map finding_view sorted)) is (IsPermutation-map finding_view all sorted same))
