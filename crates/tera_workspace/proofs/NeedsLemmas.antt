-- Names by which documents are judged that are stale, one document on.
use Rattle.std.proofs.Common.{◌≡◌, ◌∙◌, ◌+◌, ◌<◌, ◌∷◌, ◌++◌, ◌||◌, ℕ, List, [], Bool, true, false, BTreeSet, Bor, length, get_or, take, refl, sym, ap, subst}
use Rattle.std.proofs.lemmas.List.{take_more}
use Rattle.tera_workspace.specs.Kept.{NeedsAll}
use Rattle.tera_workspace.specs.Names.{is_among, contains_name}
use Rattle.tera_workspace.specs.declared.judged.Judged.{Judged}
use Rattle.tera_workspace.proofs.CurrentLemmas.{all_at}
use Rattle.tera_workspace.proofs.PlaceLemmas.{false_true}

abbrev NeedsOne : BTreeSet (Bor (List ℕ)) → Judged → Type 0
NeedsOne needed j = j.stale ≡ true → (n : List ℕ) → is_among n j.names ≡ true → contains_name needed n ≡ true

needs_more : (old now : BTreeSet (Bor (List ℕ))) (js : List Judged) (one : Judged) → ((n : List ℕ) → contains_name old n ≡ true → contains_name now n ≡ true)
    → NeedsOne now one → NeedsAll old js → NeedsAll now (js ++ one ∷ [])
needs_more old now [] one keeps this h = (this, tt)
needs_more old now (j ∷ js) one keeps this h = (λ stale n among. keeps n (h.0 stale n among), needs_more old now js one keeps this h.1)

needs_next : (old now : BTreeSet (Bor (List ℕ))) (js : List Judged) (i : ℕ) (j : Judged) → i < length js → j ≡ get_or js i j
    → ((n : List ℕ) → contains_name old n ≡ true → contains_name now n ≡ true) → NeedsOne now j → NeedsAll old (take i js) → NeedsAll now (take (i + 1) js)
needs_next old now js i j within is keeps this h =
    subst (NeedsAll now) (sym (take_more js i j within ∙ ap (λ x. take i js ++ x ∷ []) (sym is))) (needs_more old now (take i js) j keeps this h)

or_true : (b : Bool) → (b || true) ≡ true
or_true true = refl
or_true false = refl

pub needs_added : (old now : BTreeSet (Bor (List ℕ))) (js : List Judged) (i : ℕ) (j : Judged) → i < length js → j ≡ get_or js i j
    → ((n : List ℕ) → contains_name now n ≡ (contains_name old n || is_among n j.names)) → NeedsAll old (take i js) → NeedsAll now (take (i + 1) js)
needs_added old now js i j within is added h =
    needs_next old now js i j within is
    (λ n had. added n ∙ ap (λ b. b || is_among n j.names) had)
    (λ stale n among. added n ∙ (ap (λ b. contains_name old n || b) among ∙ or_true (contains_name old n)))
    h

pub needs_passed : (needed : BTreeSet (Bor (List ℕ))) (js : List Judged) (i : ℕ) (j : Judged) → i < length js → j ≡ get_or js i j
    → j.stale ≡ false → NeedsAll needed (take i js) → NeedsAll needed (take (i + 1) js)
needs_passed needed js i j within is fresh h =
    needs_next needed needed js i j within is (λ n had. had) (λ stale n among. absurd (false_true (sym fresh ∙ stale))) h

pub needs_at : (needed : BTreeSet (Bor (List ℕ))) (js : List Judged) (i : ℕ) (j : Judged) → i < length js → j ≡ get_or js i j → NeedsAll needed js → NeedsOne needed j
needs_at needed js i j within is all = subst (NeedsOne needed) (sym is) (all_at (NeedsOne needed) js i j all within)
