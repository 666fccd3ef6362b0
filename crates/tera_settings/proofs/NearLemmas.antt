-- The nearest of some names, name by name.
use Rattle.std.proofs.Common.{◌≡◌, ◌⊎◌, ◌+◌, ◌<◌, Bor, ap, get_or, length, map, subst, take, ℕ, ◌≤◌, List, [], ◌∷◌, ◌++◌, Bool, true, false, Option, None, Some, All, Contains, lit<, nat_le, inl, inr, refl, sym, ◌∙◌, arith}
use Rattle.std.proofs.lemmas.Bool.{cases_Bool, false≢true, leb-true}
use Rattle.std.proofs.lemmas.Bool.Decides.{leb_tells}
use Rattle.std.proofs.Math.Seq.{take-length}
use Rattle.std.proofs.lemmas.List.{map-append, take_more}
use Rattle.std.specs.Option.{option_map}
use Rattle.std.proofs.lemmas.List.Elements.{All-push, Contains-append_left, Contains-append_right}
use Rattle.tera_settings.specs.Near.{IsNearest, NearVal, distance, is_near, nearer}
use Rattle.tera_settings.specs.Values.{texts}
use Rattle.tera_settings.proofs.ValueLemmas.{no_name}

-- the nearest so far, and how many edits lead to it
abbrev pub IsBest : List ℕ → List (List ℕ) → Option NearVal → Type 0
IsBest word names None = IsNearest word names None
IsBest word names (Some near) = (near.1 ≡ distance word near.0) × IsNearest word names (Some near.0)

-- no name is nearer than another
abbrev AreFarther : List ℕ → List (List ℕ) → ℕ → Type 0
AreFarther word names far = All (λ name. is_near word name ≡ true → far ≤ distance word name) names

last : (names : List (List ℕ)) (name : List ℕ) → Contains (names ++ name ∷ []) name
last names name = Contains-append_right names (name ∷ []) name (0, lit< tt, refl)

-- none before it is near
is_first : (word : List ℕ) (names : List (List ℕ)) (name : List ℕ) → All (λ other. is_near word other ≡ false) names → is_near word name ≡ true
    → IsBest word (names ++ name ∷ []) (Some (name, distance word name))
is_first word names name none near =
    let far : AreFarther word (names ++ name ∷ []) (distance word name) =
    All-push (λ other. is_near word other ≡ true → distance word name ≤ distance word other) names name
    (λ k d below is. absurd (false≢true (sym (none k d below) ∙ is))) (λ _. omega arith) in
    (refl, (last names name, near, far))

-- it is nearer than the nearest before it
is_nearer : (word : List ℕ) (names : List (List ℕ)) (near name : List ℕ) → AreFarther word names (distance word near) → is_near word name ≡ true
    → distance word name ≤ distance word near → IsBest word (names ++ name ∷ []) (Some (name, distance word name))
is_nearer word names near name farther is nearer =
    let far : AreFarther word (names ++ name ∷ []) (distance word name) =
    All-push (λ other. is_near word other ≡ true → distance word name ≤ distance word other) names name
    (λ k d below is. let more = farther k d below is in omega arith) (λ _. omega arith) in
    (refl, (last names name, is, far))

-- it is not
is_farther : (word : List ℕ) (names : List (List ℕ)) (near name : List ℕ) → IsNearest word names (Some near) → (is_near word name ≡ true → distance word near ≤ distance word name)
    → IsNearest word (names ++ name ∷ []) (Some near)
is_farther word names near name best more =
    (Contains-append_left names (name ∷ []) near best.0, best.1, All-push (λ other. is_near word other ≡ true → distance word near ≤ distance word other) names name best.2 more)

-- one more name
pub best_next : (word : List ℕ) (names : List (List ℕ)) (best : Option NearVal) (name : List ℕ) → IsBest word names best
    → IsBest word (names ++ name ∷ []) (nearer best (name, distance word name))
best_next word names None name h =
    elim (cases_Bool (is_near word name)) [
      | inl is ↦ rw is (is_first word names name h is)
      | inr off ↦ rw off (All-push (λ other. is_near word other ≡ false) names name h off)
    ]
best_next word names (Some (near, far)) name (counted, best) =
    elim (cases_Bool (is_near word name)) [
      | inl is ↦ elim (leb_tells far (distance word name)) [
        | inl (test, below) ↦ rw (is, test) (counted, is_farther word names near name best (λ _. omega arith))
        | inr (test, above) ↦ rw (is, test) (is_nearer word names near name best.2 is (omega arith))
      ]
      | inr off ↦ rw off (counted, is_farther word names near name best (λ is. absurd (false≢true (sym off ∙ is))))
    ]

-- the next of the names in a loop
pub best_more : (word : List ℕ) (names : List (Bor (List ℕ))) (i : ℕ) (before after : Option NearVal) (far : ℕ) → i < length names → IsBest word (texts (take i names)) before
    → far ≡ distance word (get_or names i no_name).now → after ≡ nearer before ((get_or names i no_name).now, far) → IsBest word (texts (take (i + 1) names)) after
best_more word names i before after far below h counted is =
    let name = (get_or names i no_name).now in
    let one : texts (take (i + 1) names) ≡ texts (take i names) ++ name ∷ [] = ap texts (take_more names i no_name below) ∙ map-append (λ (t : Bor (List ℕ)). t.now) (take i names) (get_or names i no_name ∷ []) in
    subst (IsBest word (texts (take (i + 1) names))) (sym is)
    (subst (λ f. IsBest word (texts (take (i + 1) names)) (nearer before (name, f))) (sym counted)
    (subst (λ all. IsBest word all (nearer before (name, distance word name))) (sym one) (best_next word (texts (take i names)) before name h)))

-- the nearest of all
pub best_of_all : (word : List ℕ) (names : List (Bor (List ℕ))) (best : Option NearVal) → IsBest word (texts (take (length names) names)) best
    → IsNearest word (texts names) (option_map (λ near. near.0) best)
best_of_all word names None h = subst (λ all. IsNearest word (texts all) None) (take-length names) h
best_of_all word names (Some near) h = subst (λ all. IsNearest word (texts all) (Some near.0)) (take-length names) h.1
