-- Names that are added one after another.
use Rattle.std.proofs.Common.{◌≡◌, ◌≢◌, ◌∙◌, inr, ◌+◌, ◌++◌, ◌∷◌, [], ℕ, List, Option, None, Some, Bor, refl, sym, ap, subst, append_assoc, arith}
use Rattle.std.specs.Option.{MatchOption}
use Rattle.std.specs.Str.Pattern.{FindsCharSuffix, StripsSuffix}
use Rattle.std.proofs.lemmas.List.{append-nil}
use Rattle.std.proofs.lemmas.Str.Pattern.{strip_suffix_char}
use Rattle.tera_server.specs.Notes.{AreNames, AddsName, IsBare}

-- what is to come of the names of all, when those of the first ones are there
abbrev pub Follow : List (Option (List ℕ)) → List (Option (List ℕ)) → List (List ℕ) → Type 0
Follow all uris names = (rest : List (List ℕ)) → AreNames uris rest → AreNames all (names ++ rest)

pub follow_next : (all uris : List (Option (List ℕ))) (u : Option (List ℕ)) (old now : List (List ℕ)) → Follow all (u ∷ uris) old → AddsName u old now → Follow all uris now
follow_next all uris None old now h same = subst (λ ns. Follow all uris ns) (sym same) h
follow_next all uris (Some uri) old now h (name, is, more) = λ rest are.
    subst (λ ns. AreNames all ns) (sym (append_assoc old (name ∷ []) rest) ∙ ap (λ ns. ns ++ rest) (sym more)) (h (name ∷ rest) (name, rest, is, refl, are))

pub follow_done : (all : List (Option (List ℕ))) (names : List (List ℕ)) → Follow all [] names → AreNames all names
follow_done all names h = subst (λ ns. AreNames all ns) (append-nil names) (h [] refl)

-- ---- a slash at the end of a path

pub not_slashed : (path : List ℕ) (r : Option (Bor (List ℕ))) → MatchOption r (FindsCharSuffix 47 path None) (λ x. StripsSuffix (FindsCharSuffix 47) path x.now) → r ≡ None → IsBare path path
not_slashed path r h is =
    let none : (front : List ℕ) → path ≢ front ++ (47 ∷ []) =
    subst (λ (o : Option (Bor (List ℕ))). MatchOption o ((front : List ℕ) → path ≢ front ++ (47 ∷ [])) (λ x. path ≡ x.now ++ (47 ∷ []))) is (strip_suffix_char 47 path r h (omega arith)) in
    inr (refl, λ front some. none front)
