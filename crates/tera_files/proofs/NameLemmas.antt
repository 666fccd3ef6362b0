-- What names end in.
use Rattle.std.proofs.Common.{◌≡◌, ◌≢◌, ◌<◌, ◌+◌, ◌-◌, ltb, ltb-true, ltb-false, ⊎_elim, false, ℕ, Bool, None, List, [], ◌∷◌, ◌++◌, true, eqb, map, length, take, drop, sym, ap, ◌∙◌, subst, arith, Bor}
use Rattle.std.specs.Prelude.{Contains}
use Rattle.std.specs.List.{ends_with, list_any}
use Rattle.std.specs.Str.{bytes_eq}
use Rattle.std.specs.Str.Pattern.{SplitsAroundMatch, RFindsChar}
use Rattle.std.proofs.lemmas.Bool.{cases_Bool}
use Rattle.std.proofs.lemmas.Bool.Decides.{Decides-eqb}
use Rattle.std.proofs.lemmas.List.{append_assoc, append_cancel_right, get_or_default, get_or-map, length-map, take-append-drop}
use Rattle.std.proofs.lemmas.List.Folds.{Any-from_list_any}
use Rattle.std.proofs.lemmas.Slice.Eq.{bytes_eq-Decides, ends_is}
use Rattle.std.proofs.lemmas.Str.Pattern.{NoCharPasses-char, drop_at_char}
use Rattle.tera_files.specs.Names.{HasExtension, point}

-- a name ends in a point and an extension where what is before the extension ends in a point
pub pointed : (name front extension : List ℕ) (ends : Bool) → name ≡ front ++ extension → ends ≡ ends_with eqb front (point ∷ [])
    → (ends ≡ true → HasExtension name extension) × (HasExtension name extension → ends ≡ true)
pointed name front extension ends whole is =
    let decided = ends_is Decides-eqb front (point ∷ []) ends is in
    let before = take (length front - 1) front in (
      (λ yes. (before, whole ∙ ap (λ l. l ++ extension) (decided.0 yes) ∙ append_assoc before (point ∷ []) extension)),
      (λ has. decided.1 has.0 (append_cancel_right front (has.0 ++ point ∷ []) extension
          (sym whole ∙ has.1 ∙ sym (append_assoc has.0 (point ∷ []) extension)))),
    )

-- it does not where it does not end in the extension
pub unpointed : (name extension : List ℕ) → ((front : List ℕ) → name ≢ front ++ extension) → ¬ (HasExtension name extension)
unpointed name extension none has = none (has.0 ++ point ∷ []) (has.1 ∙ sym (append_assoc has.0 (point ∷ []) extension))

-- what holds of none of the first holds of none of one more
pub one_more : (Is : ℕ → Type 0) (i : ℕ) → ((k : ℕ) → k < i → ¬ (Is k)) → ¬ (Is i) → (k : ℕ) → k < i + 1 → ¬ (Is k)
one_more Is i none last k below is =
    ⊎_elim
    (λ (less : ltb k i ≡ true). none k (omega (arith, ltb-true k i less)) is)
    (λ (more : ltb k i ≡ false).
    let same : k ≡ i = omega (arith, below, ltb-false k i more) in
    last (subst Is same is))
    (cases_Bool (ltb k i))

-- the parts of a name round the last of a character
pub parts : (c : ℕ) (name front back : List ℕ) → SplitsAroundMatch (RFindsChar c) name front back → c < 128
    → (name ≡ front ++ c ∷ back) × ¬ (Contains back c)
parts c name front back found low =
    let i = found.0 in
    let j = found.1 in
    let following = drop_at_char c name i j found.2.1 low in
    let whole : name ≡ take i name ++ c ∷ drop j name = sym (take-append-drop i name) ∙ ap (λ text. take i name ++ text) following in
    let none : ¬ (Contains (drop j name) c) = λ at. NoCharPasses-char c (drop j name) at.0 found.2.0 low at.1 (get_or_default (drop j name) at.0 0 c at.1 ∙ at.2) in
    rw (found.3, found.4) (whole, none)

-- a name in which none is found has none
pub none_in : (c : ℕ) (name : List ℕ) → RFindsChar c name None → c < 128 → ¬ (Contains name c)
none_in c name none low at = NoCharPasses-char c name at.0 none low at.1 (get_or_default name at.0 0 c at.1 ∙ at.2)

-- a text is among those that some references lead to
pub Contains-from_list_any : (texts : List (Bor (List ℕ))) (text : List ℕ) → list_any (λ t. bytes_eq t.now text) texts ≡ true
    → Contains (map (λ t. t.now) texts) text
Contains-from_list_any texts text any =
    let found = Any-from_list_any (λ (t : Bor (List ℕ)). bytes_eq t.now text) texts any in
    let k = found.0 in
    let same : (found.1).now ≡ text = (bytes_eq-Decides (found.1).now text).0 found.4 in
    (k, rw length-map found.2, get_or-map (λ (t : Bor (List ℕ)). t.now) texts k found.1 text found.2 ∙ ap (λ (t : Bor (List ℕ)). t.now) found.3 ∙ same)
