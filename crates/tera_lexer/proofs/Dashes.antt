-- Markers with their dashes.
use Rattle.std.proofs.Common.{◌≡◌, ℕ, ◌+◌, Bool, true, false, ◌&&◌, List, [], ◌∷◌, ◌++◌, length, drop, Some, subst, ⊎_elim, sym, refl, ap, ◌∙◌, arith, IsUtf8}
use Rattle.std.specs.Prelude.{◌==◌}
use Rattle.std.specs.Bool.{OnTrue}
use Rattle.std.specs.Str.{IsCharBoundary}
use Rattle.std.proofs.lemmas.Bool.{cases_Bool}
use Rattle.std.proofs.lemmas.List.{drop-drop}
use Rattle.std.proofs.lemmas.Str.{IsCharBoundary-from_rest, IsUtf8-append, IsUtf8-drop, IsUtf8-from_ascii}
use Rattle.std.proofs.lemmas.Str.Ascii.{IsAscii-cons}
use Rattle.tera_lexer.specs.grammar.Marks.{begins, dash_bytes, TakesDash}
use Rattle.tera_lexer.specs.reading.Front.{after_dash}
use Rattle.tera_lexer.specs.code.Markers.{marker_len, IsStartOf, IsEndOf}
use Rattle.tera_lexer.proofs.Markers.{begins_splits, marker_cut, dash_sound}
use Rattle.tera_lexer.proofs.Cuts.{cut_after_ascii, dash_ascii}

-- a start marker is found with its dash
pub start_found : (marker rest following : List ℕ) (dash : Bool) → IsUtf8 rest → IsUtf8 marker → length marker ≡ 2 → begins marker rest ≡ true → following ≡ drop 2 rest → dash ≡ begins (45 ∷ []) following → IsStartOf marker rest (Some dash)
start_found marker rest following dash utf8 text two here after_is dash_is =
    let cut = marker_cut rest marker utf8 text here in
    let is : following ≡ drop (length marker) rest = after_is ∙ ap (λ n. drop n rest) (sym two) in
    let utf8' : IsUtf8 following = subst IsUtf8 (sym is) (IsUtf8-drop rest (length marker) utf8 cut) in
    let (splits, takes) = dash_sound following in
    let d = begins (45 ∷ []) following in
    let at : drop (length (dash_bytes d)) following ≡ drop (marker_len marker d) rest = ap (drop (length (dash_bytes d))) is ∙ drop-drop (length (dash_bytes d)) (length marker) rest in
    let cut_on : IsCharBoundary (drop (length marker) rest) (length (dash_bytes d)) = subst (λ (l : List ℕ). IsCharBoundary l (length (dash_bytes d))) is (cut_after_ascii following (dash_bytes d) (after_dash following) utf8' splits (dash_ascii d)) in
    rw dash_is (
      (begins_splits marker rest here ∙ ap (λ l. marker ++ l) (sym is ∙ splits ∙ ap (λ l. dash_bytes d ++ l) at), subst (TakesDash d) at takes),
      IsCharBoundary-from_rest rest (length marker) (length (dash_bytes d)) cut.0 cut_on,
    )

-- an end marker likewise
pub begins_dashed : (marker rest : List ℕ) → begins (45 ∷ marker) rest ≡ (begins (45 ∷ []) rest && begins marker (drop 1 rest))
begins_dashed marker [] = refl
begins_dashed marker (b ∷ bs) = ⊎_elim (λ here. rw here refl) (λ other. rw other refl) (cases_Bool (45 == b))

pub end_found_dashed : (marker rest : List ℕ) → begins (45 ∷ marker) rest ≡ true → IsCharBoundary rest (length marker + 1) → IsEndOf marker rest (Some true)
end_found_dashed marker rest here cut =
    let len : length (45 ∷ marker) ≡ marker_len marker true = omega arith in
    (begins_splits (45 ∷ marker) rest here ∙ ap (λ n. 45 ∷ (marker ++ drop n rest)) len, cut)

pub end_found_plain : (marker rest : List ℕ) → begins (45 ∷ marker) rest ≡ false → begins marker rest ≡ true → IsCharBoundary rest (length marker) → IsEndOf marker rest (Some false)
end_found_plain marker rest no_dash here cut =
    let len : length marker ≡ marker_len marker false = omega arith in
    ((begins_splits marker rest here ∙ ap (λ n. marker ++ drop n rest) len, no_dash), subst (IsCharBoundary rest) len cut)

pub dashed_cut : (rest marker : List ℕ) (r : Bool) → IsUtf8 rest → IsUtf8 marker → r ≡ begins (45 ∷ marker) rest → OnTrue r (IsCharBoundary rest (length marker + 1))
dashed_cut rest marker true utf8 text e =
    let len : length (45 ∷ marker) ≡ length marker + 1 = omega arith in
    subst (IsCharBoundary rest) len (marker_cut rest (45 ∷ marker) utf8 (IsUtf8-append (45 ∷ []) marker dash_text text) (sym e))
  where
    dash_text : IsUtf8 (45 ∷ [])
    dash_text = IsUtf8-from_ascii (45 ∷ []) (IsAscii-cons 45 [] (omega arith) (λ i. omega arith))
dashed_cut rest marker false utf8 text e = tt
