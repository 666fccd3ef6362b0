-- Walks from one place of a text to another.
use Rattle.std.proofs.Common.{◌≡◌, ◌∙◌, ◌+◌, ◌-◌, ◌<◌, ◌≤◌, ◌^◌, ◌++◌, ℕ, List, [], length, take, drop, get_or, refl, sym, ap, arith}
use Rattle.std.specs.Prelude.{count_by, not}
use Rattle.std.specs.List.{after_last, suffix_len}
use Rattle.std.proofs.lemmas.List.{drop-take, length-append, length-drop, length-take-le, take-append-drop, take-take}
use Rattle.std.proofs.lemmas.List.Sums.{count_by-le-length}
use Rattle.tera_lexer.specs.code.Counting.{stepped}
use Rattle.tera_lexer.specs.grammar.Place.{begins_character, is_line_feed, place_after}
use Rattle.tera_mend.proofs.PlacesLemmas.{place_step}
use Rattle.tera_templates.specs.FaultFindings.{IsAt, walk_view}
use Rattle.tera_templates.specs.declared.walk.Walk.{Walk}

-- what is before a byte, and from there up to another
pub parts : (t : List ℕ) (start byte : ℕ) → start ≤ byte → take start t ++ take (byte - start) (drop start t) ≡ take byte t
parts t start byte le =
    let whole : start + (byte - start) ≡ byte = omega arith in
    let back : drop start (take byte t) ≡ take (byte - start) (drop start t) = ap (λ n. drop start (take n t)) (sym whole) ∙ drop-take start (byte - start) t in
    let front : take start (take byte t) ≡ take start t = take-take start byte t le in
    let all : take start (take byte t) ++ drop start (take byte t) ≡ take byte t = take-append-drop start (take byte t) in
    cc

pub at_first : (t : List ℕ) (w : Walk) → walk_view w ≡ place_after [] → IsAt t w × (w.byte ≡ 0)
unfolding place_after
at_first t w is =
    let none : w.byte ≡ 0 = ap (λ p. p.byte) is in
    (is ∙ ap (λ n. place_after (take n t)) (sym none), none)

pub arrives : (t : List ℕ) (w : Walk) (byte : ℕ) → byte ≤ length t → walk_view w ≡ place_after (take byte t) → IsAt t w × (w.byte ≡ byte)
unfolding place_after
arrives t w byte le is =
    let same : w.byte ≡ byte = ap (λ p. p.byte) is ∙ length-take-le byte t le in
    (is ∙ ap (λ n. place_after (take n t)) (sym same), same)

-- one more fits each number
pub fits : (w : Walk) (t : List ℕ) → walk_view w ≡ place_after t → length t + 2 < 2 ^ 64 → (w.byte + 1 < 2 ^ 64) × ((w.line + 1 < 2 ^ 64) × (w.column + 1 < 2 ^ 64))
unfolding place_after
fits w t is few =
    let byte : w.byte ≡ length t = ap (λ p. p.byte) is in
    let line : w.line ≡ 1 + count_by is_line_feed t = ap (λ p. p.line) is in
    let column : w.column ≡ count_by begins_character (after_last is_line_feed t) = ap (λ p. p.column) is in
    let lines : count_by is_line_feed t ≤ length t = count_by-le-length is_line_feed t in
    let last : length (after_last is_line_feed t) ≤ length t = omega (arith, length-drop (length t - suffix_len (λ b. not (is_line_feed b)) t) t) in
    let columns : count_by begins_character (after_last is_line_feed t) ≤ length (after_last is_line_feed t) = count_by-le-length begins_character _ in
    (omega arith, (omega arith, omega arith))

-- one byte further: the walk w is after i bytes of a part of the text, which is shorter than the text
pub further : (front part : List ℕ) (i : ℕ) (w next : Walk) → i < length part → length front + length part + 2 < 2 ^ 64
    → (w.byte + 1 < 2 ^ 64 → w.line + 1 < 2 ^ 64 → w.column + 1 < 2 ^ 64 → walk_view next ≡ stepped (walk_view w) (get_or part i 0))
    → walk_view w ≡ place_after (front ++ take i part) → walk_view next ≡ place_after (front ++ take (i + 1) part)
further front part i w next below few step is =
    let short : length (take i part) ≡ i = length-take-le i part (omega arith) in
    let small : length (front ++ take i part) + 2 < 2 ^ 64 = omega (arith, length-append front (take i part)) in
    let (byte, (line, column)) = fits w (front ++ take i part) is small in
    place_step front part i (walk_view w) (walk_view next) below is (step byte line column)
