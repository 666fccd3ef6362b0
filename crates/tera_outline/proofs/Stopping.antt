-- Where the tokens of a text stop.
use Rattle.std.proofs.Common.{◌≡◌, ◌≢◌, ◌+◌, ◌-◌, ◌<◌, ◌≤◌, ◌++◌, ℕ, zero, suc, Bool, true, false, Option, Some, None, List, [], ◌∷◌, length, length-append, drop, map, min, inl, inr, refl, sym, ap, subst, ◌∙◌, arith}
use Rattle.std.proofs.lemmas.Bool.{cases_Bool}
use Rattle.std.proofs.lemmas.Bool.Decides.{leb_tells}
use Rattle.std.proofs.lemmas.List.{length-drop}
use Rattle.tera_lexer.specs.grammar.Marks.{default_marks}
use Rattle.tera_lexer.specs.grammar.Tokens.{Items, Ended, Failed, Token, AreTokensOf}
use Rattle.tera_lexer.specs.grammar.Place.{place_after}
use Rattle.tera_lexer.specs.grammar.Tiling.{Tile, in_tag_after}
use Rattle.tera_base.specs.declared.utils.Span.{Span}
use Rattle.tera_lexer.proofs.Tilings.{tokens_tile}
use Rattle.tera_layout.proofs.Defaults.{default_valid}
use Rattle.tera_outline.specs.Pieces.{Part, parts_in, opened_after, goes_over, read_in, stopped_after, next_of, before, moved, AreWithRest, AreReadBy, ArePartsOf, AreBetween}
use Rattle.tera_outline.proofs.Starts.{next_cut}

-- the tokens of a text are in it one after the other
tile_sound : (items : Items) (inside : Bool) (front rest : List ℕ) (to : ℕ) → length front + length rest ≡ to → Tile inside front rest items
    → AreBetween (length front) to (parts_in items)
unfolding place_after
tile_sound Ended inside front rest to long tile = omega (arith, long)
tile_sound (Failed text span) inside front rest to long tile = omega (arith, long)
tile_sound (Token t span items) inside front rest to long (gap, bytes, more, e, between, some, belongs, shows, is, tile) =
    let start : span.range.start ≡ length (front ++ gap) = ap (λ (s : Span). s.range.start) is in
    let end : span.range.end ≡ length ((front ++ gap) ++ bytes) = ap (λ (s : Span). s.range.end) is in
    let before : length (front ++ gap) ≡ length front + length gap = length-append front gap in
    let following : length ((front ++ gap) ++ bytes) ≡ length (front ++ gap) + length bytes = length-append (front ++ gap) bytes in
    let all : length rest ≡ length gap + (length bytes + length more) = ap length e ∙ (length-append gap (bytes ++ more) ∙ ap (λ n. length gap + n) (length-append bytes more)) in
    let one : 0 < length bytes = some_byte bytes some in (
      omega (arith, start, before),
      omega (arith, start, end, following, one),
      subst (λ n. AreBetween n to (parts_in items)) (sym end)
          (tile_sound items (in_tag_after inside t) ((front ++ gap) ++ bytes) more to (omega (arith, before, following, all, long)) tile),
    )
  where
    some_byte : (bytes : List ℕ) → bytes ≢ [] → 0 < length bytes
    some_byte [] some = absurd (some refl)
    some_byte (b ∷ bs) some = omega arith

-- ---- those that are cut off and moved

pub ordered : (from to : ℕ) (ps : List Part) → AreBetween from to ps → from ≤ to
ordered from to [] are = are
ordered from to (p ∷ ps) are = omega (arith, are.0, are.1, ordered p.end to ps are.2)

from_earlier : (from other to : ℕ) (ps : List Part) → from ≤ other → AreBetween other to ps → AreBetween from to ps
from_earlier from other to [] h are = omega (arith, h, are)
from_earlier from other to (p ∷ ps) h are = (omega (arith, h, are.0), are.1, are.2)

joined : (from middle to : ℕ) (ps qs : List Part) → AreBetween from middle ps → AreBetween middle to qs → AreBetween from to (ps ++ qs)
joined from middle to [] qs h are = from_earlier from middle to qs h are
joined from middle to (p ∷ ps) qs h are = (h.0, h.1, joined p.end middle to ps qs h.2 are)

moved_between : (n from to : ℕ) (ps : List Part) → AreBetween from to ps → AreBetween (n + from) (n + to) (map (moved n) ps)
moved_between n from to [] are = omega (arith, are)
moved_between n from to (p ∷ ps) are = (omega (arith, are.0), omega (arith, are.1), moved_between n p.end to ps are.2)

before_none : (from to stop : ℕ) (ps : List Part) → stop ≤ from → AreBetween from to ps → before stop ps ≡ []
before_none from to stop [] h are = refl
before_none from to stop (p ∷ ps) h are = elim (leb_tells (suc p.start) stop) [
  | inl starts ↦ absurd (omega (arith, h, are.0, starts.1))
  | inr none ↦ rw none.0 refl
]

before_between : (from to stop : ℕ) (ps : List Part) → from ≤ stop → AreBetween from to ps → AreBetween from stop (before stop ps)
before_between from to stop [] h are = h
before_between from to stop (p ∷ ps) h are = elim (leb_tells (suc p.start) stop) [
  | inl starts ↦ elim (leb_tells p.end stop) [
    | inl within ↦
        let same : min p.end stop ≡ p.end = omega (arith, within.1) in
        rw (starts.0, same) (are.0, are.1, before_between p.end to stop ps within.1 are.2)
    | inr over ↦
        let same : min p.end stop ≡ stop = omega (arith, over.1) in
        rw (starts.0, same, before_none p.end to stop ps (omega (arith, over.1)) are.2) (are.0, omega (arith, starts.1), omega arith)
  ]
  | inr none ↦ rw none.0 h
]

-- none is cut off at the end
pub before_all : (from to : ℕ) (ps : List Part) → AreBetween from to ps → before to ps ≡ ps
before_all from to [] are = refl
before_all from to (p ∷ ps) are =
    let within = ordered p.end to ps are.2 in
    elim (leb_tells (suc p.start) to) [
      | inl starts ↦
          let same : min p.end to ≡ p.end = omega (arith, within) in
          rw (starts.0, same, before_all p.end to ps are.2) refl
      | inr none ↦ absurd (omega (arith, are.1, within, none.1))
    ]

-- ---- all

up_to_over : (again : Bool) (text : List ℕ) (opened : Option ℕ) (from to : ℕ) (items : Items) → AreBetween from to (parts_in items) → AreBetween from to (read_in again text opened items)
up_to_over again text opened from to Ended are = are
up_to_over again text opened from to (Failed message span) are = are
up_to_over again text opened from to (Token t span items) are = elim (cases_Bool (goes_over again text opened span.range.end)) [
  | inl over ↦ rw over (are.0, are.1, ordered span.range.end to (parts_in items) are.2)
  | inr within ↦ rw within (are.0, are.1, up_to_over again text (opened_after opened t span.range.end) span.range.end to items are.2)
]

pub read_sound : (again : Bool) (text : List ℕ) (items : Items) → AreTokensOf default_marks text items → AreBetween 0 (length text) (read_in again text None items)
read_sound again text items tokens =
    up_to_over again text None 0 (length text) items (tile_sound items false [] text (length text) (omega arith) (tokens_tile default_marks default_valid text items tokens))

rest_sound : (P : List ℕ → List Part → Type 0) (text : List ℕ) (read : List Part) (next : Option ℕ) (parts : List Part)
    → ((t : List ℕ) (ps : List Part) → P t ps → AreBetween 0 (length t) ps) → AreBetween 0 (length text) read → ((k : ℕ) → next ≡ Some k → k ≤ length text)
    → AreWithRest P text read next parts → AreBetween 0 (length text) parts
rest_sound P text read None parts each sound fits same = rw same sound
rest_sound P text read (Some k) parts each sound fits (rest, are, same) =
    let within : k ≤ length text = fits k refl in
    let long : length (drop k text) ≡ length text - k = length-drop k text in
    let start : k + 0 ≡ k = omega arith in
    let end : k + length (drop k text) ≡ length text = omega (arith, within, long) in
    let following : AreBetween (k + 0) (k + length (drop k text)) (map (moved k) rest) = moved_between k 0 (length (drop k text)) rest (each (drop k text) rest are) in
    rw same
    (joined 0 k (length text) (before k read) (map (moved k) rest) (before_between 0 (length text) k read (omega arith) sound)
    (subst (λ n. AreBetween k n (map (moved k) rest)) end (subst (λ n. AreBetween n (k + length (drop k text)) (map (moved k) rest)) start following)))

sound_by : (n : ℕ) (again : Bool) (text : List ℕ) (parts : List Part) → AreReadBy n again text parts → AreBetween 0 (length text) parts
unfolding AreReadBy
sound_by zero again text parts none = rw none (omega arith)
sound_by (suc n) again text parts (items, tokens, whole) =
    rest_sound (AreReadBy n true) text (read_in again text None items) (next_of again text items) parts (λ t ps are. sound_by n true t ps are) (read_sound again text items tokens)
    (λ k is. (next_cut text (stopped_after again text None items) k is).0) whole

pub parts_sound : (text : List ℕ) (parts : List Part) → ArePartsOf text parts → AreBetween 0 (length text) parts
parts_sound text parts are = sound_by 100 false text parts are
