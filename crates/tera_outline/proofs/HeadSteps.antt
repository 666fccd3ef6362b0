-- The pass over a head: what is left of its parameters after a token.
use Rattle.std.proofs.Common.{◌≡◌, ◌+◌, ◌-◌, ◌<◌, ◌≤◌, ℕ, Bool, true, false, List, [], ◌∷◌, ◌++◌, length, map, drop, get_or, inl, inr, ap, refl, sym, ◌∙◌, arith, append_assoc, true≢false}
use Rattle.std.specs.Prelude.{◌&&◌, codes, if◌then◌else◌, nat_eq}
use Rattle.std.specs.List.{filter}
use Rattle.std.specs.Option.{option_to_list}
use Rattle.std.proofs.lemmas.Bool.{cases_Bool}
use Rattle.std.proofs.lemmas.List.{append-nil, drop_all, drop_more}
use Rattle.tera_lexer.specs.code.Seen.{seen}
use Rattle.tera_lexer.specs.grammar.Tokens.{Tok, Content, RawContent, Remark, Start, Finish, Ident, Str, Escaped, Integer, Truth, Symbol}
use Rattle.tera_outline.specs.declared.pieces.Piece.{Piece}
use Rattle.tera_outline.specs.declared.signatures.Place.{Place}
use Rattle.tera_outline.specs.declared.signatures.Place.TheVariants as places
use Rattle.tera_outline.specs.Dotted.{is_operator}
use Rattle.tera_outline.specs.Pieces.{Part, part_of}
use Rattle.tera_outline.specs.Signatures.{ParameterVal, is_between, is_opening, is_closing, after_parenthesis, outside, named_at, parameter_at, parameters_in, is_due, depth_of, place_after}

-- the parameters in these parts of a head, of which the first is at a place
abbrev pub parameters_from : ℕ → Place → List Part → List ParameterVal
parameters_from from places.Name ps = parameters_in from true (outside 0 (after_parenthesis ps))
parameters_from from (places.Parameters depth due) ps = parameters_in from due (outside depth ps)
parameters_from from places.Rest ps = []

-- ---- a token that is the name of no parameter

not_due : (from : ℕ) (t : Tok) (start end : ℕ) → option_to_list (named_at from false t start end) ≡ []
not_due from (Content text) start end = refl
not_due from (RawContent a text b) start end = refl
not_due from (Remark a b) start end = refl
not_due from (Start kind dash) start end = refl
not_due from (Finish kind dash) start end = refl
not_due from (Ident name) start end = refl
not_due from (Str text) start end = refl
not_due from (Escaped text) start end = refl
not_due from (Integer n) start end = refl
not_due from (Truth b) start end = refl
not_due from (Symbol op) start end = refl

opening : (from : ℕ) (due : Bool) (t : Tok) (start end : ℕ) → is_opening t ≡ true → option_to_list (named_at from due t start end) ≡ []
opening from due (Symbol op) start end opens = refl
opening from due (Content text) start end opens = refl
opening from due (RawContent a text b) start end opens = refl
opening from due (Remark a b) start end opens = refl
opening from due (Start kind dash) start end opens = refl
opening from due (Finish kind dash) start end opens = refl
opening from due (Ident name) start end opens = absurd (true≢false (sym opens))
opening from due (Str text) start end opens = refl
opening from due (Escaped text) start end opens = refl
opening from due (Integer n) start end opens = refl
opening from due (Truth b) start end opens = refl

closing : (from : ℕ) (due : Bool) (t : Tok) (start end : ℕ) → is_closing t ≡ true → option_to_list (named_at from due t start end) ≡ []
closing from due (Symbol op) start end closes = refl
closing from due (Content text) start end closes = refl
closing from due (RawContent a text b) start end closes = refl
closing from due (Remark a b) start end closes = refl
closing from due (Start kind dash) start end closes = refl
closing from due (Finish kind dash) start end closes = refl
closing from due (Ident name) start end closes = absurd (true≢false (sym closes))
closing from due (Str text) start end closes = refl
closing from due (Escaped text) start end closes = refl
closing from due (Integer n) start end closes = refl
closing from due (Truth b) start end closes = refl

-- ---- one token on

passed : (from : ℕ) (p : Part) (xs : List ParameterVal) → xs ≡ option_to_list (parameter_at from false p) ++ xs
passed from p xs = ap (λ (none : List ParameterVal). none ++ xs) (sym (not_due from p.token p.start p.end))

opening_passed : (from : ℕ) (due : Bool) (p : Part) (xs : List ParameterVal) → is_opening p.token ≡ true → xs ≡ option_to_list (parameter_at from due p) ++ xs
opening_passed from due p xs opens = ap (λ (none : List ParameterVal). none ++ xs) (sym (opening from due p.token p.start p.end opens))

closing_passed : (from : ℕ) (due : Bool) (p : Part) (xs : List ParameterVal) → is_closing p.token ≡ true → xs ≡ option_to_list (parameter_at from due p) ++ xs
closing_passed from due p xs closes = ap (λ (none : List ParameterVal). none ++ xs) (sym (closing from due p.token p.start p.end closes))

pub place_passed : (from : ℕ) (place : Place) (p : Part) (ps : List Part)
    → parameters_from from place (p ∷ ps) ≡ option_to_list (parameter_at from (is_due place) p) ++ parameters_from from (place_after place p.token) ps
place_passed from places.Name p ps = elim (cases_Bool (is_operator (codes "(") p.token)) [
  | inl opens ↦ rw opens (passed from p (parameters_in from true (outside 0 ps)))
  | inr other ↦ rw other (passed from p (parameters_in from true (outside 0 (after_parenthesis ps))))
]
place_passed from places.Rest p ps = passed from p []
place_passed from (places.Parameters depth due) p ps = elim (cases_Bool (is_opening p.token)) [
  | inl opens ↦ rw opens (opening_passed from (nat_eq depth 0 && due) p (parameters_in from due (outside (depth + 1) ps)) opens)
  | inr other ↦ rw other (elim (cases_Bool (is_closing p.token)) [
    | inl closes ↦ rw closes (elim (cases_Bool (nat_eq depth 0)) [
      | inl last ↦ rw last (closing_passed from due p [] closes)
      | inr inner ↦ rw inner (closing_passed from false p (parameters_in from due (outside (depth - 1) ps)) closes)
    ])
    | inr further ↦ rw further (elim (cases_Bool (nat_eq depth 0)) [
      | inl outer ↦ rw outer refl
      | inr inner ↦ rw inner (passed from p (parameters_in from due (outside depth ps)))
    ])
  ])
]

depth_passed : (place : Place) (t : Tok) → depth_of (place_after place t) ≤ depth_of place + 1
depth_passed places.Name t = elim (cases_Bool (is_operator (codes "(") t)) [
  | inl opens ↦ rw opens (omega arith)
  | inr other ↦ rw other (omega arith)
]
depth_passed places.Rest t = omega arith
depth_passed (places.Parameters depth due) t = elim (cases_Bool (is_opening t)) [
  | inl opens ↦ rw opens (omega arith)
  | inr other ↦ rw other (elim (cases_Bool (is_closing t)) [
    | inl closes ↦ rw closes (elim (cases_Bool (nat_eq depth 0)) [
      | inl last ↦ rw last (omega arith)
      | inr inner ↦ rw inner (omega arith)
    ])
    | inr further ↦ rw further (omega arith)
  ])
]

-- ---- one piece on, and at the end

pub depth_after : (place next : Place) (t : Tok) (i : ℕ) → next ≡ place_after place t → depth_of place ≤ i → depth_of next ≤ i + 1
depth_after place next t i follows low = rw follows (omega (arith, depth_passed place t, low))

pub depth_kept : (place next : Place) (i : ℕ) → next ≡ place → depth_of place ≤ i → depth_of next ≤ i + 1
depth_kept place next i same low = rw same (omega (arith, low))

module _ (from to : ℕ) (place : Place) (xs : List Piece) (i : ℕ) (x : Piece) (is : x ≡ get_or xs i x) (some : i < length xs) where
  left : map part_of (drop i xs) ≡ part_of x ∷ map part_of (drop (i + 1) xs)
  left = ap (map part_of) (drop_more xs i x some) ∙ ap (λ (y : Piece). part_of y ∷ map part_of (drop (i + 1) xs)) (sym is)

  pub piece_within : (next : Place) (before after all : List ParameterVal) → is_between from to (part_of x) ≡ true
      → next ≡ place_after place (seen x.token) → after ≡ before ++ option_to_list (parameter_at from (is_due place) (part_of x))
      → before ++ parameters_from from place (filter (is_between from to) (map part_of (drop i xs))) ≡ all
      → after ++ parameters_from from next (filter (is_between from to) (map part_of (drop (i + 1) xs))) ≡ all
  piece_within next before after all within follows adds found =
      let rest = filter (is_between from to) (map part_of (drop (i + 1) xs)) in
      let here : filter (is_between from to) (map part_of (drop i xs)) ≡ part_of x ∷ rest =
      ap (filter (is_between from to)) left ∙ ap (λ b. if b then part_of x ∷ rest else rest) within in
      rw (adds, follows, append_assoc before (option_to_list (parameter_at from (is_due place) (part_of x))) (parameters_from from (place_after place (seen x.token)) rest))
      (ap (λ ps. before ++ ps) (sym (ap (parameters_from from place) here ∙ place_passed from place (part_of x) rest)) ∙ found)

  pub piece_outside : (next : Place) (before after all : List ParameterVal) → is_between from to (part_of x) ≡ false → next ≡ place → after ≡ before
      → before ++ parameters_from from place (filter (is_between from to) (map part_of (drop i xs))) ≡ all
      → after ++ parameters_from from next (filter (is_between from to) (map part_of (drop (i + 1) xs))) ≡ all
  piece_outside next before after all outside same adds found =
      let rest = filter (is_between from to) (map part_of (drop (i + 1) xs)) in
      let here : filter (is_between from to) (map part_of (drop i xs)) ≡ rest =
      ap (filter (is_between from to)) left ∙ ap (λ b. if b then part_of x ∷ rest else rest) outside in
      rw (adds, same) (ap (λ ps. before ++ parameters_from from place ps) (sym here) ∙ found)

nothing_left : (from : ℕ) (place : Place) → parameters_from from place [] ≡ []
nothing_left from places.Name = refl
nothing_left from (places.Parameters depth due) = refl
nothing_left from places.Rest = refl

pub head_ended : (from to : ℕ) (place : Place) (xs : List Piece) (i : ℕ) (found all : List ParameterVal) → length xs ≤ i
    → found ++ parameters_from from place (filter (is_between from to) (map part_of (drop i xs))) ≡ all → found ≡ all
head_ended from to place xs i found all past whole =
    let none : parameters_from from place (filter (is_between from to) (map part_of (drop i xs))) ≡ [] =
    ap (λ (ys : List Piece). parameters_from from place (filter (is_between from to) (map part_of ys))) (drop_all i xs past) ∙ nothing_left from place in
    sym (append-nil found) ∙ (ap (λ ps. found ++ ps) (sym none) ∙ whole)
