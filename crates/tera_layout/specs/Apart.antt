-- Lexemes that stay two where nothing is between them.
use Rattle.std.specs.Prelude.{ℕ, Bool, true, false, not, ◌&&◌, ◌||◌, ◌==◌, List, [], ◌∷◌}
use Rattle.std.specs.List.{list_any}
use Rattle.std.specs.Char.{is_ascii_digit}
use Rattle.tera_lexer.specs.grammar.Bytes.{dash_byte, dot}
use Rattle.tera_lexer.specs.grammar.Marks.{Marks}
use Rattle.tera_lexer.specs.grammar.Lexeme.{Lexeme, Name, Number, Quoted, Operator, spelled, goes_on_name, long_operators}

-- the two bytes are side by side in the text
abbrev pub has_pair : ℕ → ℕ → List ℕ → Bool
has_pair a c [] = false
has_pair a c (x ∷ []) = false
has_pair a c (x ∷ y ∷ ys) = (x == a && y == c) || has_pair a c (y ∷ ys)

-- .. in an operator
abbrev pub in_operator : ℕ → ℕ → Bool
in_operator a c = list_any (has_pair a c) long_operators

-- .. in the end of a tag with its dash
abbrev pub in_end : Marks → ℕ → ℕ → Bool
in_end m a c = has_pair a c (dash_byte ∷ m.variable_end) || has_pair a c (dash_byte ∷ m.block_end)

-- the last byte of those after this one, and this one where there are none
abbrev pub last_from : ℕ → List ℕ → ℕ
last_from a [] = a
last_from a (b ∷ bs) = last_from b bs

-- the first byte
abbrev pub first_from : List ℕ → ℕ
first_from [] = 0
first_from (b ∷ bs) = b

-- the last byte of the one text and the first of the other are side by side in the end of a tag with its dash
abbrev pub meet_in_end : Marks → List ℕ → List ℕ → Bool
meet_in_end m before text = in_end m (last_from 0 before) (first_from text)

-- the lexeme stays as it is where this byte comes after it
abbrev pub may_touch : Lexeme → ℕ → Bool
may_touch (Name b bs) c = not (goes_on_name c)
may_touch (Number b bs) c = not (is_ascii_digit c) && not (dot == c)
may_touch (Quoted quote is) c = true
may_touch (Operator op) c = not (in_operator (last_from 0 op) c)

abbrev pub may_touch_first : Lexeme → List ℕ → Bool
may_touch_first l [] = false
may_touch_first l (c ∷ cs) = may_touch l c

-- two lexemes stay two where nothing is between them, and no end of a tag comes of them
abbrev pub stay_apart : Marks → Lexeme → Lexeme → Bool
stay_apart m l r = may_touch_first l (spelled r) && not (meet_in_end m (spelled l) (spelled r))
