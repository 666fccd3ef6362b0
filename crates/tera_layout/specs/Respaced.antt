-- Sources that differ in the white space inside tags alone.
use Rattle.std.specs.Prelude.{◌≡◌, ℕ, not, List, [], map}
use Rattle.std.specs.List.{filter}
use Rattle.std.specs.Char.{is_ascii_whitespace}
use Rattle.tera_lexer.specs.grammar.Marks.{Marks}
use Rattle.tera_lexer.specs.grammar.Lexeme.{Item}
use Rattle.tera_lexer.specs.grammar.Division.{Piece, Tag, Complete, IsDivision}

-- a lexeme without the gap before it, and a piece without the gaps of its tag
abbrev pub without_gap : Item → Item
without_gap i = record { gap = []; lexeme = i.lexeme }

abbrev pub without_gaps : Piece → Piece
without_gaps (Tag kind dash items gap end) = Tag kind dash (map without_gap items) [] end
without_gaps p = p

-- Both are divided into the same pieces, of which only tags differ, and those in their gaps alone: texts, comments,
-- raw pieces, markers, dashes and lexemes are the same, byte for byte.
abbrev pub IsRespaced : Marks → List ℕ → List ℕ → Type 0
IsRespaced m one other =
    (ps qs : List Piece) × IsDivision m ps Complete one × IsDivision m qs Complete other
    × (map without_gaps ps ≡ map without_gaps qs)

-- the bytes that are not white space
abbrev pub without_white : List ℕ → List ℕ
without_white bytes = filter (λ b. not (is_ascii_whitespace b)) bytes
