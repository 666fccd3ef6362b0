-- Sources that hold nothing but comments.
use Rattle.std.specs.Prelude.{ℕ, List}
use Rattle.std.specs.List.{AllByRecursion}
use Rattle.tera_lexer.specs.grammar.Marks.{Marks}
use Rattle.tera_lexer.specs.grammar.Division.{Piece, Comment, Complete, IsDivision}

abbrev pub IsComment : Piece → Type 0
IsComment (Comment dash inside) = Unit {0}
IsComment _ = ⊥

-- the source is divided into comments alone, of which it may have none
abbrev pub IsCommentsAlone : Marks → List ℕ → Type 0
IsCommentsAlone m source = (pieces : List Piece) × IsDivision m pieces Complete source × AllByRecursion IsComment pieces
