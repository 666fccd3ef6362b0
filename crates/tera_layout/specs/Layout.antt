-- The layout of a source. After the start and before the end of a tag is one space; inside of it nothing between tokens
-- that are together, one space between those that are apart, and one space for white space between others, and between
-- those that would end the tag together; but white space with a line feed stays as it is.
use Rattle.std.specs.Prelude.{◌≡◌, ◌==◌, ℕ, Bool, if◌then◌else◌, List, [], ◌∷◌, ◌++◌, map, Option, Some, None}
use Rattle.std.specs.List.{list_any}
use Rattle.tera_lexer.specs.grammar.Bytes.{line_feed, space}
use Rattle.tera_lexer.specs.grammar.Marks.{Marks, start_marker, dash_bytes}
use Rattle.tera_lexer.specs.grammar.Lexeme.{Item, Lexeme, spelled}
use Rattle.tera_lexer.specs.grammar.Division.{Piece, Tag, Ending, Complete, IsDivision}
use Rattle.tera_lexer.specs.grammar.Tokens.{Tok, token_of}
use Rattle.tera_lexer.specs.reading.Front.{division_of}
use Rattle.tera_layout.specs.declared.sides.Left.{Left}
use Rattle.tera_layout.specs.declared.sides.Join.{Join}
use Rattle.tera_layout.specs.declared.sides.Join.TheVariants.{Space, Nothing, Kept}
use Rattle.tera_layout.specs.Sides.{side_of, placed, join_between, is_start, at_start, following}
use Rattle.tera_layout.specs.Apart.{meet_in_end}
use Rattle.tera_layout.specs.Widened.{pieces_bytes}

abbrev pub has_line_feed : List ℕ → Bool
has_line_feed gap = list_any (λ b. b == line_feed) gap

-- what is in the place of a gap beside a marker
abbrev pub laid_edge : List ℕ → List ℕ
laid_edge gap = if has_line_feed gap then gap else space ∷ []

-- .. and of any gap: one space; nothing; one space, but nothing where nothing was
abbrev pub laid_gap : Join → List ℕ → List ℕ
laid_gap Space gap = laid_edge gap
laid_gap Nothing gap = if has_line_feed gap then gap else []
laid_gap Kept [] = []
laid_gap Kept (b ∷ bs) = laid_edge (b ∷ bs)

-- what joins a lexeme to what is on its left
abbrev pub join_inside : Left → Tok → Join
join_inside l t = if is_start l.side then Space else join_between l.side (placed l (side_of t))

-- .. where the two would end the tag, if nothing was between them: what was there
abbrev pub unless_end : Join → Bool → Join
unless_end Nothing ends = if ends then Kept else Nothing
unless_end join ends = join

-- .. after these bytes
abbrev pub join_after : Marks → List ℕ → Left → Lexeme → Join
join_after m before l lexeme = unless_end (join_inside l (token_of lexeme)) (meet_in_end m before (spelled lexeme))

abbrev pub laid_items : Marks → List ℕ → Left → List Item → List Item
laid_items m before l [] = []
laid_items m before l (i ∷ is) =
    record { gap = laid_gap (join_after m before l i.lexeme) i.gap; lexeme = i.lexeme }
    ∷ laid_items m (spelled i.lexeme) (following l (token_of i.lexeme)) is

abbrev pub laid_piece : Marks → Piece → Piece
laid_piece m (Tag kind dash items gap end) =
    Tag kind dash (laid_items m (start_marker kind m ++ dash_bytes dash) at_start items) (laid_edge gap) end
laid_piece m p = p

abbrev pub laid_pieces : Marks → List Piece → List Piece
laid_pieces m ps = map (laid_piece m) ps

-- the source of the same pieces in this layout
abbrev pub IsLaidOut : Marks → List ℕ → List ℕ → Type 0
IsLaidOut m one other =
    (ps : List Piece) × IsDivision m ps Complete one × (other ≡ pieces_bytes m (laid_pieces m ps))

-- as a function on sources, with nothing where a fault or an open tag is
abbrev pub laid_out_by : Marks → List Piece × Ending → Option (List ℕ)
laid_out_by m (ps, Complete) = Some (pieces_bytes m (laid_pieces m ps))
laid_out_by m _ = None

abbrev pub laid_out : Marks → List ℕ → Option (List ℕ)
laid_out m source = laid_out_by m (division_of m source)
