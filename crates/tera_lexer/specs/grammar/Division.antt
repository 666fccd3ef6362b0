-- The division of a source into pieces.
use Rattle.std.specs.Prelude.{◌≡◌, ◌≢◌, ℕ, Bool, true, ◌||◌, List, [], ◌∷◌, ◌++◌}
use Rattle.tera_lexer.specs.grammar.Marks.{Marks, start_marker, end_marker, begins, NowhereIn, dash_bytes, TakesDash}
use Rattle.tera_lexer.specs.grammar.Lexeme.{Item, Fault, End, Open, Bad, IsInside}
use Rattle.tera_lexer.specs.grammar.Raw.{WordTag, OpensRaw, IsBody, IsOpenBody}
use Rattle.tera_lexer.specs.declared.lexer.delimiters.Kind.{Kind}
use Rattle.tera_lexer.specs.declared.lexer.delimiters.Kind.TheVariants.{Variable, Block}

-- a start marker begins the bytes
abbrev pub is_at_start : Marks → List ℕ → Bool
is_at_start m bytes = begins m.variable_start bytes || (begins m.block_start bytes || begins m.comment_start bytes)

-- the bytes are none, or a start marker begins them
abbrev pub EndsText : Marks → List ℕ → Type 0
EndsText m [] = Unit {0}
EndsText m (b ∷ bs) = is_at_start m (b ∷ bs) ≡ true

-- a text; a comment, by its start's dash and what is before its end marker; a raw piece, by its start's dash, its
-- opening tag, its body and its closing tag; another tag, by its kind, its start's dash, its lexemes, the gap before
-- its end and its end's dash
pub data Piece : Type 0 where
  Text : List ℕ → Piece
  Comment : Bool → List ℕ → Piece
  Raw : Bool → WordTag → List ℕ → WordTag → Piece
  Tag : Kind → Bool → List Item → List ℕ → Bool → Piece

-- what comes after the pieces: nothing; a tag that lasts to the end of the source, or to a fault; a raw
-- piece or a comment that never closes
pub data Ending : Type 0 where
  Complete : Ending
  OpenTag : Kind → Bool → List Item → List ℕ → Ending
  BadTag : Kind → Bool → List Item → List ℕ → Fault → List ℕ → Ending
  OpenRaw : Bool → Ending
  OpenComment : Bool → Ending

-- the bytes are the marker with a dash or none, and then rest
abbrev pub Starts : List ℕ → Bool → List ℕ → List ℕ → Type 0
Starts marker dash bytes rest = (bytes ≡ marker ++ (dash_bytes dash ++ rest)) × TakesDash dash rest

-- the start of a variable opens a tag; that of a block does where no raw piece opens
abbrev pub OpensTag : Marks → Kind → List ℕ → Type 0
OpensTag m Variable inside = Unit {0}
OpensTag m Block inside = (t : WordTag) (rest : List ℕ) → OpensRaw m t inside rest → ⊥

-- the bytes are the piece, and then rest: a text runs to where the next start marker begins, or to the end;
-- a comment runs to its first end marker
abbrev pub IsPiece : Marks → Piece → List ℕ → List ℕ → Type 0
IsPiece m (Text text) bytes rest = (bytes ≡ text ++ rest) × (text ≢ []) × NowhereIn (is_at_start m) text rest × EndsText m rest
IsPiece m (Comment dash inside) bytes rest =
    (following : List ℕ) × Starts m.comment_start dash bytes following
    × (following ≡ inside ++ (m.comment_end ++ rest)) × NowhereIn (begins m.comment_end) inside (m.comment_end ++ rest)
IsPiece m (Raw dash opening body closing) bytes rest =
    (following : List ℕ) × (inside : List ℕ) × Starts m.block_start dash bytes following
    × OpensRaw m opening following inside × IsBody m body closing inside rest
IsPiece m (Tag kind dash items gap end) bytes rest =
    (inside : List ℕ) × Starts (start_marker kind m) dash bytes inside × OpensTag m kind inside
    × IsInside (end_marker kind m) items (End gap end rest) inside

-- the bytes are this ending
abbrev pub IsEnding : Marks → Ending → List ℕ → Type 0
IsEnding m Complete bytes = bytes ≡ []
IsEnding m (OpenTag kind dash items gap) bytes =
    (inside : List ℕ) × Starts (start_marker kind m) dash bytes inside × OpensTag m kind inside
    × IsInside (end_marker kind m) items (Open gap) inside
IsEnding m (BadTag kind dash items gap fault at) bytes =
    (inside : List ℕ) × Starts (start_marker kind m) dash bytes inside × OpensTag m kind inside
    × IsInside (end_marker kind m) items (Bad gap fault at) inside
IsEnding m (OpenRaw dash) bytes =
    (following : List ℕ) × (inside : List ℕ) × (opening : WordTag) × Starts m.block_start dash bytes following
    × OpensRaw m opening following inside × IsOpenBody m inside
IsEnding m (OpenComment dash) bytes =
    (following : List ℕ) × Starts m.comment_start dash bytes following × NowhereIn (begins m.comment_end) following []

-- the bytes are these pieces and then this ending
abbrev pub IsDivision : Marks → List Piece → Ending → List ℕ → Type 0
IsDivision m [] ending bytes = IsEnding m ending bytes
IsDivision m (p ∷ ps) ending bytes = (rest : List ℕ) × IsPiece m p bytes rest × IsDivision m ps ending rest
