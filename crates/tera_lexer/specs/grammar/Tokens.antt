-- The tokens of a division, each with its span.
use Rattle.std.specs.Prelude.{◌≡◌, ℕ, ℤ, pos, Bool, true, false, ◌||◌, if◌then◌else◌, List, [], ◌∷◌, ◌++◌, codes}
use Rattle.std.specs.Str.{bytes_eq}
use Rattle.tera_lexer.specs.grammar.Marks.{Marks, start_marker, end_marker, dash_bytes}
use Rattle.tera_lexer.specs.grammar.Place.{span_of}
use Rattle.tera_lexer.specs.grammar.Lexeme.{Item, Lexeme, Name, Number, Quoted, Operator, Fault, Unexpected, Unclosed, UnknownEscape, TooGreat, Float, spelled, reported, decimal, written, value_of, has_escape}
use Rattle.tera_lexer.specs.grammar.Raw.{WordTag, word_tag_bytes, raw_word, endraw_word}
use Rattle.tera_lexer.specs.grammar.Division.{Piece, Text, Comment, Raw, Tag, Ending, Complete, OpenTag, BadTag, OpenRaw, OpenComment, IsDivision}
use Rattle.tera_lexer.specs.grammar.Trimming.{trims_start, trims_end, trimmed}
use Rattle.tera_lexer.specs.declared.lexer.delimiters.Kind.{Kind}
use Rattle.tera_base.specs.declared.utils.Span.{Span}

-- a token, without where it lies in memory: a text, which is also that of a raw piece, and empty for a comment;
-- a raw piece and a comment as such, which no source has; the start and the end of a tag, with a dash or none;
-- a name; the inside of a string without escapes; the value of a string with some; a number; one of the words
-- for true and false; an operator, by its source text
pub data Tok : Type 0 where
  Content : List ℕ → Tok
  RawContent : Bool → List ℕ → Bool → Tok
  Remark : Bool → Bool → Tok
  Start : Kind → Bool → Tok
  Finish : Kind → Bool → Tok
  Ident : List ℕ → Tok
  Str : List ℕ → Tok
  Escaped : List ℕ → Tok
  Integer : ℤ → Tok
  Truth : Bool → Tok
  Symbol : List ℕ → Tok

-- the tokens of a source, one after another, and then its end, or the fault at which reading stops
pub data Items : Type 0 where
  Ended : Items
  Failed : List ℕ → Span → Items
  Token : Tok → Span → Items → Items

abbrev is_either : List ℕ → List ℕ → List ℕ → Bool
is_either a b name = bytes_eq name a || bytes_eq name b

abbrev pub name_token : List ℕ → Tok
name_token name =
    if is_either (codes "true") (codes "True") name then Truth true
    else (if is_either (codes "false") (codes "False") name then Truth false
    else Ident name)

abbrev pub token_of : Lexeme → Tok
token_of (Name b bs) = name_token (b ∷ bs)
token_of (Number b bs) = Integer (pos (decimal (b ∷ bs)))
token_of (Quoted quote is) = if has_escape is then Escaped (value_of is) else Str (written is)
token_of (Operator op) = Symbol op

abbrev pub unclosed : ℕ → List ℕ
unclosed quote = codes "String opened with `" ++ quote ∷ (codes "` is missing its closing `" ++ quote ∷ codes "`")

-- the text of a fault
abbrev pub fault_text : Fault → List ℕ
fault_text Unexpected = codes "Unexpected character"
fault_text (Unclosed quote) = unclosed quote
fault_text (UnknownEscape quote is) = codes "unexpected escape character"
fault_text (TooGreat b bs) = codes "Invalid Integer"
fault_text (Float b bs more) = codes "Float literals are not supported"

-- the lexemes' tokens after front, and then what follows, which is reported what is before it
abbrev pub lexemes : List ℕ → List Item → (List ℕ → Items) → Items
lexemes front [] follows = follows front
lexemes front (i ∷ is) follows =
    Token (token_of i.lexeme) (span_of (front ++ i.gap) (spelled i.lexeme)) (lexemes ((front ++ i.gap) ++ spelled i.lexeme) is follows)

-- the start of a tag after front, and what follows it
abbrev pub tag_start : Marks → List ℕ → Kind → Bool → (List ℕ → Items) → Items
tag_start m front kind dash follows =
    let start = start_marker kind m ++ dash_bytes dash in
    Token (Start kind dash) (span_of front start) (follows (front ++ start))

-- the end of a tag after front, and what follows it
abbrev pub tag_end : Marks → List ℕ → Kind → Bool → (List ℕ → Items) → Items
tag_end m front kind dash follows =
    let end = dash_bytes dash ++ end_marker kind m in
    Token (Finish kind dash) (span_of front end) (follows (front ++ end))

-- a fault after front
abbrev pub failed : List ℕ → Fault → Items
failed front fault = Failed (fault_text fault) (span_of front (reported fault))

abbrev pub open_raw : List ℕ
open_raw = codes "unexpected end of raw block"

abbrev pub open_comment : Marks → List ℕ
open_comment m = codes "Closing comment tag `" ++ (m.comment_end ++ codes "` not found")

-- the bytes of a comment, and of a raw piece
abbrev pub comment_bytes : Marks → Bool → List ℕ → List ℕ
comment_bytes m dash inside = m.comment_start ++ (dash_bytes dash ++ (inside ++ m.comment_end))

abbrev pub raw_bytes : Marks → Bool → WordTag → List ℕ → WordTag → List ℕ
raw_bytes m dash opening body closing =
    m.block_start ++ (dash_bytes dash ++ (word_tag_bytes raw_word m.block_end opening
    ++ (body ++ (m.block_start ++ word_tag_bytes endraw_word m.block_end closing))))

-- the tokens of a piece after front, and what follows them: a text, which neighbours may trim at its start and at its
-- end; a comment, which is an empty text; the body of a raw piece, which the dashes of its inner sides trim as well
abbrev pub piece_tokens : Marks → List ℕ → Bool → Bool → Piece → (List ℕ → Items) → Items
piece_tokens m front start end (Text text) follows = Token (Content (trimmed start end text)) (span_of front text) (follows (front ++ text))
piece_tokens m front start end (Comment dash inside) follows =
    let bytes = comment_bytes m dash inside in
    Token (Content []) (span_of front bytes) (follows (front ++ bytes))
piece_tokens m front start end (Raw dash opening body closing) follows =
    let bytes = raw_bytes m dash opening body closing in
    Token (Content (trimmed (opening.dash_out || start) (closing.dash_in || end) body)) (span_of front bytes) (follows (front ++ bytes))
piece_tokens m front start end (Tag kind dash items gap last) follows =
    tag_start m front kind dash (λ f. lexemes f items (λ g. tag_end m (g ++ gap) kind last follows))

-- the tokens of an ending after front
abbrev pub ending_tokens : Marks → List ℕ → Ending → Items
ending_tokens m front Complete = Ended
ending_tokens m front (OpenTag kind dash items gap) = tag_start m front kind dash (λ f. lexemes f items (λ g. Ended))
ending_tokens m front (BadTag kind dash items gap fault at) = tag_start m front kind dash (λ f. lexemes f items (λ g. failed (g ++ gap) fault))
ending_tokens m front (OpenRaw dash) = Failed open_raw (span_of front (m.block_start ++ dash_bytes dash))
ending_tokens m front (OpenComment dash) = Failed (open_comment m) (span_of front (m.comment_start ++ dash_bytes dash))

-- the tokens of the pieces and of the ending, after front and to the right of the pieces on the left, the nearest first
abbrev pub tokens_of : Marks → List ℕ → List Piece → List Piece → Ending → Items
tokens_of m front left [] ending = ending_tokens m front ending
tokens_of m front left (p ∷ right) ending =
    piece_tokens m front (trims_start left) (trims_end right ending) p (λ f. tokens_of m f (p ∷ left) right ending)

-- the tokens of a source: those of a division of it
abbrev pub AreTokensOf : Marks → List ℕ → Items → Type 0
AreTokensOf m source items = (pieces : List Piece) × (ending : Ending) × IsDivision m pieces ending source × (items ≡ tokens_of m [] [] pieces ending)
