-- What the program finds at a marker.
use Rattle.std.specs.Prelude.{◌≡◌, ℕ, ◌+◌, Bool, true, false, List, length, take, drop, get_or, Option, Some, None, IfSome, IsUtf8}
use Rattle.std.specs.Option.{is_some}
use Rattle.std.specs.Str.{IsCharBoundary}
use Rattle.tera_lexer.specs.grammar.Marks.{Marks, IsValid, begins, NowhereIn, dash_bytes}
use Rattle.tera_lexer.specs.grammar.Lexeme.{is_at_end, IsEnd}
use Rattle.tera_lexer.specs.grammar.Raw as raw
use Rattle.tera_lexer.specs.grammar.Raw.{word_tag_bytes, raw_word, endraw_word}
use Rattle.tera_lexer.specs.grammar.Division.{Starts, is_at_start, EndsText}
use Rattle.tera_lexer.specs.reading.Front.{RawEnd, find_marker, word_tag_at, raw_end}
use Rattle.tera_lexer.specs.declared.lexer.markers.WordTag.{WordTag}
use Rattle.tera_lexer.specs.declared.lexer.markers.Pair.{Pair}
use Rattle.tera_lexer.specs.declared.lexer.markers.Pairs.{Pairs}
use Rattle.tera_lexer.specs.declared.lexer.markers.Start.{Start}
use Rattle.tera_lexer.specs.declared.lexer.markers.Start.TheVariants.{Variable, Block, Comment, Text}
use Rattle.tera_lexer.specs.declared.lexer.markers.Ahead.{Ahead}
use Rattle.tera_lexer.specs.declared.lexer.markers.Ahead.TheVariants as ahead

-- the start markers are texts
pub record AreStartTexts (m : Marks) : Type 0 where
  pub block_start : IsUtf8 m.block_start
  pub variable_start : IsUtf8 m.variable_start
  pub comment_start : IsUtf8 m.comment_start

-- the two bytes of a marker
pub record IsPair (marker : List ℕ) (p : Pair) : Type 0 where
  pub two : length marker ≡ 2
  pub first : p.first ≡ get_or marker 0 0
  pub second : p.second ≡ get_or marker 1 0

-- those of the start markers
pub record ArePairs (m : Marks) (p : Pairs) : Type 0 where
  pub valid : IsValid m
  pub texts : AreStartTexts m
  pub variable : IsPair m.variable_start p.variable
  pub block : IsPair m.block_start p.block
  pub comment : IsPair m.comment_start p.comment

-- so many bytes are a text, after which a start marker begins or nothing is
pub record IsTextLen (m : Marks) (rest : List ℕ) (len : ℕ) : Type 0 where
  pub cut : IsCharBoundary rest len
  pub plain : NowhereIn (is_at_start m) (take len rest) (drop len rest)
  pub stops : EndsText m (drop len rest)

-- how many bytes a marker takes with its dash
abbrev pub marker_len : List ℕ → Bool → ℕ
marker_len marker dash = length marker + length (dash_bytes dash)

-- a start marker with its dash, after which the text may be cut
abbrev pub IsStartOf : List ℕ → List ℕ → Option Bool → Type 0
IsStartOf marker rest None = begins marker rest ≡ false
IsStartOf marker rest (Some dash) = Starts marker dash rest (drop (marker_len marker dash) rest) × IsCharBoundary rest (marker_len marker dash)

-- what begins a text
abbrev pub IsStart : Marks → List ℕ → Start → Type 0
IsStart m rest (Variable dash) = IsStartOf m.variable_start rest (Some dash)
IsStart m rest (Block dash) = IsStartOf m.block_start rest (Some dash)
IsStart m rest (Comment dash) = IsStartOf m.comment_start rest (Some dash)
IsStart m rest Text = is_at_start m rest ≡ false

-- an end marker with its dash
abbrev pub IsEndOf : List ℕ → List ℕ → Option Bool → Type 0
IsEndOf marker rest None = is_at_end marker rest ≡ false
IsEndOf marker rest (Some dash) = IsEnd marker dash rest (drop (marker_len marker dash) rest) × IsCharBoundary rest (marker_len marker dash)

-- a tag of a raw piece, by its dashes and its length
abbrev pub IsTagOf : List ℕ → List ℕ → WordTag → raw.WordTag → Type 0
IsTagOf word end tag t = (tag.dash_in ≡ t.dash_in) × (tag.dash_out ≡ t.dash_out) × (tag.len ≡ length (word_tag_bytes word end t))

abbrev pub IsWordTagOf : List ℕ → List ℕ → Option WordTag → Option (raw.WordTag × List ℕ) → Type 0
IsWordTagOf word end None None = Unit {0}
IsWordTagOf word end (Some tag) (Some p) = IsTagOf word end tag p.0
IsWordTagOf word end _ _ = ⊥

-- after the block start with its dash is the tag that opens a raw piece
abbrev pub OpensBy : Marks → Bool → WordTag → List ℕ → Type 0
OpensBy m dash tag rest =
    (t : raw.WordTag) × (inside : List ℕ) × IsTagOf raw_word m.block_end tag t
    × IsCharBoundary rest (marker_len m.block_start dash + tag.len)
    × (word_tag_at raw_word m.block_end (drop (marker_len m.block_start dash) rest) ≡ Some (t, inside))

-- the end of a raw piece
abbrev pub IsRawEndOf : List ℕ → Option (ℕ × WordTag) → Option RawEnd → Type 0
IsRawEndOf end None None = Unit {0}
IsRawEndOf end (Some p) (Some e) = (p.0 ≡ e.len) × IsTagOf endraw_word end p.1 e.close
IsRawEndOf end _ _ = ⊥

-- the same end, so many bytes further
unfoldable pub further_end : ℕ → Option RawEnd → Option RawEnd
further_end n None = None
further_end n (Some e) = Some (record e { len = n + e.len })

-- bytes after a block start and its dash that make it a piece: they close a raw piece that they open
abbrev pub closes_by : Marks → Option (raw.WordTag × List ℕ) → Bool
closes_by m None = true
closes_by m (Some p) = is_some (raw_end m.block_start m.block_end false p.1)

abbrev pub is_block_piece : Marks → List ℕ → Bool
is_block_piece m bytes = closes_by m (word_tag_at raw_word m.block_end bytes)

-- bytes after a comment start and its dash that make it a piece
abbrev pub is_comment : Marks → List ℕ → Bool
is_comment m bytes = is_some (find_marker m.comment_end bytes)

-- at which the text may be cut before its block start and after its tag
abbrev pub IsRawCut : Marks → List ℕ → ℕ × WordTag → Type 0
IsRawCut m text p = IsCharBoundary text p.0 × IsCharBoundary text (p.0 + (length m.block_start + p.1.len))

-- how the raw piece closes that this tag opens
abbrev pub ClosesBy : Marks → Bool → WordTag → Option (ℕ × WordTag) → List ℕ → Type 0
ClosesBy m dash opening end rest =
    let body = drop (marker_len m.block_start dash + opening.len) rest in
    IsRawEndOf m.block_end end (raw_end m.block_start m.block_end false body) × IfSome end (IsRawCut m body)

-- what is known of the piece that begins a text
abbrev pub IsAhead : Marks → List ℕ → Ahead → Type 0
IsAhead m rest ahead.Nothing = Unit {0}
IsAhead m rest (ahead.Comment len) =
    IsStartOf m.comment_start rest (Some true)
    × (find_marker m.comment_end (drop (marker_len m.comment_start true) rest) ≡ Some len)
IsAhead m rest (ahead.Raw opening closing) =
    IsStartOf m.block_start rest (Some true) × OpensBy m true opening rest × ClosesBy m true opening (Some closing) rest
