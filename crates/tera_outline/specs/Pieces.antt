-- The tokens of a text, each with its bytes. After a lexical fault they go on with the next tag, and from there on each
-- tag ends where the next one begins at the latest.
use Rattle.std.specs.Prelude.{◌≡◌, ◌<◌, ◌≤◌, ◌+◌, ◌++◌, ℕ, zero, suc, Bool, true, false, Option, Some, None, if◌then◌else◌, List, [], ◌∷◌, drop, map, min, nat_lt, option_map, unwrap_or}
use Rattle.tera_lexer.specs.grammar.Division.{is_at_start}
use Rattle.tera_lexer.specs.grammar.Marks.{default_marks}
use Rattle.tera_lexer.specs.grammar.Tokens.{Tok, Start, Finish, Items, Ended, Failed, Token, AreTokensOf}
use Rattle.tera_lexer.specs.code.Seen.{seen}
use Rattle.tera_outline.specs.declared.pieces.Piece.{Piece}

-- a token, and the bytes between which it is
pub record Part : Type 0 where
  pub token : Tok
  pub start : ℕ
  pub end : ℕ

abbrev pub part_of : Piece → Part
part_of p = record { token = seen p.token; start = p.start; end = p.end }

-- the tokens before the end or the fault
abbrev pub parts_in : Items → List Part
parts_in Ended = []
parts_in (Failed text span) = []
parts_in (Token t span items) = record { token = t; start = span.range.start; end = span.range.end } ∷ parts_in items

-- ---- where they go on

-- the byte after the start of the tag that is open after a token that ends with this byte, if one is
abbrev pub opened_after : Option ℕ → Tok → ℕ → Option ℕ
opened_after opened (Start kind dash) end = Some end
opened_after opened (Finish kind dash) end = None
opened_after opened t end = opened

-- how many bytes are before the first start of a tag, if there is one
abbrev pub start_in : List ℕ → Option ℕ
start_in [] = None
start_in (b ∷ bs) = if is_at_start default_marks (b ∷ bs) then Some 0 else option_map suc (start_in bs)

-- the first byte of the text from this one on with which one begins
abbrev pub start_from : ℕ → List ℕ → Option ℕ
start_from from text = option_map (λ n. from + n) (start_in (drop from text))

abbrev pub start_after : List ℕ → Option ℕ → Option ℕ
start_after text None = None
start_after text (Some opened) = start_from opened text

-- where a tag ends at the latest that is open after a byte, in what is read after a fault
abbrev pub stop_of : Bool → List ℕ → Option ℕ → Option ℕ
stop_of again text opened = if again then start_after text opened else None

abbrev pub is_over : Option ℕ → ℕ → Bool
is_over None end = false
is_over (Some stop) end = nat_lt stop end

-- a token that ends with this byte goes over the end of its tag
abbrev pub goes_over : Bool → List ℕ → Option ℕ → ℕ → Bool
goes_over again text opened end = is_over (stop_of again text opened) end

-- those before the end, before the fault, or up to the first that goes over the end of its tag; before them the tag is
-- open that `opened` says
abbrev pub read_in : Bool → List ℕ → Option ℕ → Items → List Part
read_in again text opened Ended = []
read_in again text opened (Failed message span) = []
read_in again text opened (Token t span items) =
    record { token = t; start = span.range.start; end = span.range.end }
    ∷ (if goes_over again text opened span.range.end then [] else read_in again text (opened_after opened t span.range.end) items)

-- the byte after the start of the tag in which they stop, or of the comment or the raw piece that has no end
abbrev pub stopped_after : Bool → List ℕ → Option ℕ → Items → Option ℕ
stopped_after again text opened Ended = None
stopped_after again text opened (Failed message span) = Some (unwrap_or opened span.range.end)
stopped_after again text opened (Token t span items) =
    if goes_over again text opened span.range.end then opened
    else stopped_after again text (opened_after opened t span.range.end) items

-- the byte at which the tokens of the text go on: with the first tag that begins after the start of the one in which
-- they stop
abbrev pub next_of : Bool → List ℕ → Items → Option ℕ
next_of again text items = start_after text (stopped_after again text None items)

-- ---- all of them

-- those that begin before the byte; the last ends there at the latest
abbrev pub before : ℕ → List Part → List Part
before stop [] = []
before stop (p ∷ ps) = if nat_lt p.start stop then record p { end = min p.end stop } ∷ before stop ps else []

abbrev pub moved : ℕ → Part → Part
moved bytes p = record { token = p.token; start = bytes + p.start; end = bytes + p.end }

-- what is kept of those that were read, where they go on at a byte
abbrev pub kept : Option ℕ → List Part → List Part
kept None read = read
kept (Some next) read = before next read

-- where what is read of a text does not go on, that is all; otherwise the rest comes after what is kept
abbrev pub AreWithRest : (List ℕ → List Part → Type 0) → List ℕ → List Part → Option ℕ → List Part → Type 0
AreWithRest AreOfRest text read None parts = parts ≡ read
AreWithRest AreOfRest text read (Some next) parts =
    (rest : List Part) × AreOfRest (drop next text) rest × (parts ≡ kept (Some next) read ++ map (moved next) rest)

-- those of a text, in which reading begins at most at so many places; `again` where that is after a fault
unfoldable pub AreReadBy : ℕ → Bool → List ℕ → List Part → Type 0
AreReadBy zero again text parts = parts ≡ []
AreReadBy (suc n) again text parts =
    (items : Items) × AreTokensOf default_marks text items
    × AreWithRest (AreReadBy n true) text (read_in again text None items) (next_of again text items) parts

-- those of the text between the default markers
abbrev pub ArePartsOf : List ℕ → List Part → Type 0
ArePartsOf text parts = AreReadBy 100 false text parts

-- they are between these bytes, one after the other, and none is empty
abbrev pub AreBetween : ℕ → ℕ → List Part → Type 0
AreBetween from to [] = from ≤ to
AreBetween from to (p ∷ ps) = (from ≤ p.start) × (p.start < p.end) × AreBetween p.end to ps
