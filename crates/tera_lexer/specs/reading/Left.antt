-- The tokens that a reading has left.
use Rattle.std.specs.Prelude.{ℕ, ◌+◌, Bool, false, ◌||◌, if◌then◌else◌, List, [], ◌∷◌, ◌++◌, Option, Some, None}
use Rattle.tera_lexer.specs.grammar.Marks.{Marks, end_marker}
use Rattle.tera_lexer.specs.grammar.Lexeme.{Item, Close, End, Open, Bad}
use Rattle.tera_lexer.specs.grammar.Division.{Piece, Text, Comment, Raw, Tag, Ending}
use Rattle.tera_lexer.specs.grammar.Trimming.{ends_dashed, trims_end}
use Rattle.tera_lexer.specs.grammar.Tokens.{Items, Ended, Failed, Token, lexemes, tag_end, failed, piece_tokens, ending_tokens}
use Rattle.tera_lexer.specs.reading.Front.{inside_of, division_of}
use Rattle.tera_lexer.specs.reading.State.{Progress}
use Rattle.tera_lexer.specs.reading.Stream.{Stream}
use Rattle.tera_lexer.specs.declared.lexer.delimiters.Kind.{Kind}

-- before the first token
abbrev pub start_of : Marks → List ℕ → Progress
start_of m source = record { marks = m; front = []; rest = source; tag = None; trim = false; failed = false }

-- whether a dash trims the start of a text after a piece, where one trims that of the piece or none does
abbrev pub trims_after : Bool → Piece → Bool
trims_after trim (Text text) = false
trims_after trim (Comment dash inside) = trim || ends_dashed inside
trims_after trim (Raw dash opening body closing) = closing.dash_out
trims_after trim (Tag kind dash items gap end) = end

-- the tokens of the pieces and of the ending, after front, where a dash trims the start of the first text or none does
abbrev pub tokens_by : Marks → List ℕ → Bool → List Piece → Ending → Items
tokens_by m front trim [] ending = ending_tokens m front ending
tokens_by m front trim (p ∷ ps) ending = piece_tokens m front trim (trims_end ps ending) p (λ f. tokens_by m f (trims_after trim p) ps ending)

-- the piece that begins the bytes begins with a dash
abbrev pub starts_dashed : Marks → List ℕ → Bool
starts_dashed m bytes = trims_end (division_of m bytes).0 (division_of m bytes).1

-- the tokens after front, where rest is outside a tag
abbrev pub left_outside : Marks → List ℕ → Bool → List ℕ → Items
left_outside m front trim rest = tokens_by m front trim (division_of m rest).0 (division_of m rest).1

-- the tokens from these lexemes of a tag on
abbrev pub left_by : Marks → Kind → List ℕ → List Item → Close → Items
left_by m kind front items (End gap dash rest) = lexemes front items (λ g. tag_end m (g ++ gap) kind dash (λ h. left_outside m h dash rest))
left_by m kind front items (Open gap) = lexemes front items (λ g. Ended)
left_by m kind front items (Bad gap fault at) = lexemes front items (λ g. failed (g ++ gap) fault)

-- the tokens after front, where rest is inside a tag
abbrev pub left_inside : Marks → Kind → List ℕ → List ℕ → Items
left_inside m kind front rest = left_by m kind front (inside_of (end_marker kind m) rest).0 (inside_of (end_marker kind m) rest).1

abbrev pub left_in : Marks → Option Kind → List ℕ → Bool → List ℕ → Items
left_in m None front trim rest = left_outside m front trim rest
left_in m (Some kind) front trim rest = left_inside m kind front rest

-- the tokens after the place that is reached
unfoldable pub ahead_of : Progress → Items
ahead_of r = left_in r.marks r.tag r.front r.trim r.rest

-- those that are still given: none after a fault
abbrev pub left_of : Progress → Items
left_of r = if r.failed then Ended else ahead_of r

-- the whole source
abbrev pub whole_of : Progress → List ℕ
whole_of r = r.front ++ r.rest

-- what a reading still gives
abbrev pub stream_of : Progress → Stream
stream_of r = record { source = whole_of r; left = left_of r; stopped = if r.failed then Some (ahead_of r) else None }

-- how many items that are: a fault is one too
abbrev pub item_count : Items → ℕ
item_count Ended = 0
item_count (Failed text span) = 1
item_count (Token t span items) = item_count items + 1
