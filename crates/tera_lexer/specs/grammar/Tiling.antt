-- How the tokens of a source are in it: one after the other, with nothing but white space between them, and that only
-- inside tags.
use Rattle.std.specs.Prelude.{◌≡◌, ◌≢◌, ◌<◌, ◌^◌, ℕ, pos, Bool, true, false, List, [], ◌∷◌, ◌++◌, length}
use Rattle.std.specs.List.{AllByRecursion}
use Rattle.std.specs.Char.{is_ascii_whitespace}
use Rattle.tera_lexer.specs.grammar.Place.{span_of}
use Rattle.tera_lexer.specs.grammar.Lexeme.{decimal}
use Rattle.tera_lexer.specs.grammar.Trimming.{trimmed}
use Rattle.tera_lexer.specs.grammar.Tokens.{Tok, Content, RawContent, Remark, Start, Finish, Ident, Str, Escaped, Integer, Truth, Symbol, Items, Ended, Failed, Token}

-- the bytes between two tokens, inside a tag or not
abbrev pub AreBetween : Bool → List ℕ → Type 0
AreBetween true gap = AllByRecursion (λ b. is_ascii_whitespace b ≡ true) gap
AreBetween false gap = gap ≡ []

-- whether a tag is open after the token
abbrev pub in_tag_after : Bool → Tok → Bool
in_tag_after inside (Content text) = inside
in_tag_after inside (RawContent dash text end) = inside
in_tag_after inside (Remark dash end) = inside
in_tag_after inside (Start kind dash) = true
in_tag_after inside (Finish kind dash) = false
in_tag_after inside (Ident name) = inside
in_tag_after inside (Str text) = inside
in_tag_after inside (Escaped text) = inside
in_tag_after inside (Integer n) = inside
in_tag_after inside (Truth b) = inside
in_tag_after inside (Symbol op) = inside

-- outside a tag are texts and starts of tags, and inside one all but those. A raw piece and a comment as such are
-- nowhere.
abbrev pub Belongs : Bool → Tok → Type 0
Belongs inside (Content text) = inside ≡ false
Belongs inside (RawContent dash text end) = ⊥
Belongs inside (Remark dash end) = ⊥
Belongs inside (Start kind dash) = inside ≡ false
Belongs inside (Finish kind dash) = inside ≡ true
Belongs inside (Ident name) = inside ≡ true
Belongs inside (Str text) = inside ≡ true
Belongs inside (Escaped text) = inside ≡ true
Belongs inside (Integer n) = inside ≡ true
Belongs inside (Truth b) = inside ≡ true
Belongs inside (Symbol op) = inside ≡ true

-- what the bytes of a token have to do with what it holds: a name and an operator are the bytes; a string is between
-- two quotes; a number is that which they write, below 2^63; a text is a part of them, with or without the white space
-- at its ends. A raw piece and a comment as such have none.
abbrev pub Shows : Tok → List ℕ → Type 0
Shows (Content text) bytes =
    (before body following : List ℕ) × (start end : Bool) × (bytes ≡ before ++ (body ++ following)) × (text ≡ trimmed start end body)
Shows (RawContent dash text end) bytes = ⊥
Shows (Remark dash end) bytes = ⊥
Shows (Ident name) bytes = name ≡ bytes
Shows (Str text) bytes = (quote : ℕ) × (bytes ≡ quote ∷ (text ++ quote ∷ []))
Shows (Symbol op) bytes = op ≡ bytes
Shows (Start kind dash) bytes = Unit {0}
Shows (Finish kind dash) bytes = Unit {0}
Shows (Escaped text) bytes = Unit {0}
Shows (Integer n) bytes = (n ≡ pos (decimal bytes)) × (decimal bytes < 2 ^ 63)
Shows (Truth b) bytes = Unit {0}

-- the tokens are in the rest of a source after front: each where it belongs, with some bytes after a gap, and its span
-- is theirs; a fault comes after a gap before some byte
abbrev pub Tile : Bool → List ℕ → List ℕ → Items → Type 0
Tile inside front rest Ended = AreBetween inside rest
Tile inside front rest (Failed text span) =
    (gap at : List ℕ) × (rest ≡ gap ++ at) × AreBetween inside gap × (at ≢ []) × (span.range.start ≡ length (front ++ gap))
Tile inside front rest (Token t span items) =
    (gap bytes following : List ℕ) × (rest ≡ gap ++ (bytes ++ following)) × AreBetween inside gap × (bytes ≢ []) × Belongs inside t × Shows t bytes
    × (span ≡ span_of (front ++ gap) bytes) × Tile (in_tag_after inside t) ((front ++ gap) ++ bytes) following items
