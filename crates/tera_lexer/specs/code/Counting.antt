-- How the program counts places.
use Rattle.std.specs.Prelude.{ℕ, Bool, false, nat_lt, ◌+◌, ◌<◌, ◌≤◌, slice_index, if◌then◌else◌, List, [], ◌∷◌, length}
use Rattle.tera_lexer.specs.grammar.Place.{is_line_feed, begins_character}
use Rattle.tera_lexer.specs.declared.lexer.place.Place.{Place}

-- ASCII without control bytes
abbrev pub ArePrintable : List ℕ → Type 0
ArePrintable bytes = (k : ℕ) → k < length bytes → (32 ≤ slice_index bytes k) × (slice_index bytes k < 128)

-- the same of one byte
abbrev pub is_printable_byte : ℕ → Bool
is_printable_byte b = if nat_lt b 32 then false else nat_lt b 128

-- the place one byte further, and after some bytes
abbrev pub stepped : Place → ℕ → Place
stepped p b = record {
  line = if is_line_feed b then p.line + 1 else p.line;
  column = if is_line_feed b then 0 else (if begins_character b then p.column + 1 else p.column);
  byte = p.byte + 1;
}

abbrev pub moved : Place → List ℕ → Place
moved p [] = p
moved p (b ∷ bs) = moved (stepped p b) bs
