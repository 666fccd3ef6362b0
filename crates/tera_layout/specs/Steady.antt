-- Markers that stay where they are whatever white space a layout puts in or takes out.
use Rattle.std.specs.Prelude.{ℕ, Bool, false, not, ◌&&◌, ◌==◌, List, [], ◌∷◌}
use Rattle.std.specs.Char.{is_ascii_whitespace}
use Rattle.tera_lexer.specs.grammar.Bytes.{dash_byte}
use Rattle.tera_lexer.specs.grammar.Marks.{Marks}
use Rattle.tera_lexer.specs.grammar.Lexeme.{goes_on_name}

-- the byte is not white space, not a dash, and not one of a name
abbrev pub is_sign : ℕ → Bool
is_sign b = not (is_ascii_whitespace b) && (not (dash_byte == b) && not (goes_on_name b))

-- the marker begins with one
abbrev pub begins_with_sign : List ℕ → Bool
begins_with_sign [] = false
begins_with_sign (b ∷ bs) = is_sign b

-- .. and no white space comes after it
abbrev pub is_steady_end : List ℕ → Bool
is_steady_end (b ∷ c ∷ []) = is_sign b && not (is_ascii_whitespace c)
is_steady_end marker = false

-- The start of statements' tags begins so, and so do the ends of statements' and of variables' tags, which hold no
-- white space. Nothing is asked of the other markers.
abbrev pub is_steady : Marks → Bool
is_steady m = begins_with_sign m.block_start && (is_steady_end m.block_end && is_steady_end m.variable_end)
