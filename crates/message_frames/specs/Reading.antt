-- Reading lines from the front on, byte by byte.
use Rattle.std.specs.Prelude.{ℕ, ◌+◌, ◌-◌, ◌*◌, ◌^◌, ◌&&◌, ◌==◌, nat_lt, if◌then◌else◌, List, [], ◌∷◌, length, Option, Some, None}
use Rattle.std.specs.Option.{option_map, option_and_then}
use Rattle.std.specs.Char.{is_ascii_digit}
use Rattle.message_frames.specs.declared.field.Number.{Number}
use Rattle.message_frames.specs.declared.field.Number.TheVariants.{Before, Within, After}
use Rattle.message_frames.specs.declared.field.Field.{Field}
use Rattle.message_frames.specs.declared.field.Field.TheVariants as fields
use Rattle.message_frames.specs.declared.field.Stated.{Stated}
use Rattle.message_frames.specs.declared.field.Stated.TheVariants as stated
use Rattle.message_frames.specs.Header.{is_blank, is_colon, names_length}

-- ---- a number

abbrev pub after_blank : Number → Number
after_blank Before = Before
after_blank (Within n) = After n
after_blank (After n) = After n

abbrev pub after_digit : ℕ → ℕ → Option Number
after_digit n b =
    if is_ascii_digit b && nat_lt (n * 10 + (b - 48)) (2 ^ 64) then Some (Within (n * 10 + (b - 48))) else None

abbrev pub after_other : Number → ℕ → Option Number
after_other Before b = after_digit 0 b
after_other (Within n) b = after_digit n b
after_other (After n) b = None

abbrev pub following : Number → ℕ → Option Number
following s b = if is_blank b then Some (after_blank s) else after_other s b

abbrev pub number_of : Number → Option ℕ
number_of Before = None
number_of (Within n) = Some n
number_of (After n) = Some n

abbrev pub reads : Number → List ℕ → Option ℕ
reads s [] = number_of s
reads s (b ∷ bytes) = option_and_then (λ t. reads t bytes) (following s b)

-- ---- a line

-- what is before the first colon, and what after it
abbrev pub cut : List ℕ → Option (List ℕ × List ℕ)
cut [] = None
cut (b ∷ bytes) = if is_colon b then Some ([], bytes) else option_map (λ p. (b ∷ p.0, p.1)) (cut bytes)

abbrev pub length_field : Option ℕ → Field
length_field None = fields.Malformed
length_field (Some n) = fields.Length n

abbrev pub field_at : Option (List ℕ × List ℕ) → Field
field_at None = fields.Malformed
field_at (Some p) =
    if length p.0 == 0 then fields.Malformed else (if names_length p.0 then length_field (reads Before p.1) else fields.Other)

unfoldable pub field_of : List ℕ → Field
field_of line = field_at (cut line)

-- ---- lines

abbrev pub stated_with : Stated → Field → Stated
stated_with stated.Nothing (fields.Length n) = stated.Length n
stated_with stated.Nothing fields.Other = stated.Nothing
stated_with (stated.Length n) fields.Other = stated.Length n
stated_with _ _ = stated.Malformed

abbrev pub stated_after : Stated → List (List ℕ) → Stated
stated_after t [] = t
stated_after t (line ∷ lines) = stated_after (stated_with t (field_of line)) lines
