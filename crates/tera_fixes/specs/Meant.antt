-- The name that a word was meant to be.
use Rattle.std.specs.Prelude.{ℕ, List, Bool, false, not, ◌&&◌, if◌then◌else◌, Option, None, ◌/◌, nat_le, length}
use Rattle.std.specs.List.{filter, find, list_any}
use Rattle.std.specs.Str.{bytes_eq, chars}
use Rattle.tera_settings.specs.Near.{distance}

-- so many edits change at most a third of the name
abbrev pub is_close : List ℕ → ℕ → Bool
is_close name far = nat_le far (length (chars name) / 3)

-- another name that no more edits lead to than to this one
abbrev pub is_rival : List ℕ → List ℕ → ℕ → List ℕ → Bool
is_rival word name far other = if bytes_eq other name then false else nat_le (distance word other) far

abbrev pub has_rival : List ℕ → List (List ℕ) → List ℕ → ℕ → Bool
has_rival word names name far = list_any (is_rival word name far) names

-- the name is meant: at most a third of its characters differ, and those of every other name differ more
abbrev pub is_meant : List ℕ → List (List ℕ) → List ℕ → Bool
is_meant word names name =
    is_close name (distance word name) && not (has_rival word names name (distance word name))

abbrev pub meant_among : List ℕ → List (List ℕ) → Option (List ℕ)
meant_among word names = find (is_meant word names) names

abbrev pub has_at_most : ℕ → List ℕ → Bool
has_at_most most text = nat_le (length (chars text)) most

-- a word of more than 100 characters means no name, and no word means a name of more than 200
abbrev pub meant : List ℕ → List (List ℕ) → Option (List ℕ)
meant word names = if has_at_most 100 word then meant_among word (filter (has_at_most 200) names) else None
