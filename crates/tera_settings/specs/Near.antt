-- The name that may have been meant by a word.
use Rattle.std.specs.Prelude.{◌≡◌, ℕ, ◌≤◌, ◌/◌, List, Bool, true, false, if◌then◌else◌, Option, None, Some, All, Contains, length, nat_le}
use Rattle.std.specs.Str.{chars}
use Rattle.strsim.specs.Edits.{osa_table}
use Rattle.tera_settings.specs.declared.near.Near.{Near}

-- how many edits lead from a word to a name: letters that are missing, too many, others or exchanged
abbrev pub distance : List ℕ → List ℕ → ℕ
distance word name = (osa_table (chars word) (chars name)).last_row (length (chars name))

-- a name, and a number of edits that lead to it
abbrev pub NearVal : Type 0
NearVal = List ℕ × ℕ

-- they edit a third of the name at most
abbrev pub is_within : NearVal → Bool
is_within (name, far) = nat_le far (length (chars name) / 3)

-- a name is near to a word
abbrev pub is_near : List ℕ → List ℕ → Bool
is_near word name = is_within (name, distance word name)

-- Of the names that are near to a word it is the nearest; or there is none.
abbrev pub IsNearest : List ℕ → List (List ℕ) → Option (List ℕ) → Type 0
IsNearest word names None = All (λ name. is_near word name ≡ false) names
IsNearest word names (Some nearest) =
    Contains names nearest × (is_near word nearest ≡ true)
    × All (λ name. is_near word name ≡ true → distance word nearest ≤ distance word name) names

-- the first of two names that is near, unless the second is nearer
abbrev pub nearer : Option NearVal → NearVal → Option NearVal
nearer None other = if is_within other then Some other else None
nearer (Some near) other = if is_within other then (if nat_le near.1 other.1 then Some near else Some other) else Some near

abbrev pub near_view : Near → NearVal
near_view near = (near.name.now, near.far)
