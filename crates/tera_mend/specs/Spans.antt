-- Parts of a text that no edit meets.
use Rattle.std.specs.Prelude.{◌≡◌, ◌+◌, ◌≤◌, ◌⊎◌, ℕ, List, ◌++◌, length}
use Rattle.std.specs.List.{AllByRecursion}
use Rattle.tera_lexer.specs.grammar.Place.{span_of}
use Rattle.tera_mend.specs.Mending.{EditVal, Step}

-- the edit is after these bytes of a text, or before them
abbrev pub IsApart : ℕ → ℕ → EditVal → Type 0
IsApart start end e = (end ≤ e.at) ⊎ (e.at + length e.bytes ≤ start)

-- so is each edit, and so is each that was written for a fault
abbrev pub MeetsNone : ℕ → ℕ → List EditVal → Type 0
MeetsNone start end edits = AllByRecursion (IsApart start end) edits

abbrev pub MeetsNoStep : ℕ → ℕ → List Step → Type 0
MeetsNoStep start end steps = AllByRecursion (λ s. MeetsNone start end s.edits) steps

-- the source has the same text at the same lines, columns and bytes as a text that has it after these
abbrev pub HasPart : List ℕ → List ℕ → List ℕ → Type 0
HasPart source front part = (ahead after : List ℕ) × (source ≡ ahead ++ (part ++ after)) × (span_of ahead part ≡ span_of front part)
