-- Files that exist on disk, by their names.
use Rattle.std.specs.Prelude.{◌≡◌, ℕ, List, map, string_bytes, Bool, cond}
use Rattle.std.specs.BTreeSet.{contains_text}
use Rattle.std.specs.Str.{bytes_eq}
use Rattle.tera_editor.specs.declared.known.KnownFiles.{KnownFiles}

abbrev pub is_known : KnownFiles → List ℕ → Bool
is_known k n = contains_text k.names n

-- the names of all, in order
abbrev pub known_names : KnownFiles → List (List ℕ)
known_names k = map string_bytes k.names.keys

-- the file of this name exists, or it does not; and nothing changes for the others
abbrev pub IsKnownAs : List ℕ → Bool → KnownFiles → KnownFiles → Type 0
IsKnownAs name there old now = (n : List ℕ) → is_known now n ≡ cond (bytes_eq name n) there (is_known old n)
