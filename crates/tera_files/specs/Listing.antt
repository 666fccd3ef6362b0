-- What files were met.
use Rattle.std.specs.Prelude.{◌≡◌, ◌⊎◌, ◌∷◌, ◌++◌, ◌<◌, ℕ, List, [], true, false, cond, bytes_eq, length, map, string_bytes}
use Rattle.std.specs.BTreeSet.{contains_text}
use Rattle.indexmap.specs.IndexSet.{insert_key}
use Rattle.tera_files.specs.declared.listing.Listing.{Listing}

-- their paths
abbrev pub files_in : Listing → List (List ℕ)
files_in listing = map string_bytes listing.files.keys

-- A file was met, or none will be left out.
abbrev pub IsStarted : Listing → Type 0
IsStarted listing = (0 < length (files_in listing)) ⊎ ((itself : List ℕ) → contains_text listing.known itself ≡ false)

-- A path went after the others, or was left out.
abbrev pub IsAdded : List ℕ → List (List ℕ) → List (List ℕ) → Type 0
IsAdded path old new = (new ≡ old) ⊎ (new ≡ old ++ path ∷ [])

-- A file that the system knows by a path of one that was met or is left out is not added. Any other is, by its path, and was
-- met then.
pub record AddsFile (path itself : List ℕ) (old new : Listing) : Type 0 where
  pub again : contains_text old.known itself ≡ true → files_in new ≡ files_in old
  pub first : contains_text old.known itself ≡ false → files_in new ≡ insert_key bytes_eq (files_in old) path
  pub met : (other : List ℕ) → contains_text new.known other ≡ cond (bytes_eq itself other) true (contains_text old.known other)
