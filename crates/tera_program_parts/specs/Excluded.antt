-- Paths that are left out.
use Rattle.std.specs.Prelude.{◌≡◌, ◌⊎◌, ◌↔◌, ◌++◌, ◌∷◌, [], ℕ, List, Any, Bool, true, false, IsSomeAnd, IsTrue, Option, String, Vec, bytes_eq, map, string_bytes}
use Rattle.std.specs.declared.alloc.Global.{Global}
use Rattle.std.specs.BTreeSet.{BTreeSet}
use Rattle.std.specs.Cmp.Lexicographic.{pointwise}
use Rattle.std.specs.List.{list_any}
use Rattle.std.specs.Path.{PathStartsWith, path_components}
use Rattle.tera_files.specs.declared.finding.Found.{Found}

-- the components of a path
abbrev pub Names : Type 0
Names = Vec (String Global) Global

abbrev pub names_of : Names → List (List ℕ)
names_of names = map string_bytes names.items

abbrev pub are_names : List (List ℕ) → List (List ℕ) → Bool
are_names names others = pointwise bytes_eq names others

-- one of the paths has these components
abbrev pub has_names : BTreeSet Names → List (List ℕ) → Bool
has_names paths names = list_any (λ (path : Names). are_names names (names_of path)) paths.keys

-- .. if one of these paths has them, which are texts
abbrev pub AreOfPaths : List (List ℕ) → BTreeSet Names → Type 0
AreOfPaths texts paths =
    (names : List (List ℕ)) → has_names paths names ≡ list_any (λ text. are_names names (path_components text)) texts

-- Whether a file is excluded, by what the system may answer for it: it is if the answer is a path at one of the folders
-- or below it.
abbrev pub IsExcluded : (List ℕ → Option (List ℕ) → Type 0) → BTreeSet Names → List ℕ → Bool → Type 0
IsExcluded knows paths file is =
    (known : Option (List ℕ)) × knows file known
    × ((folders : List (List ℕ)) → AreOfPaths folders paths → IsTrue is ↔ IsSomeAnd known (λ path. Any (PathStartsWith path) folders))

-- Those that are left are exactly those that are not out, in their order.
pub data AreOutside {X : Type 0} (IsOut : X → Bool → Type 0) : List X → List X → Type 0 where
  no_more : AreOutside IsOut [] []
  inside : {xs left : List X} (x : X) → AreOutside IsOut xs left → IsOut x true → AreOutside IsOut (xs ++ x ∷ []) left
  outside : {xs left : List X} (x : X) → AreOutside IsOut xs left → IsOut x false → AreOutside IsOut (xs ++ x ∷ []) (left ++ x ∷ [])

-- One more is left, unless it is out.
abbrev pub AddsUnless : {X : Type 0} → (Bool → Type 0) → X → List X → List X → Type 0
AddsUnless IsOut x old new = (IsOut true × (new ≡ old)) ⊎ (IsOut false × (new ≡ old ++ x ∷ []))

-- What is found, without what is excluded.
pub record AreKept (knows : List ℕ → Option (List ℕ) → Type 0) (paths : BTreeSet Names) (found kept : Found) : Type 0 where
  pub files : AreOutside (λ file. IsExcluded knows paths (string_bytes file)) found.files.items kept.files.items
  pub unlisted : AreOutside (λ one. IsExcluded knows paths (string_bytes one.folder)) found.unlisted.items kept.unlisted.items
