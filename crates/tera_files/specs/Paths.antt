-- The paths of what is in folders.
use Rattle.std.specs.Prelude.{◌≡◌, ◌≢◌, ◌⊎◌, ℕ, List, [], ◌++◌, codes}
use Rattle.std.specs.Path.{IsAbsolute, path_join}
use Rattle.tera_files.specs.Names.{EndsIn, IsLeftOut}

-- How paths in a folder begin: with nothing for `.`, and else with the folder, without `./` at its start. The `./` stays where
-- the rest would begin at the root of the system, as in `.//`.
abbrev pub IsBase : List ℕ → List ℕ → Type 0
IsBase folder base =
    ((folder ≡ codes ".") × (base ≡ []))
    ⊎ (((folder ≡ codes "./" ++ base) × ¬ (IsAbsolute base))
    ⊎ ((base ≡ folder) × (folder ≢ codes ".") × ((rest : List ℕ) → folder ≡ codes "./" ++ rest → IsAbsolute rest)))

-- The path of what has this name in a folder.
pub record IsPathIn (folder name path : List ℕ) : Type 0 where
  pub base : List ℕ
  pub of_folder : IsBase folder base
  pub joined : path ≡ path_join base name

-- A folder that is looked into: the one at the top, or one in such a folder whose name is not left out.
pub data IsWithin (top : List ℕ) : List ℕ → Type 0 where
  at_top : IsWithin top top
  inside : {folder : List ℕ} (name path : List ℕ) → IsWithin top folder → ¬ (IsLeftOut name) → IsPathIn folder name path
      → IsWithin top path

-- The folder at the top, or what is below it and is not a link, and the path by which the system knows it: that of the
-- folder at the top, and after it the same names.
pub data IsKnown (top itself : List ℕ) : List ℕ → List ℕ → Type 0 where
  top_is_known : IsKnown top itself top itself
  known_inside : {folder known : List ℕ} (name path : List ℕ) → IsKnown top itself folder known → ¬ (IsLeftOut name)
      → IsPathIn folder name path → IsKnown top itself path (path_join known name)

-- A template below the folder at the top: it is in such a folder, and its name ends in one of the extensions and is not
-- left out.
pub record IsTemplate (extensions : List (List ℕ)) (top path : List ℕ) : Type 0 where
  pub folder : List ℕ
  pub name : List ℕ
  pub within : IsWithin top folder
  pub reported : IsPathIn folder name path
  pub kept : ¬ (IsLeftOut name)
  pub ends : EndsIn name extensions
