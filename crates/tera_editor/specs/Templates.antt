-- The names of templates, and the files that have them.
use Rattle.std.specs.Prelude.{◌≡◌, ◌⊎◌, ◌≤◌, ℕ, nat_eq, nat_lt, if◌then◌else◌, Bool, true, false, List, [], ◌∷◌, codes, length, filter, map, string_bytes, Option, None, Some, option_map, unwrap_or}
use Rattle.std.specs.List.{All, Contains, ends_with}
use Rattle.std.specs.Option.{option_and_then, option_map_or, option_or}
use Rattle.std.specs.Str.{bytes_eq}
use Rattle.file_uris.specs.Names.{is_rooted}
use Rattle.tera_workspace.specs.Sites.{following, name_below}
use Rattle.tera_editor.specs.declared.templates.Roots.{Roots}

-- what comes after a part, where that is first in a text
abbrev pub after_first : List ℕ → List ℕ → Option (List ℕ)
after_first part [] = following part []
after_first part (b ∷ bs) = option_or (following part (b ∷ bs)) (after_first part bs)

-- the name of a template, by the path of its file after a folder, with the slash between: what is there after the first
-- folder `templates`, or else the path
abbrev pub name_in : List ℕ → Option (List ℕ)
name_in path = option_map (unwrap_or (after_first (codes "/templates/") path)) (following (codes "/") path)

abbrev pub name_in_folder : List ℕ → List ℕ → Option (List ℕ)
name_in_folder folder file = option_and_then name_in (following folder file)

-- whether a file is in a folder, at any depth
abbrev pub is_inside : List ℕ → List ℕ → Bool
is_inside folder file = option_map_or is_rooted (following folder file) false

-- the name by the first of the folders that its file is in
abbrev pub name_in_first : List (List ℕ) → List ℕ → Option (List ℕ)
name_in_first [] file = None
name_in_first (f ∷ fs) file = option_or (name_in_folder f file) (name_in_first fs file)

-- where names of templates begin: below the root of the site of a document, if it has one, or else below open folders
pub record RootsVal : Type 0 where
  pub root : Option (List ℕ)
  pub folders : List (List ℕ)

abbrev pub roots_view : Roots → RootsVal
roots_view r = record { root = option_map (λ n. n.now) r.root; folders = map string_bytes r.folders.now }

-- the name by the root, or else by the folders
abbrev pub name_by : Option (List ℕ) → List (List ℕ) → List ℕ → Option (List ℕ)
name_by None folders file = name_in_first folders file
name_by (Some root) folders file = name_below root file

abbrev pub template_name : RootsVal → List ℕ → Option (List ℕ)
template_name roots file = name_by roots.root roots.folders file

-- whether a file has the name, and whether its path ends in it below some folder
abbrev pub is_named : RootsVal → List ℕ → List ℕ → Bool
is_named roots name file = option_map_or (λ n. bytes_eq n name) (template_name roots file) false

abbrev pub is_below : List ℕ → List ℕ → Bool
is_below name file = ends_with nat_eq file (47 ∷ name)

-- the one with the shorter path; if both are as long, the first
abbrev pub nearer : Option (List ℕ) → Option (List ℕ) → Option (List ℕ)
nearer None g = g
nearer (Some f) None = Some f
nearer (Some f) (Some g) = if nat_lt (length g) (length f) then Some g else Some f

-- the first of the files with the shortest path, in the order of their paths
abbrev pub nearest : List (List ℕ) → Option (List ℕ)
nearest [] = None
nearest (f ∷ fs) = nearer (Some f) (nearest fs)

-- the template of a name: the file with the shortest path that has it, or else that ends in it
abbrev pub template_in : RootsVal → List (List ℕ) → List ℕ → Option (List ℕ)
template_in roots files name =
    option_or (nearest (filter (is_named roots name) files)) (nearest (filter (is_below name) files))

-- ---- what holds of it

-- a file that exists and has the name; or none has it, and the path of this one ends in it. No other such file has a
-- shorter path
pub record IsTemplateOf (roots : RootsVal) (files : List (List ℕ)) (name file : List ℕ) : Type 0 where
  pub there : Contains files file
  pub named : (template_name roots file ≡ Some name)
      ⊎ ((is_below name file ≡ true) × All (λ f. is_named roots name f ≡ false) files)
  pub shortest : All (λ f. template_name roots f ≡ Some name → length file ≤ length f) files
