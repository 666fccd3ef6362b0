-- The templates below a folder.
use Rattle.std.specs.Prelude.{◌≡◌, ◌⊎◌, ◌∷◌, ◌++◌, ℕ, List, [], map, false, All, AllPairs, Contains, IfSome, MatchOption, string_bytes}
use Rattle.std.specs.Cmp.Lexicographic.{slice_cmp}
use Rattle.std.specs.Ordering.{is_lt, nat_cmp}
use Rattle.tera_files.specs.Names.{IsLeftOut}
use Rattle.tera_files.specs.Paths.{IsKnown, IsPathIn, IsTemplate, IsWithin}
use Rattle.tera_files.specs.Seen.{IsFile, IsSelected}
use Rattle.tera_files.specs.declared.below.Below.{Below}
use Rattle.tera_files.specs.declared.below.Folder.{Folder as FolderRow}
use Rattle.tera_files.specs.declared.below.Template.{Template}
use Rattle.tera_files.specs.declared.finding.Unlisted.{Unlisted}
use Rattle.tera_files.specs.declared.seen.Entry.{Entry}
use Rattle.tera_files.specs.declared.seen.Kind.TheVariants.{Folder}

-- One text is not after another, by their bytes.
abbrev pub IsBefore : List ℕ → List ℕ → Type 0
IsBefore one other = is_lt (slice_cmp nat_cmp other one) ≡ false

-- Templates below the folder at the top, in order.
pub record AreTemplates (extensions : List (List ℕ)) (top : List ℕ) (paths : List (List ℕ)) : Type 0 where
  pub templates : All (IsTemplate extensions top) paths
  pub sorted : AllPairs IsBefore paths

-- Some of these went after the others, in their order.
pub record AddsSome (from old new : List (List ℕ)) : Type 0 where
  pub more : List (List ℕ)
  pub following : new ≡ old ++ more
  pub among : All (Contains from) more
  pub sorted : AllPairs IsBefore more

-- the path by which a template is reported
abbrev pub path_of : Template → List ℕ
path_of template = string_bytes template.path

-- the path by which a folder is reported
abbrev pub folder_path : FolderRow → List ℕ
folder_path folder = string_bytes folder.path

-- A template that is not a link is known by its place below the folder at the top, which is known by the path `itself`.
abbrev pub IsKnownTemplate : List ℕ → List ℕ → Template → Type 0
IsKnownTemplate top itself template = IfSome template.itself (λ known. IsKnown top itself (path_of template) (string_bytes known))

-- A folder that was looked into and could not be listed, or the one at the top, which holds no template.
abbrev pub IsUnlisted : List ℕ → Unlisted → Type 0
IsUnlisted top one = MatchOption one.error (string_bytes one.folder ≡ top) (λ _. IsWithin top (string_bytes one.folder))

-- What was found is below the folder at the top, and is known by its place there.
pub record AreBelow (extensions : List (List ℕ)) (top itself : List ℕ) (below : Below) : Type 0 where
  pub templates : All (λ template. IsTemplate extensions top (path_of template)) below.templates.items
  pub known : All (IsKnownTemplate top itself) below.templates.items
  pub folders : All (λ folder. IsKnown top itself (string_bytes folder.path) (string_bytes folder.itself)) below.folders.items
  pub unlisted : All (IsUnlisted top) below.unlisted.items

-- One path goes after the others where it is so, and else none.
abbrev pub AddsWhere : Type 0 → (List ℕ → Type 0) → List (List ℕ) → List (List ℕ) → Type 0
AddsWhere Is IsPath old new = (Is × (path : List ℕ) × IsPath path × (new ≡ old ++ path ∷ [])) ⊎ (¬ Is × (new ≡ old))

-- An entry of a folder that is a template is among the templates, and one that is a folder is to be listed.
pub record AddsEntry (extensions : List (List ℕ)) (folder : List ℕ) (entry : Entry) (old new : Below) : Type 0 where
  pub templates : AddsWhere (IsFile entry.kind × IsSelected extensions (string_bytes entry.name))
      (IsPathIn folder (string_bytes entry.name)) (map path_of old.templates.items) (map path_of new.templates.items)
  pub folders : AddsWhere ((entry.kind ≡ Folder) × ¬ (IsLeftOut (string_bytes entry.name)))
      (IsPathIn folder (string_bytes entry.name)) (map folder_path old.folders.items) (map folder_path new.folders.items)

-- None of the entries is missing, and each is there once, in their order.
pub data AddsEach (extensions : List (List ℕ)) (folder : List ℕ) (old : Below) : List Entry → Below → Type 0 where
  no_entry : AddsEach extensions folder old [] old
  an_entry : {entries : List Entry} {middle : Below} (entry : Entry) (new : Below) → AddsEach extensions folder old entries middle
      → AddsEntry extensions folder entry middle new → AddsEach extensions folder old (entries ++ entry ∷ []) new

-- Such folders are reported after the others.
pub record Reports (top : List ℕ) (old new : List Unlisted) : Type 0 where
  pub more : List Unlisted
  pub following : new ≡ old ++ more
  pub unlisted : All (IsUnlisted top) more
