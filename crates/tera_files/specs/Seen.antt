-- What is in a folder, and where it belongs.
use Rattle.std.specs.Prelude.{◌≡◌, ◌⊎◌, List, ℕ, string_bytes}
use Rattle.tera_files.specs.Names.{EndsIn, IsLeftOut}
use Rattle.tera_files.specs.declared.seen.Entry.{Entry}
use Rattle.tera_files.specs.declared.seen.Kind.{Kind}
use Rattle.tera_files.specs.declared.seen.Kind.TheVariants as kinds
use Rattle.tera_files.specs.declared.seen.Place.{Place}
use Rattle.tera_files.specs.declared.seen.Place.TheVariants as places

-- A name of what is looked for in folders.
abbrev pub IsSelected : List (List ℕ) → List ℕ → Type 0
IsSelected extensions name = ¬ (IsLeftOut name) × EndsIn name extensions

abbrev pub IsFile : Kind → Type 0
IsFile kind = (kind ≡ kinds.File) ⊎ (kind ≡ kinds.Link)

-- A template, a folder that is looked into, a template to which no path leads, or nothing of these.
abbrev pub IsPlace : List (List ℕ) → Entry → Place → Type 0
IsPlace extensions entry places.Templates = IsFile entry.kind × IsSelected extensions (string_bytes entry.name)
IsPlace extensions entry places.Folders = (entry.kind ≡ kinds.Folder) × ¬ (IsLeftOut (string_bytes entry.name))
IsPlace extensions entry places.Unlisted = (entry.kind ≡ kinds.Unnamed) × IsSelected extensions (string_bytes entry.name)
IsPlace extensions entry places.Nowhere =
    ¬ ((entry.kind ≡ kinds.Folder) × ¬ (IsLeftOut (string_bytes entry.name)))
    × ¬ ((IsFile entry.kind ⊎ (entry.kind ≡ kinds.Unnamed)) × IsSelected extensions (string_bytes entry.name))
