-- The paths of a file of settings.
use Rattle.std.specs.Prelude.{◌≡◌, ◌⊎◌, ℕ, List, [], Some, codes, length, map, string_bytes, unwrap_or}
use Rattle.std.specs.Option.{option_map}
use Rattle.std.specs.Path.{path_join, path_parent}
use Rattle.tera_settings.specs.Values.{text_view, texts_view}
use Rattle.settings_files.specs.declared.configured.Configured.{Configured}
use Rattle.settings_files.specs.declared.places.Places.{Places}

-- the file is named `tera.toml` in a folder
abbrev pub IsInFolder : List ℕ → Type 0
IsInFolder file = (folder : List ℕ) × (file ≡ path_join folder (codes "tera.toml"))

-- the folder above a folder: the one in which its name is; from a folder without a name, as `..` has none, it is one more `..`
abbrev pub IsAbove : List ℕ → List ℕ → Type 0
IsAbove folder above = (path_parent folder ≡ Some above) ⊎ (above ≡ path_join folder (codes ".."))

-- the folder that a file is in
abbrev pub folder_of : List ℕ → List ℕ
folder_of file = unwrap_or (path_parent file) []

-- where a path that is written in a file leads: it is from the folder of the file
abbrev pub led_from : List ℕ → List ℕ → List ℕ
led_from file path = path_join (folder_of file) path

abbrev pub all_led_from : List ℕ → List (List ℕ) → List (List ℕ)
all_led_from file paths = map (led_from file) paths

-- Where the paths of a file of settings lead: its root, and its libraries in their order. What it leaves out are as many paths as it has.
pub record ArePlaces (c : Configured) (places : Places) : Type 0 where
  pub root : text_view places.root ≡ option_map (led_from (string_bytes c.source.file)) (text_view c.settings.root)
  pub libraries : map string_bytes places.libraries.items ≡ all_led_from (string_bytes c.source.file) (unwrap_or (texts_view c.settings.libraries) [])
  pub exclude : length places.exclude.items ≡ length (unwrap_or (texts_view c.settings.exclude) [])
