-- What a table of settings means.
use Rattle.std.specs.Prelude.{◌≡◌, ℕ, List, [], ◌∷◌, Option, None, Some, codes, map, IsSomeAnd}
use Rattle.toml.specs.Data.{Members, as_str}
use Rattle.toml.specs.Parse.{parse_document}
use Rattle.tera_settings.specs.declared.settings.Known.{Known}
use Rattle.tera_settings.specs.declared.settings.Settings.{Settings}
use Rattle.tera_settings.specs.Levels.{rule_levels, rule_view}
use Rattle.tera_settings.specs.Values.{as_texts, setting_at, table_at, text_view, texts_view, unknown_key}

-- the keys of a file
abbrev pub top_names : List (List ℕ)
top_names =
    codes "exclude" ∷ codes "extensions" ∷ codes "known" ∷ codes "libraries" ∷ codes "markers" ∷ codes "root" ∷ codes "rules" ∷ []

-- the keys of its table `known`
abbrev pub known_names : List (List ℕ)
known_names = codes "filters" ∷ codes "functions" ∷ codes "tests" ∷ []

-- the keys of a table: the file, or its table `known`
abbrev pub keys_of : Option (List ℕ) → List (List ℕ)
keys_of None = top_names
keys_of (Some table) = known_names

-- what the table `known` means: it has known keys alone, each with an array of texts
pub record KnownMeans (members : Members) (known : Known) : Type 0 where
  pub names : unknown_key known_names members ≡ None
  pub filters : setting_at as_texts (codes "filters") members ≡ Some (texts_view known.filters)
  pub tests : setting_at as_texts (codes "tests") members ≡ Some (texts_view known.tests)
  pub functions : setting_at as_texts (codes "functions") members ≡ Some (texts_view known.functions)

-- What the table of a file means: it has known keys alone, each with a value of its type, which is the setting. Where the key is absent, so is the setting.
pub record Means (rules : List (List ℕ)) (members : Members) (settings : Settings) : Type 0 where
  pub names : unknown_key top_names members ≡ None
  pub root : setting_at as_str (codes "root") members ≡ Some (text_view settings.root)
  pub extensions : setting_at as_texts (codes "extensions") members ≡ Some (texts_view settings.extensions)
  pub exclude : setting_at as_texts (codes "exclude") members ≡ Some (texts_view settings.exclude)
  pub libraries : setting_at as_texts (codes "libraries") members ≡ Some (texts_view settings.libraries)
  pub markers : setting_at as_str (codes "markers") members ≡ Some (text_view settings.markers)
  pub levels : IsSomeAnd (table_at (codes "rules") members) (λ table. rule_levels rules table ≡ Some (map rule_view settings.rules.items))
  pub known : IsSomeAnd (table_at (codes "known") members) (λ table. KnownMeans table settings.known)

-- what a text means: what its table does, by the grammar of TOML
abbrev pub IsMeantBy : List (List ℕ) → List ℕ → Settings → Type 0
IsMeantBy rules text settings = IsSomeAnd (parse_document text) (λ members. Means rules members settings)
