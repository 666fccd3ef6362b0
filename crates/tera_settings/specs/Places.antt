-- Where a fault is in the text of a file.
use Rattle.std.specs.Prelude.{◌≡◌, ◌⊎◌, ℕ, List, [], ◌∷◌, ◌++◌, Option, None, Some, Contains, IsSomeAnd, drop, string_bytes}
use Rattle.std.specs.Option.{option_map}
use Rattle.toml.specs.Errors.{span_start}
use Rattle.toml_parser.specs.Strings.{key}
use Rattle.tera_settings.specs.declared.fault.Fault.{Fault}
use Rattle.tera_settings.specs.declared.fault.Fault.TheVariants as faults
use Rattle.tera_settings.specs.declared.fault.Wrong.{Wrong}

-- by the grammar of TOML a key of these parts begins at a byte of the text
abbrev pub HasPartsAt : List ℕ → ℕ → List (List ℕ) → Type 0
HasPartsAt text at parts = IsSomeAnd (key (drop at text)) (λ read. read.0.0 ++ read.0.1 ∷ [] ≡ parts)

-- and this name is one of its parts
abbrev pub HasKeyAt : List ℕ → ℕ → List ℕ → Type 0
HasKeyAt text at name = (parts : List (List ℕ)) × HasPartsAt text at parts × Contains parts name

-- the key of the member begins there, or that of its table
abbrev pub IsKeyOf : List ℕ → List ℕ → Option (List ℕ) → ℕ → Type 0
IsKeyOf text name None at = HasKeyAt text at name
IsKeyOf text name (Some table) at = HasKeyAt text at name ⊎ HasKeyAt text at table

abbrev pub IsPlaceOfMember : List ℕ → Wrong → ℕ → Type 0
IsPlaceOfMember text wrong at = IsKeyOf text (string_bytes wrong.key) (option_map (λ t. t.now) wrong.table) at

-- the fault is at the byte; memory is at none
abbrev pub IsPlaceOf : List ℕ → Fault → ℕ → Type 0
IsPlaceOf text faults.Memory at = ⊥
IsPlaceOf text (faults.Text error) at = at ≡ span_start error
IsPlaceOf text (faults.Member wrong) at = IsPlaceOfMember text wrong at
