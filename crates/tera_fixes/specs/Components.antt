-- The components that the names of calls were meant to be.
use Rattle.std.specs.Prelude.{◌≡◌, ℕ, List, Option, String, IfSome, string_bytes}
use Rattle.std.specs.BTreeMap.{BTreeMap, get_by_text}
use Rattle.std.specs.Option.{option_map}
use Rattle.std.specs.declared.alloc.Global.{Global}
use Rattle.tera_fixes.specs.Meant.{meant}

abbrev pub meaning_view : Option (String Global) → Option (List ℕ)
meaning_view = option_map string_bytes

-- what is meant by some words, each of which was compared with these names
abbrev pub AreMeanings : List (List ℕ) → BTreeMap (String Global) (Option (String Global)) → Type 0
AreMeanings names meanings =
    (word : List ℕ) → IfSome (get_by_text meanings word) (λ name. meaning_view name ≡ meant word names)
