use Rattle.std.proofs.Common.{◌≡◌, ℕ, List, map, string_bytes, take}
use Rattle.std.specs.List.{list_any}
use Rattle.std.specs.Str.{bytes_eq}
use Rattle.tera_rules.specs.Registered.{has_name}
use Rattle.tera_rules.proofs.registered.names_in.Given as goal

-- the set has the names so far
abbrev pub invariant-loop-name : goal.invariant-loop-name
invariant-loop-name l =
    (n : List ℕ) → has_name l.names n ≡ list_any (λ name. bytes_eq name n) (map string_bytes (take l.name-index l.list))
