use Rattle.std.proofs.Common.{◌≡◌, ℕ, List, map}
use Rattle.std.specs.Prelude.{◌||◌}
use Rattle.std.specs.List.{list_any}
use Rattle.tera_rules.specs.Pending.{seen}
use Rattle.tera_rules.specs.Registered.{has_name}
use Rattle.tera_check.specs.UnusedComponents.{is_call_of}
use Rattle.tera_check.proofs.unused_components.put_names.Given as goal

-- the set has the names of the calls so far
abbrev pub invariant-loop-call : goal.invariant-loop-call
invariant-loop-call l =
    (n : List ℕ) → has_name l.names n ≡ (has_name l.initial.names n || list_any (is_call_of n) (map seen l.yielded))
