use Rattle.std.proofs.Common.{◌<◌, ℕ, map, string_bytes, take}
use Rattle.std.specs.Prelude.{IsTrue}
use Rattle.tera_program_parts.specs.Excluded.{has_names}
use Rattle.tera_program_parts.proofs.excluded.begins_in.Given as goal

-- none of the first names so far are one of the paths
abbrev pub invariant-loop-end : goal.invariant-loop-end
invariant-loop-end l = (k : ℕ) → k < l.end → ¬ IsTrue (has_names l.paths (map string_bytes (take k l.names)))
