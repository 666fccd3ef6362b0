use Rattle.std.proofs.Common.{◌≡◌, ◌++◌, map, string_bytes}
use Rattle.std.specs.Path.{path_components}
use Rattle.std.specs.Path.Iter.{path_iter_remaining}
use Rattle.tera_program_parts.proofs.excluded.components_of.Given as goal

-- those so far, and those that are left
abbrev pub invariant-loop-name : goal.invariant-loop-name
invariant-loop-name l = map string_bytes l.names.items ++ path_iter_remaining l.name-iterator ≡ path_components l.path
