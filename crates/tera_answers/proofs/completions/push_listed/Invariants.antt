use Rattle.std.proofs.Common.{◌≡◌, ◌++◌, drop, map, string_bytes}
use Rattle.tera_tree.specs.Calls.{texts}
use Rattle.tera_answers.proofs.completions.push_listed.Given as goal

abbrev pub invariant-loop-name : goal.invariant-loop-name
invariant-loop-name l = texts l.initial.names.items ++ map string_bytes l.list ≡ texts l.names.items ++ map string_bytes (drop l.name-index l.list)
