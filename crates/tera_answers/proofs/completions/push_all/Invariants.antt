use Rattle.std.proofs.Common.{◌≡◌, ◌++◌, drop}
use Rattle.tera_tree.specs.Calls.{texts}
use Rattle.tera_answers.proofs.completions.push_all.Given as goal

abbrev pub invariant-loop-name : goal.invariant-loop-name
invariant-loop-name l = texts l.initial.names.items ++ texts l.list ≡ texts l.names.items ++ texts (drop l.name-index l.list)
