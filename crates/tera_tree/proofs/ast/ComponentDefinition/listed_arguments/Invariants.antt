use Rattle.std.proofs.Common.{◌≡◌, ◌++◌, map, string_bytes}
use Rattle.tera_tree.specs.Calls.{arguments_view, texts}
use Rattle.tera_tree.proofs.ast.ComponentDefinition.listed_arguments.Given as goal

abbrev pub invariant-loop-name : goal.invariant-loop-name
invariant-loop-name l = texts l.names.items ++ map string_bytes l.name-iterator ≡ map (λ a. a.0) (arguments_view l.self.kwargs.entries)
