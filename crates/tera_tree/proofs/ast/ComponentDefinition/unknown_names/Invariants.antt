use Rattle.std.proofs.Common.{◌≡◌}
use Rattle.tera_tree.specs.Calls.{arguments_view, texts, unknown}
use Rattle.tera_tree.proofs.ast.ComponentDefinition.unknown_names.Given as goal

abbrev pub invariant-loop-name : goal.invariant-loop-name
invariant-loop-name g l = texts l.names.items ≡ unknown (arguments_view l.self.kwargs.entries) (texts l.yielded)
