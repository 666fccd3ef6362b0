use Rattle.std.proofs.Common.{◌≡◌, ◌++◌}
use Rattle.tera_ast.specs.View.{args_view}
use Rattle.tera_tree.specs.Parts.{parts_view, parts_of_args}
use Rattle.tera_tree.proofs.parts.push_arguments.Given as goal

abbrev pub invariant-loop-name : goal.invariant-loop-name
invariant-loop-name l =
    parts_view l.initial.parts.items ++ parts_of_args (args_view l.arguments.entries)
    ≡ parts_view l.parts.items ++ parts_of_args (args_view l._name-iterator)
