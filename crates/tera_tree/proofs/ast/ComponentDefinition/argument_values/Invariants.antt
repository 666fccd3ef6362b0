use Rattle.std.proofs.Common.{◌≡◌, List, [], ◌++◌, String, Global}
use Rattle.std.specs.Fn.{FnReturnsAt}
use Rattle.std.specs.List.{AllZip}
use Rattle.tera_base.specs.Contexts.{context_view, put_all}
use Rattle.tera_tree.specs.Outcomes.{Gives}
use Rattle.tera_tree.specs.Calls.{Pair, arguments_view, ArgumentComesTo}
use Rattle.tera_tree.specs.declared.ast.ComponentArgument.{ComponentArgument}
use Rattle.tera_tree.proofs.ast.ComponentDefinition.argument_values.Given as goal

abbrev pub invariant-loop-name : goal.invariant-loop-name
invariant-loop-name g l =
    (done : List (String Global × ComponentArgument)) × (given : List Pair)
    × (l.self.kwargs.entries ≡ done ++ l.name-iterator)
    × AllZip (λ a p. ArgumentComesTo (FnReturnsAt g.G.Fn l.get_value) (FnReturnsAt g.H.Fn l.get_implicit_value) a (Gives p)) (arguments_view done) given
    × (context_view l.context ≡ put_all given [])
