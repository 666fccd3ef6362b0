use Rattle.tera_tree.proofs.CallNames.{names_of, arguments_ordered, listed_more, listed_all}
use Rattle.tera_tree.proofs.ast.ComponentDefinition.listed_arguments.Goals as goal

pub loop-name-init : goal.loop-name-init
loop-name-init c =
    rw (c.new-names.ensures.items, c.into_iter-name-iterator.ensures.into_iter_gives, c.keys-name-items.ensures.rest) (names_of c.args.self.now.kwargs.entries)

pub loop-name-preserved : goal.loop-name-preserved
loop-name-preserved c =
    rw c.in_ok-push.ensures.items (listed_more c.loop-name.names.items c.as_str.result c.in-Some.name.now c.next.new.self c.loop-name.name-iterator _ c.loop-name.invariant c.in-Some.ensures.steps c.as_str.ensures.value)

pub returns-clause-names : goal.returns-clause-names
returns-clause-names c = listed_all c.loop-name.names.items c.loop-name.name-iterator _ c.loop-name.invariant c.in-None.ensures.steps.0

pub returns-clause-ordered : goal.returns-clause-ordered
returns-clause-ordered c = rw (returns-clause-names c) (arguments_ordered c.args.self.now.kwargs.entries c.keys-name-items.ensures.ordered)
