use Rattle.tera_check.specs.Added.{AreAdded}
use Rattle.tera_check.specs.UnusedComponents.{due_unused_components, is_called}
use Rattle.tera_check.proofs.unused_components.add_unused_components.Given as goal

abbrev pub invariant-loop-number : goal.invariant-loop-number
invariant-loop-number l = AreAdded (due_unused_components (is_called l.called)) l.templates.items l.number l.fn.all.items l.all.items
