use Rattle.tera_rules.specs.Registered.{registered_view}
use Rattle.tera_check.specs.Unknown.{AreWithUnknown}
use Rattle.tera_check.proofs.unknown.add_unknown.Given as goal

abbrev pub invariant-loop-number : goal.invariant-loop-number
invariant-loop-number l = AreWithUnknown (registered_view l.registered) l.templates.items l.number l.fn.all.items l.all.items
