use Rattle.tera_settings.specs.Values.{texts}
use Rattle.tera_settings.proofs.ValueLemmas.{RulesFrom}
use Rattle.tera_settings.proofs.reading.rules_of.Given as goal

-- the levels so far, and those of the members that are left
abbrev pub invariant-loop-key : goal.invariant-loop-key
invariant-loop-key l = RulesFrom (texts l.names) l.section.table.now.entries l.key-iterator l.rules.items
