use Rattle.std.proofs.Common.{◌≡◌, map, take}
use Rattle.tera_editor.specs.Settings.{rule_view}
use Rattle.tera_program_parts.specs.Settings.{set_of}
use Rattle.tera_exchange.proofs.settings.rules_of.Given as goal

-- the rules so far
abbrev pub invariant-loop-rule : goal.invariant-loop-rule
invariant-loop-rule l = map rule_view l.set.items ≡ map set_of (take l.rule-index l.rules)
