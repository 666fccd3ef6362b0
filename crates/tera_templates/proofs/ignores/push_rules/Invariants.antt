use Rattle.std.proofs.Common.{◌≡◌, ◌++◌, map}
use Rattle.tera_templates.specs.Ignores.{ignore_of, ignores_view}
use Rattle.tera_templates.proofs.ignores.push_rules.Given as goal

abbrev pub invariant-loop-rule : goal.invariant-loop-rule
invariant-loop-rule l = ignores_view l.ignores.items ≡ ignores_view l.initial.ignores.items ++ map (λ p. ignore_of l.span l.alone p.now) l.yielded
