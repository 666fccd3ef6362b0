use Rattle.std.proofs.Common.{◌≡◌, ◌++◌, map}
use Rattle.tera_ast.specs.View.{expression_view, if_view}
use Rattle.tera_rules.specs.RepeatedConditions.{conditions_of}
use Rattle.tera_rules.proofs.repeated_conditions.conditions_of.Given as goal

abbrev pub invariant-loop-step : goal.invariant-loop-step
invariant-loop-step l = map (λ e. expression_view e.now) l.conditions.items ++ conditions_of (if_view l.link) ≡ conditions_of (if_view l.choice)
