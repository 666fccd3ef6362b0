use Rattle.std.proofs.Common.{◌≡◌}
use Rattle.std.specs.List.{list_any}
use Rattle.tera_tree.specs.Parts.{parts_view}
use Rattle.tera_tree.specs.View.{definition_view}
use Rattle.tera_rules.specs.Bodies.{may_show, shows_body}
use Rattle.tera_rules.specs.Within.{all_parts}
use Rattle.tera_rules.proofs.bodies.shows_body.Given as goal

abbrev pub invariant-loop-part : goal.invariant-loop-part
invariant-loop-part l = list_any may_show (all_parts (parts_view l.left.items)) ≡ shows_body (definition_view l.definition)
