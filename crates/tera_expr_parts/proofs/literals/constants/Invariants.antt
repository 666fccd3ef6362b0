use Rattle.std.specs.Prelude.{◌≡◌, map}
use Rattle.std.specs.List.{flat_map}
use Rattle.tera_base.specs.ValueView.{value_view}
use Rattle.tera_ast.specs.View.{item_view}
use Rattle.tera_expr_parts.specs.Folding.{item_values}
use Rattle.tera_expr_parts.proofs.literals.constants.Given as goal

abbrev pub invariant-loop-item : goal.invariant-loop-item
invariant-loop-item l = map value_view l.values.items ≡ flat_map item_values (map item_view l.yielded)
