use Rattle.std.specs.Prelude.{◌≡◌, map}
use Rattle.std.specs.List.{fold}
use Rattle.tera_base.specs.Values.{NoPairs}
use Rattle.tera_base.specs.ValueView.{pairs_view}
use Rattle.tera_ast.specs.View.{entry_view}
use Rattle.tera_expr_parts.specs.Folding.{put_entry}
use Rattle.tera_expr_parts.proofs.literals.constant_pairs.Given as goal

abbrev pub invariant-loop-entry : goal.invariant-loop-entry
invariant-loop-entry l = pairs_view l.pairs ≡ fold put_entry NoPairs (map entry_view l.yielded)
