use Rattle.std.proofs.Common.{◌≡◌}
use Rattle.tera_outline.specs.Pieces.{start_from}
use Rattle.tera_outline.proofs.pieces.next_start.Given as goal

abbrev pub invariant-loop-at : goal.invariant-loop-at
invariant-loop-at l = start_from l.at l.text ≡ start_from l.from l.text
