use Rattle.std.proofs.Common.{◌≡◌, length, map}
use Rattle.tera_outline.specs.Pieces.{part_of}
use Rattle.tera_outline.specs.Symbols.{tag_end}
use Rattle.tera_outline.proofs.symbols.tag_end.Given as goal

abbrev pub invariant-pieces : goal.invariant-pieces
invariant-pieces l = tag_end l.last (map part_of l.rest) ≡ tag_end l.last (map part_of l.initial.rest)

abbrev pub decreases-pieces : goal.decreases-pieces
decreases-pieces l = length l.rest
