use Rattle.std.proofs.Common.{◌≡◌, length, map}
use Rattle.tera_outline.specs.Heads.{head_end}
use Rattle.tera_outline.specs.Pieces.{part_of}
use Rattle.tera_outline.proofs.heads.head_end.Given as goal

abbrev pub invariant-pieces : goal.invariant-pieces
invariant-pieces l = head_end l.end (map part_of l.rest) ≡ head_end l.byte (map part_of l.initial.rest)

abbrev pub decreases-pieces : goal.decreases-pieces
decreases-pieces l = length l.rest
