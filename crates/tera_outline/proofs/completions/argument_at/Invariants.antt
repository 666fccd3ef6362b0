use Rattle.std.proofs.Common.{◌≡◌, length, map}
use Rattle.tera_outline.specs.Pieces.{part_of}
use Rattle.tera_outline.specs.Completions.{argument_in, argument_of}
use Rattle.tera_outline.proofs.completions.argument_at.Given as goal

abbrev pub invariant-pieces : goal.invariant-pieces
invariant-pieces l = argument_in l.last l.byte l.before (map part_of l.rest) ≡ argument_of l.last l.byte (map part_of l.initial.rest)

abbrev pub decreases-pieces : goal.decreases-pieces
decreases-pieces l = length l.rest
