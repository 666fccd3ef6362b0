use Rattle.std.proofs.Common.{◌≡◌, ◌++◌, length, map}
use Rattle.tera_outline.specs.Pieces.{part_of}
use Rattle.tera_outline.specs.Names.{name_view, names_in, names_of}
use Rattle.tera_outline.proofs.names.names_of.Given as goal

abbrev pub invariant-pieces : goal.invariant-pieces
invariant-pieces l = map name_view l.names.items ++ names_in l.before (map part_of l.rest) ≡ names_of (map part_of l.initial.rest)

abbrev pub decreases-pieces : goal.decreases-pieces
decreases-pieces l = length l.rest
