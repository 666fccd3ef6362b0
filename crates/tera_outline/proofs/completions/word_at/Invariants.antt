use Rattle.std.proofs.Common.{◌≡◌, length, map}
use Rattle.std.specs.List.{find}
use Rattle.tera_outline.specs.Pieces.{part_of}
use Rattle.tera_outline.specs.Completions.{holds, slots_in, slots_of}
use Rattle.tera_outline.proofs.completions.word_at.Given as goal

abbrev pub invariant-pieces : goal.invariant-pieces
invariant-pieces l =
    find (holds l.byte) (slots_in l.last l.before (map part_of l.rest)) ≡ find (holds l.byte) (slots_of l.last (map part_of l.initial.rest))

abbrev pub decreases-pieces : goal.decreases-pieces
decreases-pieces l = length l.rest
