use Rattle.std.proofs.Common.{◌≡◌, ◌+◌, ◌≤◌, length, map}
use Rattle.std.specs.List.{find}
use Rattle.tera_outline.specs.Pieces.{part_of}
use Rattle.tera_outline.specs.Completions.{holds, inside, first_inside}
use Rattle.tera_outline.proofs.completions.inside_at.Given as goal

abbrev pub invariant-pieces : goal.invariant-pieces
invariant-pieces l = record {
  depth : l.inside.depth + length l.rest ≤ length l.initial.rest;
  found : find (holds l.byte) (inside l.last l.call l.inside (map part_of l.rest))
      ≡ find (holds l.byte) (inside l.last l.call (first_inside l.from) (map part_of l.initial.rest));
}

abbrev pub decreases-pieces : goal.decreases-pieces
decreases-pieces l = length l.rest
