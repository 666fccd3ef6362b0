use Rattle.std.proofs.Common.{◌≡◌, ◌+◌, ◌≤◌, None, length, map, option_map}
use Rattle.std.specs.List.{find}
use Rattle.tera_outline.specs.Pieces.{part_of}
use Rattle.tera_outline.specs.Calls.{holds, stretches}
use Rattle.tera_outline.specs.Completions.{first_inside}
use Rattle.tera_outline.proofs.calls.stretch_inside.Given as goal

abbrev pub invariant-pieces : goal.invariant-pieces
invariant-pieces l = record {
  depth : l.inside.depth + length l.rest ≤ length l.initial.rest;
  found : find (holds l.byte) (stretches l.last l.call l.inside (option_map (λ n. n.now) l.argument) (map part_of l.rest))
      ≡ find (holds l.byte) (stretches l.last l.call (first_inside l.from) None (map part_of l.initial.rest));
}

abbrev pub decreases-pieces : goal.decreases-pieces
decreases-pieces l = length l.rest
