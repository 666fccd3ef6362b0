use Rattle.std.proofs.Common.{◌≡◌, length, map, option_map}
use Rattle.std.specs.Option.{option_or}
use Rattle.tera_outline.specs.Pieces.{part_of}
use Rattle.tera_outline.specs.Calls.{stretch_in, stretch_view}
use Rattle.tera_outline.specs.declared.names.Before.TheVariants.{Other}
use Rattle.tera_outline.proofs.calls.call_at.Given as goal

abbrev pub invariant-pieces : goal.invariant-pieces
invariant-pieces l =
    option_or (stretch_in l.last l.byte l.before (map part_of l.rest)) (option_map stretch_view l.found)
    ≡ stretch_in l.last l.byte Other (map part_of l.initial.rest)

abbrev pub decreases-pieces : goal.decreases-pieces
decreases-pieces l = length l.rest
