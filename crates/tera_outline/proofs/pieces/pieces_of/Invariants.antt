use Rattle.std.proofs.Common.{◌-◌, false, map}
use Rattle.std.specs.Str.{IsCharBoundary}
use Rattle.tera_outline.specs.Pieces.{part_of}
use Rattle.tera_outline.proofs.Readings.{Awaits}
use Rattle.tera_outline.proofs.pieces.pieces_of.Given as goal

abbrev pub invariant-readings : goal.invariant-readings
invariant-readings l = record {
  cut : IsCharBoundary l.text l.from;
  read : Awaits 100 false (100 - l._reading) l.again l.text l.from (map part_of l.pieces.items);
}
