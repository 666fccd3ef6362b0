use Rattle.std.proofs.Common.{◌≡◌, ◌≤◌, ◌++◌, drop, map}
use Rattle.std.specs.List.{filter}
use Rattle.tera_outline.specs.Pieces.{part_of}
use Rattle.tera_outline.specs.Signatures.{depth_of, is_between, parameter_view, parameters_between}
use Rattle.tera_outline.proofs.HeadSteps.{parameters_from}
use Rattle.tera_outline.proofs.signatures.parameters_between.Given as goal

abbrev pub invariant-loop-piece : goal.invariant-loop-piece
invariant-loop-piece l = record {
  depth : depth_of l.place ≤ l.piece-index;
  read : map parameter_view l.parameters.items
      ++ parameters_from l.from l.place (filter (is_between l.from l.to) (map part_of (drop l.piece-index l.pieces)))
      ≡ parameters_between l.from l.to (map part_of l.pieces);
}
