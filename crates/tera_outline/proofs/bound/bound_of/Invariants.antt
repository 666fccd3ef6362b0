use Rattle.std.proofs.Common.{◌≡◌, ◌≤◌, ◌++◌, drop, map}
use Rattle.tera_outline.specs.Bound.{bound_in, bound_of, depth_of}
use Rattle.tera_outline.specs.Pieces.{part_of}
use Rattle.tera_outline.proofs.bound.bound_of.Given as goal

abbrev pub invariant-loop-piece : goal.invariant-loop-piece
invariant-loop-piece l = record {
  depth : depth_of l.place ≤ l.piece-index;
  read : map (λ n. n.now) l.bound.items ++ bound_in l.place (map part_of (drop l.piece-index l.pieces)) ≡ bound_of (map part_of l.pieces);
}
