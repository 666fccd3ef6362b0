use Rattle.std.proofs.Common.{◌≡◌, ◌++◌, length, map}
use Rattle.std.specs.Vec.Iter.{into_iter_items, into_iter_len}
use Rattle.tera_outline.specs.Pieces.{part_of, moved, before}
use Rattle.tera_outline.proofs.pieces.push_before.Given as goal

-- those that were added, and those that are left, are all
abbrev pub invariant-loop-piece : goal.invariant-loop-piece
invariant-loop-piece l = record {
  pieces : map part_of l.pieces.items ++ map (moved l.from) (before l.stop (map part_of (into_iter_items l.piece-iterator)))
      ≡ map part_of l.initial.pieces.items ++ map (moved l.from) (before l.stop (map part_of (into_iter_items l.initial.piece-iterator)));
  count : into_iter_len l.piece-iterator ≡ length (into_iter_items l.piece-iterator);
}
