use Rattle.std.proofs.Common.{◌≡◌, ◌-◌, ◌≤◌, ◌++◌, length, map, take, drop}
use Rattle.tera_outline.specs.Pieces.{part_of}
use Rattle.tera_outline.specs.Dotted.{dotted, links}
use Rattle.tera_outline.proofs.dotted.dotted.Given as goal

abbrev pub invariant-links : goal.invariant-links
invariant-links l = record {
  within : l.len ≤ length l.pieces;
  whole : map part_of (take l.len l.pieces) ++ links (map part_of (drop l.len l.pieces)) ≡ dotted (map part_of l.pieces);
}

abbrev pub decreases-links : goal.decreases-links
decreases-links l = length l.pieces - l.len
