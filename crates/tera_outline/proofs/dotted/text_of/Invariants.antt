use Rattle.std.proofs.Common.{◌≡◌, ◌++◌, length, map, string_bytes}
use Rattle.tera_outline.specs.Pieces.{part_of}
use Rattle.tera_outline.specs.Dotted.{text_of}
use Rattle.tera_outline.proofs.dotted.text_of.Given as goal

abbrev pub invariant-parts : goal.invariant-parts
invariant-parts l = string_bytes l.text ++ text_of (map part_of l.rest) ≡ text_of (map part_of l.initial.rest)

abbrev pub decreases-parts : goal.decreases-parts
decreases-parts l = length l.rest
