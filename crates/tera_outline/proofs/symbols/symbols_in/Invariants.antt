use Rattle.std.proofs.Common.{◌≡◌, length, map}
use Rattle.tera_outline.specs.Pieces.{part_of}
use Rattle.tera_outline.specs.Symbols.{marks, outline_of}
use Rattle.tera_outline.specs.Opened.{state_of, AreNumbered, KnowsOthers}
use Rattle.tera_outline.proofs.Outlines.{settles}
use Rattle.tera_outline.proofs.symbols.symbols_in.Given as goal

abbrev pub invariant-tags : goal.invariant-tags
invariant-tags l = record {
  numbered : AreNumbered l.outline;
  others : KnowsOthers l.outline;
  settles : settles l.last (state_of l.outline) (marks l.last (map part_of l.rest)) ≡ outline_of l.last (map part_of l.initial.rest);
}

abbrev pub decreases-tags : goal.decreases-tags
decreases-tags l = length l.rest
