use Rattle.std.proofs.Common.{◌≤◌}
use Rattle.std.specs.Prelude.{All}
use Rattle.text_edits.specs.Walks.{IsReached}
use Rattle.text_edits.proofs.lines.places_of.Given as goal

-- each place is one of the text, and so is the last
abbrev pub invariant-loop-number : goal.invariant-loop-number
invariant-loop-number l = record {
  places : All (IsReached l.encoding l.text) l.places.items;
  place : IsReached l.encoding l.text l.place;
}
