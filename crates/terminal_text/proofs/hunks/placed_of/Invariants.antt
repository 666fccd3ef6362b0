use Rattle.std.proofs.Common.{◌≡◌, ◌++◌, [], map, take, drop}
use Rattle.terminal_text.specs.Edits.{edit_view}
use Rattle.terminal_text.specs.Hunks.{placed_view, placed_edits, old_lines, new_lines}
use Rattle.terminal_text.proofs.hunks.placed_of.Given as goal

abbrev pub invariant-edits : goal.invariant-edits
invariant-edits l = record {
  placed : placed_edits [] (map edit_view l.edits) ≡ map placed_view l.placed.items ++ placed_edits (take l.at (map edit_view l.edits)) (drop l.at (map edit_view l.edits));
  old : l.old ≡ old_lines (take l.at (map edit_view l.edits));
  new : l.new ≡ new_lines (take l.at (map edit_view l.edits));
}
