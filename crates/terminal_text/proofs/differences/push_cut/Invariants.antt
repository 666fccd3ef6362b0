use Rattle.std.proofs.Common.{◌≡◌, ◌≤◌, ◌++◌, map, drop}
use Rattle.std.specs.String.{string_bytes}
use Rattle.std.specs.List.{flat_map, AllByRecursion}
use Rattle.terminal_text.specs.Hunks.{placed_view, cut_hunks, Fits}
use Rattle.terminal_text.specs.Differences.{hunk_text}
use Rattle.terminal_text.proofs.Hunked.{ShownFrom}
use Rattle.terminal_text.proofs.differences.push_cut.Given as goal

abbrev pub invariant-hunks : goal.invariant-hunks
invariant-hunks l = record {
  order : l.start ≤ l.at;
  text : string_bytes l.text ++ flat_map (hunk_text l.style) (cut_hunks (drop l.start (map placed_view l.placed))) ≡ string_bytes l.initial.text ++ flat_map (hunk_text l.style) (cut_hunks (map placed_view l.placed));
  fit : AllByRecursion Fits (cut_hunks (drop l.start (map placed_view l.placed)));
  shown : ShownFrom (map placed_view l.placed) l.start l.at;
}
