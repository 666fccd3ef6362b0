use Rattle.std.proofs.Common.{◌≡◌, ◌++◌, map, take}
use Rattle.std.specs.String.{string_bytes}
use Rattle.std.specs.List.{flat_map}
use Rattle.terminal_text.specs.Hunks.{placed_view, edits_in}
use Rattle.terminal_text.specs.Differences.{edit_text}
use Rattle.terminal_text.proofs.differences.push_hunk.Given as goal

abbrev pub invariant-edits : goal.invariant-edits
invariant-edits l =
    string_bytes l.text ≡ string_bytes l.initial.text ++ flat_map (edit_text l.style) (edits_in (map placed_view (take l.placed-index l.hunk)))
