use Rattle.std.proofs.Common.{◌≡◌, ◌≤◌, ◌-◌, drop, length, map, string_bytes}
use Rattle.text_edits.specs.Edits.{change_view, edited}
use Rattle.text_edits.proofs.edits.edited.Given as goal

-- the changes that are left make of the text now what all make of the first
abbrev pub invariant-changes : goal.invariant-changes
invariant-changes l = record {
  within : l.made ≤ length l.changes;
  edited : edited l.encoding (string_bytes l.now) (map change_view (drop l.made l.changes)) ≡ edited l.encoding l.fn.text (map change_view l.changes);
}

abbrev pub decreases-changes : goal.decreases-changes
decreases-changes l = length l.changes - l.made
