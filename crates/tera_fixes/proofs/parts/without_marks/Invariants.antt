use Rattle.std.proofs.Common.{◌≡◌, ◌≤◌, length}
use Rattle.tera_fixes.specs.Parts.{without_marks}
use Rattle.tera_fixes.proofs.parts.without_marks.Given as goal

abbrev pub invariant-marks : goal.invariant-marks
invariant-marks l = (without_marks l.bytes ≡ without_marks l.front) × (length l.front ≤ length l.bytes)

abbrev pub decreases-marks : goal.decreases-marks
decreases-marks l = length l.front
