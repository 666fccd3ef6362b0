use Rattle.std.proofs.Common.{◌≡◌, length}
use Rattle.tera_templates.specs.Ignores.{is_blank_line}
use Rattle.tera_templates.proofs.ignores.begins_line.Given as goal

abbrev pub invariant-bytes : goal.invariant-bytes
invariant-bytes l = is_blank_line l.left ≡ is_blank_line l.bytes

abbrev pub decreases-bytes : goal.decreases-bytes
decreases-bytes l = length l.left
