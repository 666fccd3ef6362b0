use Rattle.std.proofs.Common.{length, map}
use Rattle.tera_tree.specs.View.{definition_view}
use Rattle.tera_workspace.specs.Heads.{DifferWithin}
use Rattle.tera_workspace.proofs.touched.without_last.Given as goal

abbrev pub invariant-heads : goal.invariant-heads
invariant-heads l = DifferWithin (map definition_view l.old) (map definition_view l.new) (map definition_view l.before) (map definition_view l.after)

abbrev pub decreases-heads : goal.decreases-heads
decreases-heads l = length l.old
