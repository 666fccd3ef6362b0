use Rattle.std.proofs.Common.{ℕ, List}
use Rattle.tera_files.specs.Below.{AreBelow}
use Rattle.tera_files.specs.Names.{texts}
use Rattle.tera_files.proofs.below.walked.Given as goal

abbrev pub invariant-loop : goal.invariant-loop
invariant-loop g l = (itself : List ℕ) × AreBelow (texts l.extensions) l.top itself l.below
