use Rattle.std.proofs.Common.{◌≡◌, ◌++◌, drop, take, map}
use Rattle.tera_workspace.specs.Kept.{marked}
use Rattle.tera_workspace.proofs.touched.mark.Given as goal

abbrev pub invariant-loop-judged : goal.invariant-loop-judged
invariant-loop-judged l =
    l.judged-items ≡ map (marked l.touched l.file) (take l.judged-index l.fn.all.items) ++ drop l.judged-index l.fn.all.items
