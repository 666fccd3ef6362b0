use Rattle.std.proofs.Common.{◌≡◌, ◌++◌, drop, take, map}
use Rattle.tera_workspace.specs.Kept.{made_stale}
use Rattle.tera_workspace.proofs.touched.mark_all.Given as goal

abbrev pub invariant-loop-judged : goal.invariant-loop-judged
invariant-loop-judged l =
    l.judged-items ≡ map made_stale (take l.judged-index l.fn.all.items) ++ drop l.judged-index l.fn.all.items
