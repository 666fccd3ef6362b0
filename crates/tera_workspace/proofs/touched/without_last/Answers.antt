use Rattle.tera_workspace.proofs.TouchedLemmas.{pair_last}
use Rattle.tera_workspace.proofs.touched.without_last.Goals as goal

pub heads-preserved : goal.heads-preserved
heads-preserved c = λ n agree.
    let older = c.in-Some.older.now in
    let newer = c.in-Some-split_last.newer.now in
    c.heads.invariant n (pair_last n c.heads.old.now older c.heads.new.now newer c.in-Some.last.now c.in-Some-split_last.other.now
    c.in-Some.ensures.cases.0 c.in-Some-split_last.ensures.cases.0 (c.have_one_head.ensures c.if-have_one_head.true) agree)
