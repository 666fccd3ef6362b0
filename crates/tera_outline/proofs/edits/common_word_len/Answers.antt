use Rattle.std.proofs.Common.{sym, arith}
use Rattle.std.proofs.lemmas.List.Sums.{prefix_len-le-length}
use Rattle.tera_outline.specs.Runs.{is_black}
use Rattle.tera_outline.proofs.EditSteps.{words_on, words_off}
use Rattle.tera_outline.proofs.edits.common_word_len.Goals as goal

pub returns-then-is_space-clause-count : goal.returns-then-is_space-clause-count
returns-then-is_space-clause-count c =
    words_off c.args.old.now c.args.new.now c.loop-count.count c.loop-count.invariant.old c.loop-count.invariant.new (sym c.if-is_space.ensures)

pub loop-count-preserved : goal.loop-count-preserved
loop-count-preserved c =
    let on = words_on c.args.old.now c.args.new.now c.loop-count.count (omega arith) (omega arith) c.loop-count.invariant.old c.loop-count.invariant.new (sym c.if-is_space.ensures) in
    record { old = omega (arith, on.0); new = omega (arith, on.1) }

pub returns-clause-count : goal.returns-clause-count
returns-clause-count c =
    let in_old = prefix_len-le-length is_black c.args.old.now in
    let in_new = prefix_len-le-length is_black c.args.new.now in
    omega (arith, in_old, in_new, c.loop-count.invariant.old, c.loop-count.invariant.new)
