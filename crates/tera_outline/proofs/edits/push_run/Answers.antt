use Rattle.std.proofs.Common.{◌∙◌, take, drop, refl, ap, arith}
use Rattle.tera_outline.proofs.EditSteps.{run_differs, run_same, run_pushed, run_passed, run_after, counted_between}
use Rattle.tera_outline.proofs.edits.push_run.Goals as goal

pub range-requires-clause-start_boundary : goal.range-requires-clause-start_boundary
range-requires-clause-start_boundary c = λ some.
    (counted_between c.args.old.now c.args.new.now c.args.at c.white_len.result c.white_len-2.result c.utf8.old c.utf8.new c.requires.edits.alike (record { count_old = c.white_len.ensures.count; count_new = c.white_len-2.ensures.count; in_old = c.white_len.ensures.within; in_new = c.white_len-2.ensures.within })
    (run_differs c.args.old.now c.args.new.now c.as_bytes.result.now c.as_bytes-2.result.now c.args.at c.white_len.result c.white_len-2.result c.as_bytes.ensures.value c.as_bytes-2.ensures.value c.if-ne.ensures)).0

pub range-requires-clause-end_boundary : goal.range-requires-clause-end_boundary
range-requires-clause-end_boundary c =
    (counted_between c.args.old.now c.args.new.now c.args.at c.white_len.result c.white_len-2.result c.utf8.old c.utf8.new c.requires.edits.alike (record { count_old = c.white_len.ensures.count; count_new = c.white_len-2.ensures.count; in_old = c.white_len.ensures.within; in_new = c.white_len-2.ensures.within })
    (run_differs c.args.old.now c.args.new.now c.as_bytes.result.now c.as_bytes-2.result.now c.args.at c.white_len.result c.white_len-2.result c.as_bytes.ensures.value c.as_bytes-2.ensures.value c.if-ne.ensures)).1

pub returns-in_ok-push-clause-edits : goal.returns-in_ok-push-clause-edits
returns-in_ok-push-clause-edits c =
    run_pushed c.args.old.now c.args.new.now c.args.edits.now.items c.push.new.self.items c.args.at _ c.white_len.result c.white_len-2.result
    c.requires.edits c.utf8.old c.utf8.new c.requires.before (record { count_old = c.white_len.ensures.count; count_new = c.white_len-2.ensures.count; in_old = c.white_len.ensures.within; in_new = c.white_len-2.ensures.within })
    (run_differs c.args.old.now c.args.new.now c.as_bytes.result.now c.as_bytes-2.result.now c.args.at c.white_len.result c.white_len-2.result c.as_bytes.ensures.value c.as_bytes-2.ensures.value c.if-ne.ensures)
    c.in_ok-push.ensures.items refl refl (c.range.ensures.value ∙ ap (λ k. take k (drop c.args.at.new c.args.new.now)) (omega arith))

pub returns-in_ok-push-clause-following : goal.returns-in_ok-push-clause-following
returns-in_ok-push-clause-following c = run_after c.args.old.now c.args.new.now c.args.at c.white_len.result c.white_len-2.result (record { count_old = c.white_len.ensures.count; count_new = c.white_len-2.ensures.count; in_old = c.white_len.ensures.within; in_new = c.white_len-2.ensures.within })

pub returns-else-ne-clause-edits : goal.returns-else-ne-clause-edits
returns-else-ne-clause-edits c =
    run_passed c.args.old.now c.args.new.now c.args.edits.now.items c.args.at c.white_len.result c.white_len-2.result c.requires.edits (record { count_old = c.white_len.ensures.count; count_new = c.white_len-2.ensures.count; in_old = c.white_len.ensures.within; in_new = c.white_len-2.ensures.within })
    (run_same c.args.old.now c.args.new.now c.as_bytes.result.now c.as_bytes-2.result.now c.args.at c.white_len.result c.white_len-2.result c.as_bytes.ensures.value c.as_bytes-2.ensures.value c.if-ne.ensures)

pub returns-else-ne-clause-following : goal.returns-else-ne-clause-following
returns-else-ne-clause-following c = run_after c.args.old.now c.args.new.now c.args.at c.white_len.result c.white_len-2.result (record { count_old = c.white_len.ensures.count; count_new = c.white_len-2.ensures.count; in_old = c.white_len.ensures.within; in_new = c.white_len-2.ensures.within })
