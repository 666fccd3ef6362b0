use Rattle.std.proofs.Common.{ℕ, List, ◌+◌, ◌≤◌, length, drop, sym, ap, ◌∙◌, arith, length-drop}
use Rattle.std.specs.List.{prefix_len}
use Rattle.std.proofs.lemmas.List.{drop-drop, take_rest}
use Rattle.tera_tree_text.specs.QuotedBytes.{is_plain}
use Rattle.tera_tree_text.proofs.Escapes.{run_in_front, run_goes_on}
use Rattle.tera_tree_text.proofs.quoted.plain_len.Goals as goal

pub returns-then-len-lt-LANES-clause-run : goal.returns-then-len-lt-LANES-clause-run
returns-then-len-lt-LANES-clause-run c =
    let held = c.loop-at.invariant in
    let following : List ℕ = drop c.loop-at.at c.args.bytes.now in
    let fits : 16 ≤ length following = omega (arith, c.loop-at-test.true, length-drop c.loop-at.at c.args.bytes.now) in
    let run = run_in_front following 16 c.plain_lanes-len.result fits (rw take_rest at c.plain_lanes-len.ensures.run) c.if-len-lt-LANES.true in
    sym (held.1 ∙ ap (λ n. c.loop-at.at + n) run)

pub loop-at-preserved : goal.loop-at-preserved
loop-at-preserved c =
    let held = c.loop-at.invariant in
    let following : List ℕ = drop c.loop-at.at c.args.bytes.now in
    let long = length-drop c.loop-at.at c.args.bytes.now in
    let fits : 16 ≤ length following = omega (arith, c.loop-at-test.true, long) in
    let run = run_goes_on following 16 c.plain_lanes-len.result fits (rw take_rest at c.plain_lanes-len.ensures.run) c.if-len-lt-LANES.false in
    let joined = ap (prefix_len is_plain) (drop-drop c.plain_lanes-len.result c.loop-at.at c.args.bytes.now) in
    (omega (arith, c.loop-at-test.true, c.plain_lanes-len.ensures.within), omega (arith, held.1, run, joined))

pub returns-clause-run : goal.returns-clause-run
returns-clause-run c =
    let run = rw take_rest at c.plain_bytes.ensures.run in
    omega (arith, c.loop-at.invariant.1, run)
