use Rattle.std.proofs.Common.{◌≡◌, ◌∙◌, length, inl, inr, arith}
use Rattle.text_edits.proofs.Columns.{column_ends, column_full, column_more, column_all}
use Rattle.text_edits.proofs.positions.column_byte.Goals as goal
use Rattle.text_edits.proofs.positions.column_byte.Goals.{then-byte-eq10-via-then-byte-eq10, then-byte-eq10-via-else-byte-eq10+then-byte-eq13, then-byte-eq10-via-else-byte-eq10+else-byte-eq13+then-added-left}

pub returns-then-byte-eq10-clause-byte : goal.returns-then-byte-eq10-clause-byte
returns-then-byte-eq10-clause-byte c =
    elim c.then-byte-eq10.branch [
      | then-byte-eq10-via-then-byte-eq10 w ↦ column_ends c.args.encoding c.args.text.now c.loop-at.at c.loop-at.left _ (omega arith) (inl w.if-byte-eq10.true) c.loop-at.invariant
      | then-byte-eq10-via-else-byte-eq10+then-byte-eq13 w ↦ column_ends c.args.encoding c.args.text.now c.loop-at.at c.loop-at.left _ (omega arith) (inr w.if-byte-eq13.true) c.loop-at.invariant
      | then-byte-eq10-via-else-byte-eq10+else-byte-eq13+then-added-left w ↦
          column_full c.args.encoding c.args.text.now c.loop-at.at c.loop-at.left _ (omega arith) (w.if-byte-eq10.false, w.if-byte-eq13.false) (omega (arith, c.units_of-added.ensures.count, w.if-added-left.true))
          c.loop-at.invariant
    ]

pub loop-at-preserved : goal.loop-at-preserved
loop-at-preserved c =
    rw c.units_of-added.ensures.count
    (column_more c.args.encoding c.args.text.now c.loop-at.at c.loop-at.left _ (omega arith) (c.if-byte-eq10.false, c.if-byte-eq13.false) (omega (arith, c.units_of-added.ensures.count, c.if-added-left.false))
    c.loop-at.invariant)

pub returns-clause-byte : goal.returns-clause-byte
returns-clause-byte c =
    let all = column_all c.args.encoding c.args.text.now c.loop-at.at c.loop-at.left _ (omega arith) c.loop-at.invariant in
    let at_end : length c.args.text.now ≡ c.loop-at.at = omega arith in at_end ∙ all
