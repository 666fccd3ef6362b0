use Rattle.std.proofs.Common.{◌∙◌, ◌++◌, ◌∷◌, [], ap, arith}
use Rattle.text_edits.proofs.Starts.{found_first, found_start, found_none, found_all}
use Rattle.text_edits.specs.Lines.{lines_of, starts_of}
use Rattle.text_edits.proofs.lines.starts_of.Goals as goal
use Rattle.text_edits.proofs.lines.starts_of.Goals.{then-ends_line+in_ok-push-2, else-ends_line}

pub loop-at-init : goal.loop-at-init
loop-at-init c = found_first c.as_bytes-bytes.result.now c.push.new.self.items (c.in_ok-push.ensures.items ∙ ap (λ xs. xs ++ 0 ∷ []) c.new-starts.ensures.items)

pub loop-at-preserved : goal.loop-at-preserved
loop-at-preserved c =
    elim c.if-ends_line.branch [
      | then-ends_line+in_ok-push-2 w ↦
          rw w.starts-is
          (found_start c.as_bytes-bytes.result.now c.loop-at.starts.items w.push-then-ends_line.new.self.items _ c.loop-at.at (omega arith) w.if-ends_line.ensures w.in_ok-push-2.ensures.items c.loop-at.invariant)
      | else-ends_line w ↦ rw w.starts-is (found_none c.as_bytes-bytes.result.now c.loop-at.starts.items _ c.loop-at.at (omega arith) w.if-ends_line.ensures c.loop-at.invariant)
    ]

pub returns : goal.returns
returns c =
    found_all c.as_bytes-bytes.result.now c.loop-at.starts.items _ c.loop-at.at (omega arith) c.loop-at.invariant ∙ ap (λ t. starts_of (lines_of t)) c.as_bytes-bytes.ensures.value
