use Rattle.std.proofs.Common.{◌≡◌, ◌+◌, ◌*◌, ◌∷◌, [], length, drop, IsCharBoundary, sym, subst, ap, ◌∙◌, arith, length-append}
use Rattle.std.proofs.lemmas.Str.{IsCharBoundary-start, IsCharBoundary-from_rest}
use Rattle.terminal_text.specs.Lines.{offset_at, AreMarks}
use Rattle.terminal_text.proofs.LineMarks.{offset_more, one_more, goes_on}
use Rattle.terminal_text.proofs.lines.marks_of.Goals as goal

pub loop-mark-init : goal.loop-mark-init
loop-mark-init c =
    let none : length c.new-marks.result.items ≡ 0 = ap length c.new-marks.ensures.items in record {
      are = λ k below. absurd (omega (arith, below, none));
      next = ap (λ n. offset_at c.args.text.now (n * 128)) (sym none);
      boundary = IsCharBoundary-start c.args.text.now c.utf8.text;
    }

pub loop-mark-smaller : goal.loop-mark-smaller
loop-mark-smaller c =
    let rest = c.range_from.result.now in
    let long = c.range_from.ensures.len in
    let later = goes_on rest c.range_from.utf8 (omega (arith, long, c.loop-mark-test.true)) in
    let value = c.offset_of-mark.ensures.value in
    let within = c.offset_of-mark.ensures.boundary.0 in
    omega (arith, long, later, value, within, c.loop-mark-test.true)

pub loop-mark-preserved : goal.loop-mark-preserved
loop-mark-preserved c =
    let text = c.args.text.now in
    let held = c.loop-mark.invariant in
    let marks = c.loop-mark.marks.items in
    let mark = c.loop-mark.mark in
    let rest : c.range_from.result.now ≡ drop mark text = c.range_from.ensures.value in
    let many : length c.push.new.self.items * 128 ≡ length marks * 128 + 128
    = ap (λ l. length l * 128) c.in_ok-push.ensures.items ∙ omega (arith, length-append marks (mark ∷ [])) in record {
      are = subst (λ l. AreMarks text l) (sym c.in_ok-push.ensures.items) (one_more text marks mark held.are held.next);
      next = ap (λ n. mark + n) (c.offset_of-mark.ensures.value ∙ ap (λ l. offset_at l 128) (rest ∙ ap (λ n. drop n text) held.next)) ∙ ap (λ n. n + offset_at (drop (offset_at text (length marks * 128)) text) 128) held.next
          ∙ sym (offset_more text (length marks * 128) 128 c.utf8.text) ∙ ap (offset_at text) (sym many);
      boundary = IsCharBoundary-from_rest text mark c.offset_of-mark.result held.boundary.0 (subst (λ l. IsCharBoundary l c.offset_of-mark.result) rest c.offset_of-mark.ensures.boundary);
    }
