use Rattle.std.proofs.Common.{◌∙◌, ap, sym}
use Rattle.tera_fixes.specs.Parts.{without_marks}
use Rattle.tera_fixes.proofs.PartsLemmas.{mark_last, other_last, shorter}
use Rattle.tera_fixes.proofs.parts.without_marks.Goals as goal

pub marks-preserved : goal.marks-preserved
marks-preserved c =
    let rest = c.in-Some.rest.now in
    let last = c.in-Some.last.now in (
      c.marks.invariant.0 ∙ ap without_marks c.in-Some.ensures.cases.0 ∙ mark_last rest last (sym c.if-not-is_mark.ensures),
      shorter c.args.bytes.now c.marks.front.now rest last c.in-Some.ensures.cases.0 c.marks.invariant.1,
    )

-- a byte that is not a mark stays, with all before it
pub returns-then-not-is_mark-clause-value : goal.returns-then-not-is_mark-clause-value
returns-then-not-is_mark-clause-value c =
    let split = c.in-Some.ensures.cases.0 in
    split ∙ sym (other_last c.in-Some.rest.now c.in-Some.last.now (sym c.if-not-is_mark.ensures)) ∙ sym (ap without_marks split) ∙ sym c.marks.invariant.0
