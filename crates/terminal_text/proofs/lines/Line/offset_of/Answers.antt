use Rattle.std.proofs.Common.{◌+◌, ◌*◌, ◌/◌, ◌%◌, drop, IsCharBoundary, List, ℕ, sym, subst, ap, ◌∙◌, arith}
use Rattle.terminal_text.specs.Lines.{offset_at}
use Rattle.terminal_text.proofs.Offsets.{boundary_there}
use Rattle.terminal_text.proofs.LineMarks.{offset_more, mark_at}
use Rattle.terminal_text.proofs.lines.Line.offset_of.Goals as goal

pub range_from-requires : goal.range_from-requires
range_from-requires c =
    let text : List ℕ = c.self.inside.text.now in
    let k = c.args.count / 128 in
    let found = c.in-Some.ensures.lookup.3 in
    let here = mark_at text c.self.inside.marks.items c.deref.result.now k c.in-Some.mark.now c.deref.ensures.value found.0 (found.1 0) c.self.invariant.2 in
    λ some. subst (IsCharBoundary text) (sym here) (boundary_there text (k * 128) c.self.invariant.0)

pub returns-in-Some-clause-value : goal.returns-in-Some-clause-value
returns-in-Some-clause-value c =
    let text : List ℕ = c.self.inside.text.now in
    let k = c.args.count / 128 in
    let found = c.in-Some.ensures.lookup.3 in
    let here = mark_at text c.self.inside.marks.items c.deref.result.now k c.in-Some.mark.now c.deref.ensures.value found.0 (found.1 0) c.self.invariant.2 in
    let rest = c.range_from.ensures.value ∙ ap (λ n. drop n text) here in
    let after = c.offset_of.ensures.value ∙ ap (λ l. offset_at l (c.args.count % 128)) rest in
    (λ i. here i + after i) ∙ sym (offset_more text (k * 128) (c.args.count % 128) c.self.invariant.0)
    ∙ ap (offset_at text) (omega arith) ∙ ap (λ l. offset_at l c.args.count) c.self.view_is
