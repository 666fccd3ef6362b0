use Rattle.std.proofs.Common.{chars, take, drop, sym, ap, ◌∙◌}
use Rattle.terminal_text.specs.Lines.{offset_at}
use Rattle.terminal_text.proofs.Offsets.{cut_there}
use Rattle.terminal_text.proofs.lines.Line.split.Goals as goal

pub returns-clause-before : goal.returns-clause-before
returns-clause-before c =
    let text = c.self.inside.text.now in
    let there = c.offset_of.ensures.value ∙ ap (λ l. offset_at l c.args.count) (sym c.self.view_is) in
    ap chars c.split_at.ensures.front ∙ ap (λ n. chars (take n text)) there
    ∙ (cut_there text c.args.count c.self.invariant.0).0 ∙ ap (λ l. take c.args.count (chars l)) c.self.view_is

pub returns-clause-after : goal.returns-clause-after
returns-clause-after c =
    let text = c.self.inside.text.now in
    let there = c.offset_of.ensures.value ∙ ap (λ l. offset_at l c.args.count) (sym c.self.view_is) in
    ap chars c.split_at.ensures.back ∙ ap (λ n. chars (drop n text)) there
    ∙ (cut_there text c.args.count c.self.invariant.0).1 ∙ ap (λ l. drop c.args.count (chars l)) c.self.view_is
