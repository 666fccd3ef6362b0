use Rattle.std.proofs.Common.{chars, take, drop, ap, ◌∙◌}
use Rattle.terminal_text.proofs.Offsets.{cut_there}
use Rattle.terminal_text.proofs.lines.split_characters.Goals as goal

pub returns-clause-before : goal.returns-clause-before
returns-clause-before c =
    ap chars c.split_at.ensures.front ∙ ap (λ n. chars (take n c.args.text.now)) c.offset_of.ensures.value
    ∙ (cut_there c.args.text.now c.args.count c.utf8.text).0

pub returns-clause-after : goal.returns-clause-after
returns-clause-after c =
    ap chars c.split_at.ensures.back ∙ ap (λ n. chars (drop n c.args.text.now)) c.offset_of.ensures.value
    ∙ (cut_there c.args.text.now c.args.count c.utf8.text).1
