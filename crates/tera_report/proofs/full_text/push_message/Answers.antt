use Rattle.std.proofs.Common.{◌++◌, List, ℕ, string_bytes, ◌∙◌, append_assoc}
use Rattle.std.proofs.lemmas.Result.{IfOk-equal}
use Rattle.tera_report.specs.FullTexts.{message_line}
use Rattle.terminal_text.specs.Excerpt.{excerpt}
use Rattle.terminal_text.specs.Files.{source_of}
use Rattle.terminal_text.specs.Lines.{line_at}
use Rattle.tera_report.proofs.full_text.push_message.Goals as goal

pub returns-clause-text : goal.returns-clause-text
returns-clause-text c =
    let m = c.args.message.now in
    let before : List ℕ = string_bytes c.args.to.now in
    let line : List ℕ = message_line c.args.style m.role m.file.now m.span.now m.text.now in
    IfOk-equal c.push_excerpt.result _ _ _ c.push_excerpt.ensures.text
    ((λ i. c.in_ok-push_line.ensures i ++ excerpt c.args.style (c.part-part.ensures i) (c.marked-marked.ensures i) (line_at (source_of c.args.sources.now m.file.now) (c.marked-marked.ensures i).line))
    ∙ append_assoc before line _)
