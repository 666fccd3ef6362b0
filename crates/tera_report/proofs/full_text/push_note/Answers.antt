use Rattle.std.proofs.Common.{◌++◌, string_bytes}
use Rattle.std.proofs.lemmas.Result.{IfOk-equal}
use Rattle.tera_report.specs.FullTexts.{message}
use Rattle.tera_report.specs.declared.role.Role.TheVariants.{Note}
use Rattle.terminal_text.specs.Files.{source_of}
use Rattle.tera_report.proofs.full_text.push_note.Goals as goal

pub returns-clause-text : goal.returns-clause-text
returns-clause-text c =
    IfOk-equal c.push_message.result _ _ _ c.push_message.ensures.text
    (λ i. string_bytes c.args.to.now ++ message c.args.style (source_of c.args.sources.now) Note (c.as_str.ensures.value i) c.args.note.now.span (c.as_str-2.ensures.value i))
