use Rattle.std.proofs.Common.{◌≡◌, ◌∙◌, ◌++◌, ap, string_bytes, codes}
use Rattle.line_text.specs.Line.{on_one_line}
use Rattle.tera_findings.specs.declared.finding.Severity.TheVariants.{Error}
use Rattle.tera_report.specs.Annotations.{command_of, escaped, property}
use Rattle.tera_report.proofs.Texts.{following}
use Rattle.tera_report.proofs.unread.push_unread_annotation.Goals as goal

pub returns : goal.returns
returns c =
    let before = string_bytes c.args.to.now in
    let named = string_bytes c.push_str.new.self in
    let placed = string_bytes c.push_property.new.to in
    let titled = string_bytes c.push_str-2.new.self in
    let said = string_bytes c.push_message.new.to in
    let after = string_bytes c.push_str-3.new.self in
    let file = property c.args.file.now in
    let why = escaped (on_one_line c.args.why.now) in
    let title = codes ",title=unread::" in
    let first : named ≡ before ++ command_of Error = c.in_ok-push_str.ensures.bytes ∙ ap (λ l. before ++ l) c.command.ensures in
    following before named after (command_of Error) (file ++ (title ++ (why ++ codes "\n"))) first
    (following named placed after file (title ++ (why ++ codes "\n")) c.in_ok-push_property.ensures
    (following placed titled after title (why ++ codes "\n") c.in_ok-push_str-2.ensures.bytes
    (following titled said after why (codes "\n") c.in_ok-push_message.ensures c.in_ok-push_str-3.ensures.bytes)))
