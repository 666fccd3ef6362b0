use Rattle.std.proofs.Common.{◌≡◌, ◌∙◌, ◌++◌, ap, string_bytes, codes}
use Rattle.line_text.specs.Line.{on_one_line}
use Rattle.tera_findings.specs.Findings.{kind_name}
use Rattle.tera_report.specs.Annotations.{annotation, command_of, escaped, property, span_text}
use Rattle.tera_report.proofs.Texts.{following}
use Rattle.tera_report.proofs.github.push_annotation.Goals as goal

pub returns : goal.returns
unfolding annotation
returns c =
    let place : string_bytes c.push_str-2.new.self ≡ string_bytes c.push_property.new.to ++ span_text c.args.finding.now.span =
    c.in_ok-push_str-2.ensures.bytes ∙ ap (λ l. string_bytes c.push_property.new.to ++ l) (c.as_str.ensures.value ∙ c.in_ok-place.ensures) in
    let command : string_bytes c.push_str.new.self ≡ string_bytes c.args.to.now ++ command_of c.args.finding.now.severity =
    c.in_ok-push_str.ensures.bytes ∙ ap (λ l. string_bytes c.args.to.now ++ l) c.command.ensures in
    let title : string_bytes c.push_str-4.new.self ≡ string_bytes c.push_str-3.new.self ++ kind_name c.args.finding.now.kind =
    c.in_ok-push_str-4.ensures.bytes ∙ ap (λ l. string_bytes c.push_str-3.new.self ++ l) c.name.ensures in
    let text : string_bytes c.push_message.new.to ≡ string_bytes c.push_str-5.new.self ++ escaped (on_one_line (string_bytes c.args.finding.now.message)) =
    c.in_ok-push_message.ensures ∙ ap (λ l. string_bytes c.push_str-5.new.self ++ escaped (on_one_line l)) c.as_str-2.ensures.value in
    let file = c.args.file.now in
    let f = c.args.finding.now in
    following (string_bytes c.args.to.now) (string_bytes c.push_str.new.self) (string_bytes c.push_str-6.new.self) (command_of f.severity) ((property file) ++ ((span_text f.span) ++ ((codes ",title=") ++ ((kind_name f.kind) ++ ((codes "::") ++ ((escaped (on_one_line (string_bytes f.message))) ++ (codes "\n"))))))) command
    (following (string_bytes c.push_str.new.self) (string_bytes c.push_property.new.to) (string_bytes c.push_str-6.new.self) (property file) ((span_text f.span) ++ ((codes ",title=") ++ ((kind_name f.kind) ++ ((codes "::") ++ ((escaped (on_one_line (string_bytes f.message))) ++ (codes "\n")))))) c.in_ok-push_property.ensures
    (following (string_bytes c.push_property.new.to) (string_bytes c.push_str-2.new.self) (string_bytes c.push_str-6.new.self) (span_text f.span) ((codes ",title=") ++ ((kind_name f.kind) ++ ((codes "::") ++ ((escaped (on_one_line (string_bytes f.message))) ++ (codes "\n"))))) place
    (following (string_bytes c.push_str-2.new.self) (string_bytes c.push_str-3.new.self) (string_bytes c.push_str-6.new.self) (codes ",title=") ((kind_name f.kind) ++ ((codes "::") ++ ((escaped (on_one_line (string_bytes f.message))) ++ (codes "\n")))) c.in_ok-push_str-3.ensures.bytes
    (following (string_bytes c.push_str-3.new.self) (string_bytes c.push_str-4.new.self) (string_bytes c.push_str-6.new.self) (kind_name f.kind) ((codes "::") ++ ((escaped (on_one_line (string_bytes f.message))) ++ (codes "\n"))) title
    (following (string_bytes c.push_str-4.new.self) (string_bytes c.push_str-5.new.self) (string_bytes c.push_str-6.new.self) (codes "::") ((escaped (on_one_line (string_bytes f.message))) ++ (codes "\n")) c.in_ok-push_str-5.ensures.bytes
    (following (string_bytes c.push_str-5.new.self) (string_bytes c.push_message.new.to) (string_bytes c.push_str-6.new.self) (escaped (on_one_line (string_bytes f.message))) (codes "\n") text
    c.in_ok-push_str-6.ensures.bytes))))))
