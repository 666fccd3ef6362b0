use Rattle.std.proofs.Common.{◌≡◌, ◌++◌, List, ℕ, map, string_bytes, ◌∙◌, append_assoc}
use Rattle.std.specs.List.{flat_map}
use Rattle.std.proofs.lemmas.Result.{IfOk-equal}
use Rattle.tera_findings.specs.Findings.{note_view}
use Rattle.tera_report.specs.FullTexts.{full_text, message, note_text}
use Rattle.tera_report.specs.declared.role.Role.TheVariants.{Finding}
use Rattle.terminal_text.specs.Files.{source_of}
use Rattle.tera_report.proofs.full_text.push_full.Goals as goal

pub returns-clause-text : goal.returns-clause-text
unfolding full_text
returns-clause-text c =
    let f = c.args.finding.now in
    let before : List ℕ = string_bytes c.args.to.now in
    let known : source_of c.push_message.new.sources ≡ source_of c.args.sources.now = λ i file. c.in_ok-push_message.ensures.same file i in
    let own : List ℕ = message c.args.style (source_of c.args.sources.now) (Finding f.kind f.severity) c.args.file.now f.span (string_bytes f.message) in
    let first : string_bytes c.push_message.new.to ≡ before ++ own
    = c.in_ok-push_message.ensures.text
    ∙ (λ i. before ++ message c.args.style (source_of c.args.sources.now) (Finding f.kind f.severity) c.args.file.now f.span (c.as_str.ensures.value i)) in
    IfOk-equal c.push_notes.result _ _ _ c.push_notes.ensures.text
    ((λ i. first i ++ flat_map (note_text c.args.style (known i)) (map note_view f.notes.items)) ∙ append_assoc before own _)
