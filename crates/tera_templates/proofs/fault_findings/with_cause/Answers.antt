use Rattle.std.proofs.Common.{map, string_bytes}
use Rattle.std.specs.Option.{option_map}
use Rattle.tera_findings.specs.Findings.{note_view}
use Rattle.tera_templates.proofs.FaultFindingsLemmas.{noted}
use Rattle.tera_templates.proofs.fault_findings.with_cause.Goals as goal

pub returns : goal.returns
returns c = (
  option_map (λ h. h.now) c.hint_for-hint.result,
  c.hint_for-hint.ensures,
  noted c.args.file.now c.args.alone.kind c.args.alone.severity (string_bytes c.args.alone.message) c.span_with-span.result _ (map note_view c.args.alone.notes.items) (map note_view c.push_text_if_any.new.notes.items)
      (map note_view c.push_cause.new.notes.items) (map note_view c.push_text_if_any-2.new.notes.items) _ _ _ _ c.span_with-span.ensures c.in_ok-push_text_if_any.ensures
      c.in_ok-push_cause.ensures c.in_ok-push_text_if_any-2.ensures c.more_if-more.ensures,
)
