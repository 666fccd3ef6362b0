-- Diagnostics are equal by their test where they are reported alike.
use Rattle.std.proofs.Common.{◌≡◌, Bool, true, false, true≢false, ◌&&◌, List, map, string_bytes, refl, sym, ap, rules}
use Rattle.std.proofs.lemmas.Slice.Eq.{bytes_eq-Decides}
use Rattle.std.specs.Bool.{Decides}
use Rattle.std.specs.Cmp.Lexicographic.{pointwise}
use Rattle.std.specs.Str.{bytes_eq}
use denote.Enum.Bare.{same_true, true_same}
use Rattle.tera_base.proofs.Equals.{views_decide}
use Rattle.tera_findings.specs.contracts.finding.Kind.{the_type}
use Rattle.tera_findings.specs.contracts.finding.Severity.{the_type as the_severities}
use Rattle.tera_findings.specs.contracts.finding.KindPartialEq.TheImpl as kind_test
use Rattle.tera_findings.specs.contracts.finding.SeverityPartialEq.TheImpl as severity_test
use Rattle.tera_findings.specs.declared.finding.Kind.{Kind}
use Rattle.tera_findings.specs.declared.finding.Severity.{Severity}
use Rattle.text_edits.specs.contracts.positions.PositionPartialEq.TheImpl as position_test
use Rattle.text_edits.specs.declared.positions.Position.{Position}
use Rattle.tera_workspace.specs.Diagnostics.{DiagnosticVal, RelatedVal, diagnostic_view, related_view}
use Rattle.tera_workspace.specs.contracts.diagnostics.DiagnosticPartialEq.TheImpl as diagnostic_test
use Rattle.tera_workspace.specs.contracts.diagnostics.RelatedPartialEq.TheImpl as related_test
use Rattle.tera_workspace.specs.declared.diagnostics.Diagnostic.{Diagnostic}
use Rattle.tera_workspace.specs.declared.diagnostics.Related.{Related}

both : (a b : Bool) → (a && b) ≡ true → (a ≡ true) × (b ≡ true)
both true b e = (refl, e)
both false b e = absurd (true≢false (sym e))

abbrev kind_eq : Kind → Kind → Bool
kind_eq = (kind_test.ghosts).eq

abbrev severity_eq : Severity → Severity → Bool
severity_eq = (severity_test.ghosts).eq

abbrev position_eq : Position → Position → Bool
position_eq = (position_test.ghosts).eq

abbrev related_eq : Related → Related → Bool
related_eq = (related_test.ghosts).eq

abbrev diagnostic_eq : Diagnostic → Diagnostic → Bool
diagnostic_eq = (diagnostic_test.ghosts).eq

kind_decides : (a b : Kind) → Decides (kind_eq a b) (a ≡ b)
kind_decides a b = (λ e. same_true the_type (search rules) a b e, λ e. true_same the_type a b e)

severity_decides : (a b : Severity) → Decides (severity_eq a b) (a ≡ b)
severity_decides a b = (λ e. same_true the_severities (search rules) a b e, λ e. true_same the_severities a b e)

position_decides : (a b : Position) → Decides (position_eq a b) (a ≡ b)
position_decides a b = search rules

related_decides : (a b : Related) → Decides (related_eq a b) (related_view a ≡ related_view b)
related_decides a b =
    let files = bytes_eq-Decides (string_bytes a.file) (string_bytes b.file) in
    let starts = position_decides a.start b.start in
    let ends = position_decides a.end b.end in
    let messages = bytes_eq-Decides (string_bytes a.message) (string_bytes b.message) in (
      λ e.
          let p = both (bytes_eq (string_bytes a.file) (string_bytes b.file)) _ e in
          let q = both (position_eq a.start b.start) _ p.1 in
          let r = both (position_eq a.end b.end) _ q.1 in
          λ i. record { file = files.0 p.0 i; start = starts.0 q.0 i; end = ends.0 r.0 i; message = messages.0 r.1 i },
      λ e. rw (
        files.1 (ap (λ (v : RelatedVal). v.file) e),
        starts.1 (ap (λ (v : RelatedVal). v.start) e),
        ends.1 (ap (λ (v : RelatedVal). v.end) e),
        messages.1 (ap (λ (v : RelatedVal). v.message) e),
      ) refl,
    )

diagnostic_decides : (a b : Diagnostic) → Decides (diagnostic_eq a b) (diagnostic_view a ≡ diagnostic_view b)
diagnostic_decides a b =
    let kinds = kind_decides a.kind b.kind in
    let severities = severity_decides a.severity b.severity in
    let starts = position_decides a.start b.start in
    let ends = position_decides a.end b.end in
    let messages = bytes_eq-Decides (string_bytes a.message) (string_bytes b.message) in
    let related = views_decide related_view related_eq related_decides a.related.items b.related.items in (
      λ e.
          let p = both (kind_eq a.kind b.kind) _ e in
          let o = both (severity_eq a.severity b.severity) _ p.1 in
          let q = both (position_eq a.start b.start) _ o.1 in
          let r = both (position_eq a.end b.end) _ q.1 in
          let s = both (bytes_eq (string_bytes a.message) (string_bytes b.message)) _ r.1 in
          λ i. record { kind = kinds.0 p.0 i; severity = severities.0 o.0 i; start = starts.0 q.0 i; end = ends.0 r.0 i; message = messages.0 s.0 i; related = related.0 s.1 i },
      λ e. rw (
        kinds.1 (ap (λ (v : DiagnosticVal). v.kind) e),
        severities.1 (ap (λ (v : DiagnosticVal). v.severity) e),
        starts.1 (ap (λ (v : DiagnosticVal). v.start) e),
        ends.1 (ap (λ (v : DiagnosticVal). v.end) e),
        messages.1 (ap (λ (v : DiagnosticVal). v.message) e),
        related.1 (ap (λ (v : DiagnosticVal). v.related) e),
      ) refl,
    )

pub lists_decide : (xs ys : List Diagnostic) → Decides (pointwise diagnostic_eq xs ys) (map diagnostic_view xs ≡ map diagnostic_view ys)
lists_decide = views_decide diagnostic_view diagnostic_eq diagnostic_decides
