-- What is found in documents, computed again.
use Rattle.std.specs.Prelude.{◌≡◌, ℕ, ◌<◌, List, [], ◌++◌, length, map, string_bytes, slice_index_or, None, IfOk, IfErr, IfSome, MatchOption, MatchResult}
use Rattle.std.specs.List.Sorted.{IsPermutation}
use Rattle.tera_grammar.specs.Limits.{usual}
use Rattle.tera_grammar.specs.statements.Places.{Places}
use Rattle.tera_grammar.specs.statements.Reading.Meeting.{group_all, nothing_grouped}
use Rattle.tera_grammar.specs.statements.Top.{Derives, DerivesNames}
use Rattle.tera_lexer.specs.grammar.Marks.{default_marks}
use Rattle.tera_parser.specs.Notes.{NotesName}
use Rattle.tera_parser.specs.Refusal.{LosesSource, Refuses}
use Rattle.tera_tags.specs.Known.{grouped_of}
use Rattle.tera_tree.specs.Outputs.{output_view}
use Rattle.tera_tree.specs.Tree.{Output}
use Rattle.tera_templates.specs.Templates.{HasHidden, tree_of}
use Rattle.tera_findings.specs.Faults.{IsSyntaxError}
use Rattle.tera_check.specs.Due.{due_findings}
use Rattle.tera_templates.specs.FaultFindings.{AreFaultsOf}
use Rattle.tera_findings.specs.Findings.{FindingVal, finding_view}
use Rattle.tera_templates.specs.Ignores.{AreIgnoresIn}
use Rattle.tera_templates.specs.Lost.{are_open}
use Rattle.tera_templates.specs.Mended.{IsMended, text_of}
use Rattle.tera_check.specs.Named.{first_named, defined_by}
use Rattle.tera_check.specs.OrderAndStatus.{IsInOrder}
use Rattle.tera_findings.specs.declared.finding.Finding.{Finding}
use Rattle.tera_templates.specs.declared.templates.Template.{Template}
use Rattle.text_edits.specs.declared.positions.Encoding.{Encoding}
use Rattle.tera_workspace.specs.Diagnostics.{DiagnosticVal, diagnostic_of}
use Rattle.tera_workspace.specs.Sources.{Source}

-- how many faults of a document are reported at most
abbrev pub most_faults : ℕ
most_faults = 100

-- the template is what `read_template` gives for the source
pub record IsRead (s : Source) (t : Template) : Type 0 where
  pub file : string_bytes t.file ≡ s.name
  pub sound : IfOk t.parsed (λ o. Derives usual default_marks s.text (output_view o))
  pub complete : (output : Output) → Derives usual default_marks s.text output →
      MatchResult t.parsed (λ o. output_view o ≡ output) (λ _. ⊥)
  pub fault : IfErr t.parsed IsSyntaxError
  pub refusal : IfErr t.parsed (Refuses default_marks s.text)
  pub lost : IfErr t.parsed (LosesSource usual default_marks s.text)
  pub notes : IfErr t.parsed (NotesName s.name)
  pub unmended : IfOk t.parsed (λ _. t.mended ≡ None)
  pub mended : IfSome t.mended (IsMended s.name s.text most_faults)
  pub places : MatchOption (tree_of t)
      ((t.defined_at.items ≡ []) × (grouped_of t.parameters_at ≡ nothing_grouped))
      (λ o. (names : Places) × DerivesNames usual default_marks (text_of s.text t) (output_view o) names × (t.defined_at.items ≡ map (λ n. n.span) names.components)
      × (grouped_of t.parameters_at ≡ group_all names.parameters nothing_grouped))
  pub ignores : AreIgnoresIn default_marks s.text t
  pub hidden : HasHidden t

-- what is found in the template of a number among all of these, as `findings_of` gives it: its faults, and what is due
-- of its tree
pub record IsFound (ts : List Template) (number : ℕ) (t : Template) (fs : List Finding) : Type 0 where
  pub ordered : IsInOrder fs
  pub faults : List FindingVal
  pub are : AreFaultsOf t faults
  pub found : IsPermutation (faults ++ due_findings (λ n. first_named n (defined_by 0 ts)) (are_open ts) number t) (map finding_view fs)

-- and what is to be reported for it in a text
abbrev pub IsReported : Encoding → List Source → List Template → ℕ → List ℕ → Template → List DiagnosticVal → Type 0
IsReported e sources ts number text t reported =
    (fs : List Finding) × IsFound ts number t fs × (reported ≡ map (diagnostic_of e sources text) (map finding_view fs))

-- the templates are what it gives for the sources, in their order
pub record AreTemplates (sources : List Source) (templates : List Template) : Type 0 where
  pub as_many : length templates ≡ length sources
  pub read : (k : ℕ) (s : Source) (t : Template) → k < length sources → IsRead (slice_index_or sources k s) (slice_index_or templates k t)

-- for each source, what is reported under its name
pub record AreFresh (e : Encoding) (sources : List Source) (reported_of : List ℕ → List DiagnosticVal) : Type 0 where
  pub templates : List Template
  pub are : AreTemplates sources templates
  pub reported : (k : ℕ) (s : Source) (t : Template) → k < length sources →
      IsReported e sources templates k (slice_index_or sources k s).text (slice_index_or templates k t) (reported_of (slice_index_or sources k s).name)
