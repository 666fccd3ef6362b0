-- What is shown of a source, whatever faults it has.
use Rattle.std.specs.Prelude.{◌≡◌, ℕ, Bool, true, false, List, [], Option, None, Some, Result, Ok, Err, IfSome, MatchResult, map, option_map, string_bytes}
use Rattle.std.specs.List.{flat_map}
use Rattle.tera_base.specs.declared.errors.Error.{Error}
use Rattle.tera_templates.specs.FaultFindings.{AreFaultsOf}
use Rattle.tera_findings.specs.Findings.{FindingVal, finding_view}
use Rattle.tera_templates.specs.Mended.{text_of}
use Rattle.tera_templates.specs.Templates.{tree_of}
use Rattle.tera_check.specs.OrderAndStatus.{IsInOrder}
use Rattle.tera_findings.specs.declared.finding.Finding.{Finding}
use Rattle.tera_templates.specs.declared.templates.Template.{Template}
use Rattle.tera_files.specs.declared.reading.Source.{Source}
use Rattle.tera_grammar.specs.Limits.{usual}
use Rattle.tera_grammar.specs.statements.Places.{Places}
use Rattle.tera_grammar.specs.statements.Top.{Derives, DerivesNames}
use Rattle.tera_lexer.specs.grammar.Marks.{Marks}
use Rattle.tera_report.specs.FullTexts.{full_text}
use Rattle.tera_report.specs.Trees.{IsTreeLine}
use Rattle.tera_tree.specs.Outputs.{output_view}
use Rattle.tera_tree.specs.Tree.{Output}
use Rattle.tera_tree_text.specs.TreeText as tree
use Rattle.terminal_text.specs.declared.style.Style.{Style}
use Rattle.tera_program_parts.specs.Lines.{lines_for}
use Rattle.tera_jobs.specs.Sources.{IsReadFrom, nothing, with_source}
use Rattle.tera_jobs.specs.declared.tree.Shape.{Shape}
use Rattle.tera_jobs.specs.declared.tree.Shown.{Shown}

-- how many faults are reported at most
abbrev pub max_faults : ℕ
max_faults = 100

-- The template that is read from a source between markers. Its tree is the tree of the source, if this is a template,
-- or else of the text to which its faults lead.
pub record IsTemplateOf (m : Marks) (source : Source) (template : Template) : Type 0 where
  pub read : IsReadFrom m (string_bytes source.file) (string_bytes source.text) max_faults template
  pub clean : (output : Output) → Derives usual m (string_bytes source.text) output →
      MatchResult template.parsed (λ o. output_view o ≡ output) (λ _. ⊥)
  pub tree : IfSome (tree_of template) (λ o. (names : Places)
      × DerivesNames usual m (text_of (string_bytes source.text) template) (output_view o) names)

-- the lines of a tree, if there is one
abbrev pub tree_lines : Bool → Option Output → List ℕ
tree_lines terminal None = []
tree_lines terminal (Some output) = lines_for terminal (tree.text_of output)

-- faults of a source, each with its lines there
abbrev pub faults_text : Style → Source → List FindingVal → List ℕ
faults_text style source faults = flat_map (full_text style (with_source nothing source) (string_bytes source.file)) faults

-- for people: the lines of the tree, and all faults in the order of their places
pub record AreLines (style : Style) (terminal : Bool) (source : Source) (template : Template) (shown : Shown) : Type 0 where
  pub faults : List Finding
  pub in_order : IsInOrder faults
  pub are : AreFaultsOf template (map finding_view faults)
  pub tree : shown.tree.items ≡ tree_lines terminal (option_map output_view (tree_of template))
  pub beside : string_bytes shown.faults ≡ faults_text style source (map finding_view faults)

-- for programs: a line of JSON with the tree and the faults, and nothing else
pub record IsJson (template : Template) (shown : Shown) : Type 0 where
  pub tree : IsTreeLine template shown.tree.items
  pub beside : string_bytes shown.faults ≡ []

abbrev pub IsWritten : Bool → Style → Bool → Source → Template → Shown → Type 0
IsWritten true style terminal source template shown = IsJson template shown
IsWritten false style terminal source template shown = AreLines style terminal source template shown

abbrev pub is_faulty : {T : Type 0} → Result T Error → Bool
is_faulty (Ok output) = false
is_faulty (Err error) = true

pub record IsShownOf (style : Style) (shape : Shape) (source : Source) (template : Template) (shown : Shown) : Type 0 where
  pub written : IsWritten shape.json style shape.is_terminal source template shown
  pub faulty : shown.is_faulty ≡ is_faulty template.parsed

pub record IsShown (style : Style) (shape : Shape) (m : Marks) (source : Source) (shown : Shown) : Type 0 where
  pub template : Template
  pub read : IsTemplateOf m source template
  pub is : IsShownOf style shape source template shown
