-- The first syntax error of a document that is read between other markers.
use Rattle.std.specs.Prelude.{◌≡◌, ℕ, List, [], ◌∷◌, Bool, map, MatchOption}
use Rattle.std.specs.List.{find}
use Rattle.std.specs.Str.{bytes_eq}
use Rattle.tera_base.specs.ErrorView.{error_view}
use Rattle.tera_base.specs.declared.errors.Error.{Error}
use Rattle.tera_grammar.specs.Limits.{usual}
use Rattle.tera_grammar.specs.statements.Top.{Derives}
use Rattle.tera_lexer.specs.grammar.Marks.{Marks}
use Rattle.tera_parser.specs.Notes.{NotesName}
use Rattle.tera_parser.specs.Refusal.{LosesSource, Refuses}
use Rattle.tera_tree.specs.Tree.{Output}
use Rattle.tera_findings.specs.Faults.{IsSyntaxError}
use Rattle.tera_findings.specs.Findings.{FindingVal, IsOfError}
use Rattle.text_edits.specs.declared.positions.Encoding.{Encoding}
use Rattle.tera_workspace.specs.Diagnostics.{DiagnosticVal, diagnostic_of}
use Rattle.tera_workspace.specs.Kept.{sources_of}
use Rattle.tera_workspace.specs.Sources.{Source}
use Rattle.tera_workspace.specs.declared.workspace.Workspace.{Workspace}

-- it is the finding of a syntax error, with which the source is refused between these markers
pub record IsOfRefusal (m : Marks) (s : Source) (f : FindingVal) : Type 0 where
  pub error : Error
  pub syntax : IsSyntaxError error
  pub refusal : Refuses m s.text error
  pub lost : LosesSource usual m s.text error
  pub notes : NotesName s.name error
  pub is : IsOfError s.name (error_view error) f

-- nothing is found in a source that is a template between these markers; in another one, its first syntax error
abbrev pub AreFirstFault : Marks → Source → List FindingVal → Type 0
AreFirstFault m s [] = (tree : Output) × Derives usual m s.text tree
AreFirstFault m s (f ∷ fs) = (fs ≡ []) × ((tree : Output) → ¬ (Derives usual m s.text tree)) × IsOfRefusal m s f

-- .. with positions in its text
abbrev pub IsFaultIn : Encoding → List Source → Marks → Source → List DiagnosticVal → Type 0
IsFaultIn e sources m s ds = (fs : List FindingVal) × AreFirstFault m s fs × (ds ≡ map (diagnostic_of e sources s.text) fs)

-- .. of the document of a name, by the documents that were read; nothing, if it is not among them
abbrev pub is_source_of : List ℕ → Source → Bool
is_source_of n s = bytes_eq s.name n

abbrev pub IsFaultBy : Encoding → List Source → Marks → List ℕ → List DiagnosticVal → Type 0
IsFaultBy e sources m n ds = MatchOption (find (is_source_of n) sources) (ds ≡ []) (λ s. IsFaultIn e sources m s ds)

abbrev pub IsFaultOfName : Workspace → Marks → List ℕ → List DiagnosticVal → Type 0
IsFaultOfName w m n ds = IsFaultBy w.encoding (sources_of w.judged.items) m n ds
