-- The first syntax error of a document between other markers.
use Rattle.std.proofs.Common.{◌≡◌, ◌∙◌, ℕ, zero, suc, List, ◌∷◌, [], length, get_or, cond, Result, Ok, Err, Option, None, Some, IfOk, string_bytes, refl, sym, ap, subst, arith}
use Rattle.std.specs.Prelude.{IfErr, MatchResult}
use Rattle.std.specs.List.{find}
use Rattle.tera_base.specs.ErrorView.{error_view}
use Rattle.tera_base.specs.declared.errors.Error.{Error}
use Rattle.tera_findings.specs.Faults.{IsSyntaxError}
use Rattle.tera_findings.specs.Findings.{FindingVal, IsOfError}
use Rattle.tera_grammar.specs.Limits.{usual}
use Rattle.tera_grammar.specs.statements.Top.{Derives}
use Rattle.tera_lexer.specs.grammar.Marks.{Marks}
use Rattle.tera_parser.specs.Notes.{NotesName}
use Rattle.tera_parser.specs.Refusal.{LosesSource, Refuses}
use Rattle.tera_templates.specs.FaultFindings.{AreFaultsBy, AreFaultsOf}
use Rattle.tera_templates.specs.declared.mended.Mended.{Mended}
use Rattle.tera_templates.specs.declared.templates.Template.{Template}
use Rattle.tera_tree.specs.Outputs.{output_view}
use Rattle.tera_tree.specs.Tree.{Output}
use Rattle.tera_tree.specs.declared.outputs.ParserOutput.{ParserOutput}
use Rattle.tera_workspace.specs.Between.{AreFirstFault, is_source_of}
use Rattle.tera_workspace.specs.Kept.{IsNumbered, NoneBefore, source_of, sources_of}
use Rattle.tera_workspace.specs.Sources.{Source}
use Rattle.tera_workspace.specs.declared.judged.Judged.{Judged}

-- what holds of a template that was read between markers
pub record IsReadBetween (m : Marks) (s : Source) (t : Template) : Type 0 where
  pub file : string_bytes t.file ≡ s.name
  pub alone : t.mended ≡ None
  pub sound : IfOk t.parsed (λ o. Derives usual m s.text (output_view o))
  pub complete : (tree : Output) → Derives usual m s.text tree → MatchResult t.parsed (λ o. output_view o ≡ tree) (λ _. ⊥)
  pub syntax : IfErr t.parsed IsSyntaxError
  pub refusal : IfErr t.parsed (Refuses m s.text)
  pub lost : IfErr t.parsed (LosesSource usual m s.text)
  pub notes : IfErr t.parsed (NotesName s.name)

pub first_fault : (m : Marks) (s : Source) (t : Template) (fs : List FindingVal) → IsReadBetween m s t → AreFaultsOf t fs → AreFirstFault m s fs
first_fault m s t fs read are = by t.parsed t.mended read.alone read.sound read.complete read.syntax read.refusal read.lost read.notes are
  where
    by : (parsed : Result ParserOutput Error) (mended : Option Mended) → mended ≡ None → IfOk parsed (λ o. Derives usual m s.text (output_view o))
        → ((tree : Output) → Derives usual m s.text tree → MatchResult parsed (λ o. output_view o ≡ tree) (λ _. ⊥))
        → IfErr parsed IsSyntaxError → IfErr parsed (Refuses m s.text) → IfErr parsed (LosesSource usual m s.text) → IfErr parsed (NotesName s.name)
        → AreFaultsBy (string_bytes t.file) parsed mended fs → AreFirstFault m s fs
    by (Ok o) mended alone sound complete syntax refusal lost notes none = subst (AreFirstFault m s) (sym none) (output_view o, sound)
    by (Err e) (Some x) alone sound complete syntax refusal lost notes are = absurd (cc)
    by (Err e) None alone sound complete syntax refusal lost notes (f, is, of) =
        subst (AreFirstFault m s) (sym is) (
          refl,
          complete,
          record {
            error = e;
            syntax = syntax;
            refusal = refusal;
            lost = lost;
            notes = notes;
            is = subst (λ file. IsOfError file (error_view e) f) read.file of;
          },
        )

-- ---- in the document of a name

pub source_numbered : (name : List ℕ) (js : List Judged) (k : ℕ) (d : Judged) → IsNumbered name js k → find (is_source_of name) (sources_of js) ≡ Some (source_of (get_or js k d))
source_numbered name [] k d h = absurd (omega (arith, h.within))
source_numbered name (j ∷ js) zero d h = ap (λ b. cond b (Some (source_of j)) (find (is_source_of name) (sources_of js))) (h.is d)
source_numbered name (j ∷ js) (suc k) d h =
    ap (λ b. cond b (Some (source_of j)) (find (is_source_of name) (sources_of js))) (h.first 0 d (omega arith))
    ∙ source_numbered name js k d (record { within = omega (arith, h.within); is = h.is; first = λ m e below. h.first (suc m) e (omega arith) })

pub source_nowhere : (name : List ℕ) (js : List Judged) → NoneBefore name js (length js) → find (is_source_of name) (sources_of js) ≡ None
source_nowhere name [] h = refl
source_nowhere name (j ∷ js) h =
    ap (λ b. cond b (Some (source_of j)) (find (is_source_of name) (sources_of js))) (h 0 j (omega arith)) ∙ source_nowhere name js (λ m e below. h (suc m) e (omega arith))
