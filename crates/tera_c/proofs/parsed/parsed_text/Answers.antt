use Rattle.std.proofs.Common.{◌≡◌, sym, subst, List, ℕ}
use Rattle.tera_base.specs.Errors.{IsMemoryKind}
use Rattle.tera_base.specs.ErrorView.{report_view}
use Rattle.tera_grammar.specs.Limits.{Limits}
use Rattle.tera_grammar.specs.statements.Top.{Derives}
use Rattle.tera_lexer.specs.grammar.Marks.{Marks, marks_of}
use Rattle.tera_expr_parts.specs.Allowed.{limits_of}
use Rattle.tera_parser.specs.Job.{Job}
use Rattle.tera_parser.specs.Refusal.{LosesSource, Refuses}
use Rattle.tera_tree.specs.Tree.{Output}
use Rattle.tera_c.specs.Results.{Reports}
use Rattle.tera_c.proofs.parsed.parsed_text.Goals as goal

-- what a parser with these limits, these marks and this source is given
job : (l : Limits) (name : List ℕ) (m : Marks) (s : List ℕ) (j : Job)
    → (j ≡ record { filename = name; source = s; marks = m; limits = l }) → (P : Limits → Marks → List ℕ → Type 0)
    → (P j.limits j.marks j.source → P l m s) × (P l m s → P j.limits j.marks j.source)
job l name m s j is P = (
  λ p. subst (λ (k : Job). P k.limits k.marks k.source) is p,
  λ p. subst (λ (k : Job). P k.limits k.marks k.source) (sym is) p,
)

pub returns-in-SyntaxError-clause-err : goal.returns-in-SyntaxError-clause-err
returns-in-SyntaxError-clause-err c =
    let l = limits_of c.args.limits in
    let m = marks_of c.args.delimiters in
    let s = c.args.source.now in
    let same = job l _ m s c.with_limits-parser.result c.with_limits-parser.ensures in
    let none : (output : Output) → Derives l m s output → IsMemoryKind c.in-Err.error.kind
    = λ output d. c.in-Err.ensures.complete output ((same (λ l m s. Derives l m s output)).1 d) in
    let returned : Refuses m s c.in-Err.error = (same (λ l m s. Refuses m s c.in-Err.error)).0 c.in-Err.ensures.refusal in
    let loses : LosesSource l m s c.in-Err.error = (same (λ l m s. LosesSource l m s c.in-Err.error)).0 c.in-Err.ensures.lost in
    let (within, faults) = rw c.in-SyntaxError.is at returned in
    let reports : Reports l m s (report_view c.in-SyntaxError.report.value) = (within, faults, rw c.in-SyntaxError.is at loses) in (
      λ output d. rw c.in-SyntaxError.is at (none output d),
      subst (λ r. Reports l m s (report_view r.value)) (sym c.in-SyntaxError.report-is) reports,
    )
