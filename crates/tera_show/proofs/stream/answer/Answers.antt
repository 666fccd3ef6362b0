use Rattle.std.proofs.Common.{◌≡◌, ◌∙◌, sym, subst, ap, List, ℕ, string_bytes}
use Rattle.tera_lexer.specs.grammar.Marks.{Marks, default_marks}
use Rattle.tera_grammar.specs.Limits.{Limits}
use Rattle.tera_expr_parts.specs.Allowed.{limits_of}
use Rattle.tera_parser.specs.Job.{Job}
use Rattle.tera_grammar.specs.statements.Top.{Derives}
use Rattle.tera_tree.specs.Outputs.{output_view}
use Rattle.tera_tree.specs.Tree.{Output}
use Rattle.tera_base.specs.Errors.{IsMemoryKind}
use Rattle.tera_parser.specs.Refusal.{LosesSource, Refuses}
use Rattle.tera_show.specs.Shown.{fault_line}
use Rattle.tera_show.proofs.stream.answer.Goals as goal

-- what a parser with these limits, these marks and this source is given
job : (l : Limits) (name : List ℕ) (a b : Marks) (s t : List ℕ) (j : Job) → (j ≡ record { filename = name; source = s; marks = a; limits = l }) → a ≡ b → s ≡ t
    → (P : Limits → Marks → List ℕ → Type 0) → (P j.limits j.marks j.source → P l b t) × (P l b t → P j.limits j.marks j.source)
job l name a b s t j is marks source P =
    let within : j.limits ≡ l = ap (λ (k : Job). k.limits) is in
    let first : j.marks ≡ b = ap (λ (k : Job). k.marks) is ∙ marks in
    let second : j.source ≡ t = ap (λ (k : Job). k.source) is ∙ source in (
      λ p. subst (λ i. P i b t) within (subst (λ m. P j.limits m t) first (subst (λ x. P j.limits j.marks x) second p)),
      λ p. subst (λ i. P i j.marks j.source) (sym within) (subst (λ m. P l m j.source) (sym first) (subst (λ x. P l b x) (sym second) p)),
    )

pub returns-in-Ok-parse-clause-ok : goal.returns-in-Ok-parse-clause-ok
returns-in-Ok-parse-clause-ok c =
    let text = c.in-Ok.ensures.cases in
    let same = job (limits_of c.args.limits) _ _ default_marks _ c.args.input.now c.with_limits-parser.result c.with_limits-parser.ensures c.default.ensures.0 text.0 in
    (text.1, (output_view c.in-Ok-parse.output, (same (λ l m s. Derives l m s (output_view c.in-Ok-parse.output))).0 c.in-Ok-parse.ensures.sound, c.in_ok-text-in-Ok-parse.ensures))

pub returns-in-SyntaxError-clause-ok : goal.returns-in-SyntaxError-clause-ok
returns-in-SyntaxError-clause-ok c =
    let text = c.in-Ok.ensures.cases in
    let same = job (limits_of c.args.limits) _ _ default_marks _ c.args.input.now c.with_limits-parser.result c.with_limits-parser.ensures c.default.ensures.0 text.0 in
    let none : (output : Output) → Derives (limits_of c.args.limits) default_marks c.args.input.now output → IsMemoryKind c.in-Err.error.kind =
    λ output d. c.in-Err.ensures.complete output ((same (λ l m s. Derives l m s output)).1 d) in
    let reported : Refuses default_marks c.args.input.now c.in-Err.error = (same (λ l m s. Refuses m s c.in-Err.error)).0 c.in-Err.ensures.refusal in
    let reports = rw c.in-SyntaxError.is at reported in
    let lost : LosesSource (limits_of c.args.limits) default_marks c.args.input.now c.in-Err.error = (same (λ l m s. LosesSource l m s c.in-Err.error)).0 c.in-Err.ensures.lost in
    let loses = rw c.in-SyntaxError.is at lost in
    let seen : c.deref.result.now ≡ c.in-SyntaxError.report.value = c.deref.ensures ∙ (λ i. (c.in-SyntaxError.report-is i).value) in
    let seen_span : c.deref-in-SyntaxError.result.now ≡ c.in-SyntaxError.report.value = c.deref-in-SyntaxError.ensures ∙ (λ i. (c.in-SyntaxError.report-is i).value) in
    let message : c.as_str.result.now ≡ string_bytes c.in-SyntaxError.report.value.message = c.as_str.ensures.value ∙ (λ i. string_bytes (seen i).message) in (
      text.1,
      (λ output d. rw c.in-SyntaxError.is at (none output d)),
      (_, c.in-SyntaxError.report.value.span, c.in_ok-line-in-SyntaxError.ensures ∙ (λ i. fault_line (message i) (seen_span i).span), reports.0, reports.1, loses),
    )
