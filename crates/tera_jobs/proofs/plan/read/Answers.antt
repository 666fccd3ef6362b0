use Rattle.std.proofs.Common.{◌≡◌, ◌∙◌, ℕ, List, Err, subst, ap, rules}
use Rattle.tera_base.specs.Errors.{IsMemory}
use Rattle.tera_lexer.specs.grammar.Marks.{Marks, marks_of}
use Rattle.tera_grammar.specs.Limits.{Limits, usual}
use Rattle.tera_grammar.specs.statements.Top.{Derives}
use Rattle.tera_parser.specs.Job.{Job}
use Rattle.tera_parser.specs.Notes.{NotesName}
use Rattle.tera_parser.specs.Refusal.{LosesSource, Refuses}
use Rattle.tera_tree.specs.Outputs.{output_view}
use Rattle.tera_tree.specs.Tree.{Output}
use Rattle.tera_jobs.proofs.plan.read.Goals as goal

-- what holds of a parser's source, between its markers and within its limits, holds of those that it was made of
job : (l : Limits) (name : List ℕ) (a b : Marks) (s : List ℕ) (j : Job) → (j ≡ record { filename = name; source = s; marks = a; limits = l }) → a ≡ b
    → (P : Limits → Marks → List ℕ → Type 0) → P j.limits j.marks j.source → P l b s
job l name a b s j is marks P p =
    subst (λ i. P i b s) (ap (λ (k : Job). k.limits) is)
    (subst (λ m. P j.limits m s) (ap (λ (k : Job). k.marks) is ∙ marks) (subst (λ x. P j.limits j.marks x) (ap (λ (k : Job). k.source) is) p))

pub returns-clause-sound : goal.returns-clause-sound
returns-clause-sound c =
    job usual _ _ (marks_of c.args.markers.now) c.args.source.now c.new-parser.result c.new-parser.ensures c.in_ok-clone.ensures.cases
    (λ l m s. (tree : Output) × Derives l m s tree) (output_view c.in_ok-parse.field-0, c.in_ok-parse.ensures.sound)

pub returns-in_err-parse-clause-complete : goal.returns-in_err-parse-clause-complete
returns-in_err-parse-clause-complete c = λ tree d.
    let same : c.from_residual-in_err-parse.result ≡ Err c.in_err-parse.field-0.0 = search rules in
    rw same (job usual _ _ (marks_of c.args.markers.now) c.args.source.now c.new-parser.result c.new-parser.ensures c.in_ok-clone.ensures.cases
    (λ l m s. (output : Output) → Derives l m s output → IsMemory c.in_err-parse.field-0.0) c.in_err-parse.ensures.complete tree d)

pub returns-in_err-parse-clause-refusal : goal.returns-in_err-parse-clause-refusal
returns-in_err-parse-clause-refusal c =
    let same : c.from_residual-in_err-parse.result ≡ Err c.in_err-parse.field-0.0 = search rules in
    rw same (job usual _ _ (marks_of c.args.markers.now) c.args.source.now c.new-parser.result c.new-parser.ensures c.in_ok-clone.ensures.cases
    (λ l m s. Refuses m s c.in_err-parse.field-0.0) c.in_err-parse.ensures.refusal)

pub returns-in_err-parse-clause-lost : goal.returns-in_err-parse-clause-lost
returns-in_err-parse-clause-lost c =
    let same : c.from_residual-in_err-parse.result ≡ Err c.in_err-parse.field-0.0 = search rules in
    rw same (job usual _ _ (marks_of c.args.markers.now) c.args.source.now c.new-parser.result c.new-parser.ensures c.in_ok-clone.ensures.cases
    (λ l m s. LosesSource l m s c.in_err-parse.field-0.0) c.in_err-parse.ensures.lost)

pub returns-in_err-parse-clause-notes : goal.returns-in_err-parse-clause-notes
returns-in_err-parse-clause-notes c =
    let same : c.from_residual-in_err-parse.result ≡ Err c.in_err-parse.field-0.0 = search rules in
    rw same (subst (λ f. NotesName f c.in_err-parse.field-0.0) (ap (λ (k : Job). k.filename) c.new-parser.ensures) c.in_err-parse.ensures.notes)
