use Rattle.std.proofs.Common.{◌≡◌, ℕ, List, IfOk, IfErr, MatchResult, subst, ap}
use Rattle.tera_base.specs.Errors.{IsMemory}
use Rattle.tera_lexer.specs.grammar.Marks.{Marks, marks_of}
use Rattle.tera_grammar.specs.Limits.{Limits, usual}
use Rattle.tera_grammar.specs.statements.Places.{Places}
use Rattle.tera_grammar.specs.statements.Top.{DerivesNames}
use Rattle.tera_parser.specs.Job.{Job}
use Rattle.tera_parser.specs.Notes.{NotesName}
use Rattle.tera_parser.specs.Refusal.{LosesSource, Refuses}
use Rattle.tera_tags.specs.Known.{AreNames}
use Rattle.tera_tree.specs.Outputs.{output_view}
use Rattle.tera_tree.specs.Tree.{Output}
use Rattle.tera_templates.proofs.templates.parsed.Goals as goal

-- what holds of a parser's source, between its markers and within its limits, holds of those that it was made of
job : (l : Limits) (name : List ℕ) (m : Marks) (s : List ℕ) (j : Job) → (j ≡ record { filename = name; source = s; marks = m; limits = l })
    → (P : Limits → Marks → List ℕ → Type 0) → P j.limits j.marks j.source → P l m s
job l name m s j is P p =
    subst (λ i. P i m s) (ap (λ (k : Job). k.limits) is)
    (subst (λ i. P j.limits i s) (ap (λ (k : Job). k.marks) is) (subst (λ x. P j.limits j.marks x) (ap (λ (k : Job). k.source) is) p))

pub returns-clause-sound : goal.returns-clause-sound
returns-clause-sound c =
    job usual _ (marks_of c.args.markers) c.args.source.now c.new-parser.result c.new-parser.ensures
    (λ l m s. IfOk c.parse_with_names.result (λ p. (names : Places) × DerivesNames l m s (output_view p.0) names × AreNames p.1 names)) c.parse_with_names.ensures.sound

pub returns-clause-refusal : goal.returns-clause-refusal
returns-clause-refusal c =
    job usual _ (marks_of c.args.markers) c.args.source.now c.new-parser.result c.new-parser.ensures (λ l m s. IfErr c.parse_with_names.result (Refuses m s)) c.parse_with_names.ensures.refusal

pub returns-clause-lost : goal.returns-clause-lost
returns-clause-lost c =
    job usual _ (marks_of c.args.markers) c.args.source.now c.new-parser.result c.new-parser.ensures (λ l m s. IfErr c.parse_with_names.result (LosesSource l m s)) c.parse_with_names.ensures.lost

pub returns-clause-complete : goal.returns-clause-complete
returns-clause-complete c =
    job usual _ (marks_of c.args.markers) c.args.source.now c.new-parser.result c.new-parser.ensures
    (λ l m s. (output : Output) (names : Places) → DerivesNames l m s output names → MatchResult c.parse_with_names.result (λ p. (output_view p.0 ≡ output) × AreNames p.1 names) IsMemory) c.parse_with_names.ensures.complete

pub returns-clause-notes : goal.returns-clause-notes
returns-clause-notes c = subst (λ f. IfErr c.parse_with_names.result (NotesName f)) (ap (λ (k : Job). k.filename) c.new-parser.ensures) c.parse_with_names.ensures.notes
