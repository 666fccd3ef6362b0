use Rattle.std.proofs.Common.{◌≡◌, ◌∙◌, true, false, Result, Ok, Err, IfOk, is_ok, sym, subst}
use Rattle.std.specs.Prelude.{MatchResult}
use Rattle.tera_grammar.specs.Limits.{usual}
use Rattle.tera_grammar.specs.statements.Top.{Derives}
use Rattle.tera_lexer.specs.grammar.Marks.{Marks, IsValid, marks_of}
use Rattle.tera_tree.specs.Outputs.{output_view}
use Rattle.tera_tree.specs.declared.outputs.ParserOutput.{ParserOutput}
use Rattle.tera_answers.proofs.layouts.is_template.Goals as goal

-- of what is accepted holds what holds of all that is
accepted : {T E : Type 0} (parsed : Result T E) (P : T → Type 0) → IfOk parsed P → is_ok parsed ≡ true → (x : T) × P x
accepted (Ok x) P h is = (x, h)
accepted (Err e) P h is = cc

-- what would be accepted is not refused
refused : {T E : Type 0} (parsed : Result T E) (P : T → Type 0) → MatchResult parsed P (λ _. ⊥) → is_ok parsed ≡ false → ⊥
refused (Ok x) P h is = cc
refused (Err e) P h is = h

pub read_template_between-requires : goal.read_template_between-requires
read_template_between-requires c = subst IsValid (sym c.in_ok-clone.ensures.cases) c.requires

pub returns-clause-template : goal.returns-clause-template
returns-clause-template c = λ yes.
    let text = c.args.text.now in
    let found = accepted c.in_ok-template.template.parsed (λ (o : ParserOutput). Derives usual (marks_of c.in_ok-clone.field-0) text (output_view o))
    c.in_ok-template.ensures.sound (sym c.is_ok.ensures.value ∙ yes) in
    (output_view found.0, subst (λ (m : Marks). Derives usual m text (output_view found.0)) c.in_ok-clone.ensures.cases found.1)

pub returns-clause-none : goal.returns-clause-none
returns-clause-none c = λ no is.
    let text = c.args.text.now in
    refused c.in_ok-template.template.parsed (λ (o : ParserOutput). output_view o ≡ is.0)
    (c.in_ok-template.ensures.complete is.0 (subst (λ (m : Marks). Derives usual m text is.0) (sym c.in_ok-clone.ensures.cases) is.1)) (sym c.is_ok.ensures.value ∙ no)
