use Rattle.std.proofs.Common.{◌∙◌, ap, inr, sym}
use Rattle.std.proofs.lemmas.Result.{err_from_is_err_and}
use Rattle.tera_grammar.specs.statements.Output.{text_adds}
use Rattle.tera_grammar.specs.statements.Reading.Loops.{turn, weight}
use Rattle.tera_statements.specs.Templates.{phase_if_any, phase_of}
use Rattle.tera_statements.proofs.EmptyLemmas.{silent_turns}
use Rattle.tera_tags.proofs.RefusalLemmas.{memory_inside}
use Rattle.tera_statements.proofs.templates.text_phase.Goals as goal

pub returns-in_default-clause-gives : goal.returns-in_default-clause-gives
returns-in_default-clause-gives c = inr (sym c.after_text.ensures ∙ ap phase_if_any c.in_default.is)

pub returns-in_default-clause-refusal : goal.returns-in_default-clause-refusal
returns-in_default-clause-refusal c = λ old took. c.ignored.ensures old took tt

pub returns-in_default-clause-empty : goal.returns-in_default-clause-empty
returns-in_default-clause-empty c = λ none.
    silent_turns (phase_of c.args.phase) (ap (λ t. turn (phase_of c.args.phase) (weight (text_adds t))) (sym none) ∙ sym c.after_text.ensures ∙ ap phase_if_any c.in_default.is)

pub returns-in_err-add_text-clause-refusal : goal.returns-in_err-add_text-clause-refusal
returns-in_err-add_text-clause-refusal c = λ old took.
    let p = err_from_is_err_and c.from_residual.result c.from_residual.ensures.1 in
    rw (p.1, p.2) (memory_inside old _ _ c.in_err-add_text.ensures.refusal)

pub returns-in_err-add_text-clause-empty : goal.returns-in_err-add_text-clause-empty
returns-in_err-add_text-clause-empty c =
    let p = err_from_is_err_and c.from_residual.result c.from_residual.ensures.1 in
    rw p.1 c.in_err-add_text.ensures.empty

pub returns-clause-gives : goal.returns-clause-gives
returns-clause-gives c = (c.in_ok-add_text.ensures.added, sym c.after_text.ensures ∙ ap phase_if_any c.in-Some.is)
