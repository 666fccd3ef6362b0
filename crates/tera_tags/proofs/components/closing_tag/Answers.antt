use Rattle.std.proofs.Common.{sym}
use Rattle.std.proofs.lemmas.Result.{err_from_is_err_and}
use Rattle.tera_grammar.specs.statements.Reading.Components.{head}
use Rattle.tera_tags.proofs.ComponentsLemmas.{no_ending, other_name, ending_named}
use Rattle.tera_expect.proofs.Steps.{failed_as, passed}
use Rattle.tera_tags.proofs.components.closing_tag.Goals as goal

pub returns-in_err-closed-clause-gives : goal.returns-in_err-closed-clause-gives
returns-in_err-closed-clause-gives c = λ start first o named.
    let p = err_from_is_err_and c.from_residual.result c.from_residual.ensures.1 in
    rw (p.1, p.2) (failed_as _ _ _ _ (λ z h. no_ending start first o _ z h) c.in_err-closed.ensures.gives)

pub returns-in_err-end_name-clause-gives : goal.returns-in_err-end_name-clause-gives
returns-in_err-end_name-clause-gives c = λ start first o named.
    let p = err_from_is_err_and c.from_residual-in_err-end_name.result c.from_residual-in_err-end_name.ensures.1 in
    let (x, there) = c.in_ok-closed.ensures.gives in
    let fact = rw (sym named) at c.in_err-end_name.ensures.gives in
    rw (p.1, p.2) (failed_as _ _ _ _ (λ z h. other_name start first o _ x _ there z h) fact)

pub returns-clause-gives : goal.returns-clause-gives
returns-clause-gives c = λ start first o named.
    let (x, there) = c.in_ok-closed.ensures.gives in
    let (n, agrees) = rw (sym named) at c.in_ok-end_name.ensures.gives in
    rw (ending_named start first o _ x _ there n _ agrees) (passed (λ f. head start first o x.0 x.1 n f) c.finish.result _ _ c.finish.ensures.gives)
