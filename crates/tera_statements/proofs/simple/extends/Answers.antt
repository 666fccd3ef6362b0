use Rattle.std.proofs.Common.{◌≡◌, ◌∙◌, false, refl, ap, sym, inl}
use Rattle.std.proofs.lemmas.Result.{err_from_is_err_and}
use Rattle.tera_grammar.specs.statements.Grammar.{Extends, Single, is_outermost}
use Rattle.tera_grammar.specs.statements.Output.{AddsParent}
use Rattle.tera_grammar.specs.statements.Reading.{extends_of}
use Rattle.tera_grammar.specs.statements.Reading.TagParts.{tag}
use Rattle.tera_expect.proofs.Steps.{failed, fails_by}
use Rattle.tera_statements.proofs.simple.extends.Goals as goal

pub returns-in_err-parent-clause-gives : goal.returns-in_err-parent-clause-gives
unfolding extends_of
returns-in_err-parent-clause-gives c = λ path represents start seen.
    let p = err_from_is_err_and c.from_residual.result c.from_residual.ensures.1 in
    rw (p.1, p.2) (failed _ _ _ _ c.in_err-parent.ensures.gives)

pub returns-in_err-check_extension-clause-gives : goal.returns-in_err-check_extension-clause-gives
unfolding extends_of
returns-in_err-check_extension-clause-gives c = λ path represents start seen.
    let p = err_from_is_err_and c.from_residual-in_err-check_extension.result c.from_residual-in_err-check_extension.ensures.1 in
    let (q, read, is) = c.in_ok-parent.ensures.gives in
    rw (p.1, p.2, read) (fails_by _ _ _ (λ h. let none : is_outermost path ≡ false = sym represents.outermost ∙ h in inl (rw none refl)) c.in_err-check_extension.ensures.fails)

pub returns-in_err-finish-clause-gives : goal.returns-in_err-finish-clause-gives
unfolding extends_of
returns-in_err-finish-clause-gives c = λ path represents start seen.
    let p = err_from_is_err_and c.from_residual-in_err-finish.result c.from_residual-in_err-finish.ensures.1 in
    let (q, read, is) = c.in_ok-parent.ensures.gives in
    let may = sym represents.outermost ∙ c.in_ok-check_extension.ensures.represents in
    rw (p.1, p.2, read, may) (failed _ _ _ _ c.in_err-finish.ensures.gives)

pub returns-clause-gives : goal.returns-clause-gives
unfolding extends_of
returns-clause-gives c = λ path represents start seen.
    let (q, read, is) = c.in_ok-parent.ensures.gives in
    let may = sym represents.outermost ∙ c.in_ok-check_extension.ensures.represents in
    let (f, ended) = c.in_ok-finish.ensures.gives in (
      Single (Extends (tag start c.args.cursor.now.span f) q.0 q.1),
      rw (read, may, ended) refl,
      ap AddsParent is.0,
    )
