use Rattle.std.proofs.Common.{◌≡◌, ◌∙◌, false, refl, ap, sym, inl}
use Rattle.std.proofs.lemmas.Result.{err_from_is_err_and}
use Rattle.tera_grammar.specs.statements.Grammar.{Single, may_break}
use Rattle.tera_grammar.specs.statements.Output.{AddsNode}
use Rattle.tera_grammar.specs.statements.Reading.{break_of}
use Rattle.tera_grammar.specs.statements.Reading.TagParts.{tag}
use Rattle.tera_statements.specs.Simple.{jump_item}
use Rattle.tera_statements.proofs.SimpleLemmas.{jump_adds}
use Rattle.tera_expect.proofs.Steps.{failed, fails_by}
use Rattle.tera_statements.proofs.simple.read_jump.Goals as goal

pub returns-in_err-check_jump-clause-gives : goal.returns-in_err-check_jump-clause-gives
unfolding break_of
returns-in_err-check_jump-clause-gives c = λ path represents start seen.
    let p = err_from_is_err_and c.from_residual.result c.from_residual.ensures.1 in
    rw (p.1, p.2) (fails_by _ _ _ (λ h. let none : may_break path ≡ false = sym represents.breaks ∙ h in inl (rw none refl)) c.in_err-check_jump.ensures.fails)

pub returns-in_err-finish-clause-gives : goal.returns-in_err-finish-clause-gives
unfolding break_of
returns-in_err-finish-clause-gives c = λ path represents start seen.
    let p = err_from_is_err_and c.from_residual-in_err-finish.result c.from_residual-in_err-finish.ensures.1 in
    let may = sym represents.breaks ∙ c.in_ok-check_jump.ensures.represents in
    rw (p.1, p.2, may) (failed _ _ _ _ c.in_err-finish.ensures.gives)

pub returns-clause-gives : goal.returns-clause-gives
unfolding break_of
returns-clause-gives c = λ path represents start seen.
    let may = sym represents.breaks ∙ c.in_ok-check_jump.ensures.represents in
    let (f, ended) = c.in_ok-finish.ensures.gives in (
      Single (jump_item c.args.jump (tag start c.args.cursor.now.span f)),
      rw (may, ended) refl,
      ap AddsNode c.node.ensures ∙ jump_adds _ c.args.jump _,
    )
