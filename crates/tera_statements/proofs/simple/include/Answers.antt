use Rattle.std.proofs.Common.{◌∙◌, refl, ap, string_bytes}
use Rattle.std.proofs.lemmas.Result.{err_from_is_err_and}
use Rattle.tera_ast.specs.Tree as tree
use Rattle.tera_grammar.specs.statements.Grammar.{Include, Single}
use Rattle.tera_grammar.specs.statements.Output.{AddsNode}
use Rattle.tera_grammar.specs.statements.Reading.{include_of}
use Rattle.tera_grammar.specs.statements.Reading.TagParts.{tag}
use Rattle.tera_expect.proofs.Steps.{failed}
use Rattle.tera_statements.proofs.simple.include.Goals as goal

pub returns-in_err-name-clause-gives : goal.returns-in_err-name-clause-gives
unfolding include_of
returns-in_err-name-clause-gives c = λ path represents start seen.
    let p = err_from_is_err_and c.from_residual.result c.from_residual.ensures.1 in
    rw (p.1, p.2) (failed _ _ _ _ c.in_err-name.ensures.gives)

pub returns-in_err-finish-clause-gives : goal.returns-in_err-finish-clause-gives
unfolding include_of
returns-in_err-finish-clause-gives c = λ path represents start seen.
    let p = err_from_is_err_and c.from_residual-in_err-finish.result c.from_residual-in_err-finish.ensures.1 in
    let (q, read, is) = c.in_ok-name.ensures.gives in
    rw (p.1, p.2, read) (failed _ _ _ _ c.in_err-finish.ensures.gives)

pub returns-clause-gives : goal.returns-clause-gives
unfolding include_of
returns-clause-gives c = λ path represents start seen.
    let (q, read, is) = c.in_ok-name.ensures.gives in
    let (f, ended) = c.in_ok-finish.ensures.gives in (
      Single (Include (tag start c.args.cursor.now.span f) q.0 q.1),
      rw (read, ended) refl,
      ap AddsNode (c.include.ensures ∙ (λ i. tree.Include ((ap string_bytes c.in_ok-name-2.ensures.node ∙ is.0) i) ((c.in_ok-name-2.ensures.span ∙ is.1) i))),
    )
