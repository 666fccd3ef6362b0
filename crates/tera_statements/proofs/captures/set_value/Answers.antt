use Rattle.std.proofs.Common.{◌∙◌, ap, sym}
use Rattle.std.proofs.lemmas.Result.{err_from_is_err_and}
use Rattle.tera_ast.specs.Tree as tree
use Rattle.tera_grammar.specs.statements.Grammar.{Set, Single}
use Rattle.tera_grammar.specs.statements.Output.{AddsNode}
use Rattle.tera_grammar.specs.statements.Reading.TagParts.{tag}
use Rattle.tera_statements.proofs.CapturesLemmas.{no_value, value_given}
use Rattle.tera_expect.proofs.Steps.{failed_as}
use Rattle.tera_statements.proofs.captures.set_value.Goals as goal

pub returns-in_err-value-clause-gives : goal.returns-in_err-value-clause-gives
returns-in_err-value-clause-gives c = λ path represents self start first seen n items named.
    let p = err_from_is_err_and c.from_residual.result c.from_residual.ensures.1 in
    let fact = rw represents.loop at c.in_err-value.ensures.gives in
    rw (p.1, p.2) (failed_as _ _ _ _ (λ z h. no_value _ self path _ start first seen n items _ _ z h) fact)

pub returns-clause-gives : goal.returns-clause-gives
returns-clause-gives c = λ path represents self start first seen n items named.
    let (x, read, is) = rw represents.loop at c.in_ok-value.ensures.gives in
    let text = c.in_ok-name.ensures.ok ∙ sym named in (
      Single (Set c.args.variable.global (tag start first x.1) n c.args.cursor.now.span x.0),
      value_given _ self path _ start first seen n items _ _ x _ read,
      ap AddsNode (c.set.ensures ∙ (λ i. tree.Set (text i) (is i) c.args.variable.global)),
    )
