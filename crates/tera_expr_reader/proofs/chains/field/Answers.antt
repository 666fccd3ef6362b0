use Rattle.std.proofs.Common.{rules, ◌≡◌, refl, sym, ap, ◌∙◌, ◌++◌, codes}
use Rattle.tera_ast.specs.Tree as tree
use Rattle.tera_ast.specs.View.{expression_view}
use Rattle.tera_grammar.specs.expressions.Conditions.{is_field_of}
use Rattle.tera_expect.specs.Taking.{name_at}
use Rattle.tera_expr_reader.proofs.ChainsLemmas.{field_read, plain_field, loop_field}
use Rattle.tera_expr_reader.proofs.chains.field.Goals as goal

pub returns-then-not-of_loop-clause-gives : goal.returns-then-not-of_loop-clause-gives
returns-then-not-of_loop-clause-gives c =
    let n = name_at c.name.new.cursor.span c.in_ok-name.name in
    let plain = c.if-not-of_loop.true in
    let shows : expression_view c.in_ok-get_attr.field-0 ≡ tree.GetAttr (expression_view c.args.chain) c.in_ok-name.name.now c.args.optional c.name.new.cursor.span = search rules in
    (n, field_read c.args.of_loop _ _ n c.in_ok-name.ensures.gives (ap (λ b. is_field_of b n.text) plain), refl, λ d same. shows ∙ plain_field c.args.of_loop c.args.optional (expression_view c.args.chain) n plain d same)

pub returns-clause-gives : goal.returns-clause-gives
returns-clause-gives c =
    let n = name_at c.name.new.cursor.span c.in_ok-name.name in
    let looping = c.if-not-of_loop.false in
    let shows : expression_view c.in_ok-variable.field-0 ≡ tree.Var (codes "__tera_loop_" ++ c.in_ok-name.name.now) c.name.new.cursor.span = search rules in (
      n,
      field_read c.args.of_loop _ _ n c.in_ok-name.ensures.gives (ap (λ b. is_field_of b n.text) looping ∙ sym c.is_loop_field.ensures ∙ c.if-not-is_loop_field.false),
      refl,
      λ d same. shows ∙ loop_field c.args.of_loop (expression_view c.args.chain) n looping d,
    )
