use Rattle.std.proofs.Common.{ap, sym, ◌∙◌, string_bytes}
use Rattle.tera_base.specs.Values as values
use Rattle.tera_ast.specs.Tree as tree
use Rattle.tera_lexer.specs.grammar.Tokens.{Token}
use Rattle.tera_lexer.specs.code.Seen.{seen}
use Rattle.tera_grammar.specs.Reads.{found}
use Rattle.tera_grammar.specs.expressions.Concrete.{Simple, Escaped}
use Rattle.tera_grammar.specs.expressions.Reading.Front.{taken_quote}
use Rattle.tera_expect.proofs.TakingLemmas.{refused_after}
use Rattle.tera_expr_parts.proofs.AttributesLemmas.{quote_refused}
use Rattle.tera_expr_parts.proofs.attributes.quote.Goals as goal

pub returns-in_ok-text-in-Str-clause-gives : goal.returns-in_ok-text-in-Str-clause-gives
returns-in_ok-text-in-Str-clause-gives c =
    let took = c.in_ok-token.ensures.takes.1 ∙ ap (λ t. Token (seen t) c.in_ok-token.span c.take.new.cursor.left) c.in-Str.is in
    let here = sym c.in_ok-token.ensures.takes.5 in
    let x = Simple c.in-Str.text.now in (
      x,
      ap taken_quote took ∙ ap (λ s. found ((x, s), c.take.new.cursor.left)) here,
      c.in_ok-text-in-Str.ensures ∙ ap (λ s. tree.Const (values.Text c.in-Str.text.now) s) here,
    )

pub returns-in_ok-string-in-String-clause-gives : goal.returns-in_ok-string-in-String-clause-gives
returns-in_ok-string-in-String-clause-gives c =
    let took = c.in_ok-token.ensures.takes.1 ∙ ap (λ t. Token (seen t) c.in_ok-token.span c.take.new.cursor.left) c.in-String.is in
    let here = sym c.in_ok-token.ensures.takes.5 in
    let x = Escaped (string_bytes c.in-String.text) in (
      x,
      ap taken_quote took ∙ ap (λ s. found ((x, s), c.take.new.cursor.left)) here,
      c.in_ok-string-in-String.ensures ∙ ap (λ s. tree.Const (values.Text (string_bytes c.in-String.text)) s) here,
    )

pub returns-in_default : goal.returns-in_default
returns-in_default c = record {
  gives = quote_refused c.args.cursor.now.left c.take.new.cursor.left c.in_ok-token.token c.in_ok-token.span _ c.in_default.not-Str c.in_default.not-String c.in_ok-token.ensures.takes.1;
  refusal = refused_after _ _ _ _ c.in_ok-token.ensures.later c.no_attribute_value.ensures;
  later = tt;
}
