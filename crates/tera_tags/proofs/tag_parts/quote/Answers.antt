use Rattle.std.proofs.Common.{ap, ◌∙◌, refl, string_bytes}
use Rattle.tera_lexer.specs.grammar.Tokens.{Token}
use Rattle.tera_lexer.specs.code.Seen.{seen}
use Rattle.tera_grammar.specs.expressions.Concrete.{Simple, Escaped}
use Rattle.tera_grammar.specs.expressions.Reading.Front.{taken_quote}
use Rattle.tera_expr_parts.proofs.AttributesLemmas.{quote_refused}
use Rattle.tera_tags.proofs.tag_parts.quote.Goals as goal

pub returns-in_ok-from_str-in-Str-clause-gives : goal.returns-in_ok-from_str-in-Str-clause-gives
returns-in_ok-from_str-in-Str-clause-gives c =
    let took = c.in_ok-token.ensures.takes.1 ∙ ap (λ t. Token (seen t) c.in_ok-token.span c.next_or_eoi.new.self.left) c.in-Str.is in
    ((Simple c.in-Str.text.now, c.in_ok-token.span), ap taken_quote took, (c.in_ok-from_str-in-Str.ensures.ok, refl))

pub returns-in-String-clause-gives : goal.returns-in-String-clause-gives
returns-in-String-clause-gives c =
    let took = c.in_ok-token.ensures.takes.1 ∙ ap (λ t. Token (seen t) c.in_ok-token.span c.next_or_eoi.new.self.left) c.in-String.is in
    ((Escaped (string_bytes c.in-String.text), c.in_ok-token.span), ap taken_quote took, (refl, refl))

pub returns-in_default-clause-gives : goal.returns-in_default-clause-gives
returns-in_default-clause-gives c =
    quote_refused c.args.cursor.now.left c.next_or_eoi.new.self.left c.in_ok-token.token c.in_ok-token.span _ c.in_default.not-Str c.in_default.not-String c.in_ok-token.ensures.takes.1
