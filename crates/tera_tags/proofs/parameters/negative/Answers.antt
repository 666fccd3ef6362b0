use Rattle.std.proofs.Common.{ap, subst, ◌∙◌}
use Rattle.tera_base.specs.Values as values
use Rattle.tera_lexer.specs.code.Seen.{seen}
use Rattle.tera_lexer.specs.grammar.Tokens.{Token}
use Rattle.tera_grammar.specs.statements.Components.{MinusDefault}
use Rattle.tera_expect.specs.Taking.{IsCounted}
use Rattle.tera_tags.proofs.ParametersLemmas.{integer_refused, negated_fits, negative_default, view_number}
use Rattle.tera_tags.proofs.parameters.negative.Goals as goal

pub returns-in-Integer-clause-gives : goal.returns-in-Integer-clause-gives
returns-in-Integer-clause-gives c =
    let us = c.take.new.cursor.left in
    let s = c.in_ok-token.field-0-1 in
    let n = c.in-Integer.n in
    let is = c.in_ok-token.ensures.takes.1 ∙ ap (λ t. Token (seen t) s us) c.in-Integer.is in
    let count = subst (λ t. IsCounted (seen t)) c.in-Integer.is c.in_ok-token.ensures.number in
    (MinusDefault c.args.cursor.now.span n s, negative_default c.args.cursor.now.span s c.args.cursor.now.left us n is, view_number _ ∙ ap values.I64 (negated_fits n count))

pub returns-in_default-clause-gives : goal.returns-in_default-clause-gives
returns-in_default-clause-gives c =
    integer_refused c.args.cursor.now.span c.args.cursor.now.left c.take.new.cursor.left c.in_ok-token.token c.in_ok-token.field-0-1 _ c.in_default.not-Integer c.in_ok-token.ensures.takes.1
