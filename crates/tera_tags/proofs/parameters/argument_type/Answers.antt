use Rattle.std.proofs.Common.{rules, ◌≡◌, None, Some, inr, refl, sym, ap, ◌∙◌, inl}
use Rattle.std.proofs.lemmas.Result.{err_from_is_err_and}
use Rattle.tera_lexer.specs.code.Seen.{seen}
use Rattle.tera_lexer.specs.grammar.Tokens.{Token}
use Rattle.tera_grammar.specs.Reads.{stopped}
use Rattle.tera_grammar.specs.expressions.Reading.Front.{taken_name}
use Rattle.tera_grammar.specs.statements.TagParts.{Name}
use Rattle.tera_grammar.specs.statements.Reading.Components.{annotation_in}
use Rattle.tera_expect.proofs.Steps.{untaken}
use Rattle.tera_tags.proofs.ParametersLemmas.{annotation_given, name_of_token, no_name_taken, no_such_type, no_type_name}
use Rattle.tera_expect.proofs.Steps.{failed_as, fails_by}
use Rattle.tera_tags.proofs.parameters.argument_type.Goals as goal

pub returns-then-not-eat-clause-gives : goal.returns-then-not-eat-clause-gives
unfolding annotation_in
returns-then-not-eat-clause-gives c =
    let none = rw c.if-not-eat.true at c.eat.ensures in
    rw (none.0, none.1) (None, refl, refl)

pub returns-in_err-token-clause-gives : goal.returns-in_err-token-clause-gives
returns-in_err-token-clause-gives c =
    let ts = c.args.cursor.now.left in
    let sign = rw c.if-not-eat.false at c.eat.ensures in
    let p = err_from_is_err_and c.from_residual.result c.from_residual.ensures.1 in
    let read = untaken taken_name c.eat.new.cursor c.take.new.cursor _ refl (λ text span. refl) c.in_err-token.ensures.takes in
    rw (p.1, p.2, sign.0) (failed_as _ _ _ _ (λ z h. no_type_name ts c.eat.new.cursor.left c.eat.new.cursor.span z h) read)

pub returns-in_err-named_type-in-Ident-clause-gives : goal.returns-in_err-named_type-in-Ident-clause-gives
returns-in_err-named_type-in-Ident-clause-gives c =
    let ts = c.args.cursor.now.left in
    let us = c.take.new.cursor.left in
    let s = c.in_ok-token.field-0-1 in
    let sign = rw c.if-not-eat.false at c.eat.ensures in
    let p = err_from_is_err_and c.from_residual-in_err-named_type-in-Ident.result c.from_residual-in_err-named_type-in-Ident.ensures.1 in
    let is = ap taken_name (c.in_ok-token.ensures.takes.1 ∙ ap (λ t. Token (seen t) s us) c.in-Ident.is) in
    rw (p.1, p.2, sign.0) (fails_by _ _ _ (λ h. inl (no_such_type ts c.eat.new.cursor.left us c.eat.new.cursor.span (record { text = c.in-Ident.name.now; span = s }) is h)) c.in_err-named_type-in-Ident.ensures.unnamed)

pub returns-in_ok-named_type-in-Ident-clause-gives : goal.returns-in_ok-named_type-in-Ident-clause-gives
returns-in_ok-named_type-in-Ident-clause-gives c =
    let ts = c.args.cursor.now.left in
    let us = c.take.new.cursor.left in
    let s = c.in_ok-token.field-0-1 in
    let sign = rw c.if-not-eat.false at c.eat.ensures in
    let is = ap taken_name (c.in_ok-token.ensures.takes.1 ∙ ap (λ t. Token (seen t) s us) c.in-Ident.is) in
    let n : Name = record { text = c.in-Ident.name.now; span = s } in
    let named = c.in_ok-named_type-in-Ident.ensures.named in
    rw sign.0 (Some (record { colon = c.eat.new.cursor.span; name = n }), annotation_given ts c.eat.new.cursor.left us c.eat.new.cursor.span n _ is named, sym named)

pub returns-in_default-clause-gives : goal.returns-in_default-clause-gives
returns-in_default-clause-gives c =
    let ts = c.args.cursor.now.left in
    let us = c.take.new.cursor.left in
    let sign = rw c.if-not-eat.false at c.eat.ensures in
    let other : name_of_token (seen c.in_ok-token.token) ≡ None = search rules in
    rw sign.0 (inr (inr (inl (seen c.in_ok-token.token, c.in_ok-token.field-0-1, no_type_name ts c.eat.new.cursor.left c.eat.new.cursor.span _ (no_name_taken _ us c.in_ok-token.field-0-1 _ c.in_ok-token.ensures.takes.1 other ∙ ap stopped c.in_ok-token.ensures.takes.1)))))
