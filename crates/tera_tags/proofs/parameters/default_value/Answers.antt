use Rattle.std.proofs.Common.{rules, ◌≡◌, false, None, inr, refl, string_bytes, sym, ap, subst, ◌∙◌, inl}
use Rattle.std.proofs.lemmas.Result.{err_from_is_err_and}
use Rattle.tera_base.specs.Values as values
use Rattle.tera_lexer.specs.code.Seen.{seen}
use Rattle.tera_lexer.specs.grammar.Tokens as toks
use Rattle.tera_lexer.specs.grammar.Tokens.{Token}
use Rattle.tera_grammar.specs.Reads.{first_as}
use Rattle.tera_grammar.specs.expressions.Concrete.{Escaped, Number, Quoted, Simple, Truth}
use Rattle.tera_grammar.specs.expressions.Marks.{Operation, mark_token}
use Rattle.tera_grammar.specs.expressions.Operators.{Minus}
use Rattle.tera_grammar.specs.expressions.Reading.Front.{literal_of, same_token}
use Rattle.tera_grammar.specs.statements.Components.{LiteralDefault}
use Rattle.tera_grammar.specs.statements.Reading.Components.{default_of, minus_kind}
use Rattle.tera_tags.specs.Parameters.{IsDefault}
use Rattle.tera_expr_parts.specs.Allowed.{limits_of}
use Rattle.tera_expect.specs.Taking.{GivesBy, IsCounted}
use Rattle.tera_expect.proofs.Steps.{untaken}
use Rattle.tera_tags.proofs.ParametersLemmas.{array_default, counted_fits, literal_default, map_default, minus_default, none_word, other_default, view_number, view_text, view_truth, word_default}
use Rattle.tera_tags.proofs.parameters.default_value.Goals as goal

pub returns-then-begins-clause-gives : goal.returns-then-begins-clause-gives
returns-then-begins-clause-gives c =
    array_default (limits_of c.args.setting.now.limits) c.args.cursor.now.left c.literal_array.new.cursor.left c.literal_array.result (sym c.begins.ensures ∙ c.if-begins.true) c.literal_array.ensures.gives

pub returns-then-begins-2-clause-gives : goal.returns-then-begins-2-clause-gives
returns-then-begins-2-clause-gives c =
    map_default (limits_of c.args.setting.now.limits) c.args.cursor.now.left c.literal_map.new.cursor.left c.literal_map.result (sym c.begins-2.ensures ∙ c.if-begins-2.true) c.literal_map.ensures.gives

pub returns-in_err-token-clause-gives : goal.returns-in_err-token-clause-gives
unfolding default_of
returns-in_err-token-clause-gives c =
    let p = err_from_is_err_and c.from_residual.result c.from_residual.ensures.1 in
    rw (p.1, p.2) (untaken (default_of (limits_of c.args.setting.now.limits)) c.args.cursor.now c.take.new.cursor _ refl (λ text span. refl) c.in_err-token.ensures.takes)

pub returns-in-Integer-clause-gives : goal.returns-in-Integer-clause-gives
returns-in-Integer-clause-gives c =
    let l = limits_of c.args.setting.now.limits in
    let ts = c.args.cursor.now.left in
    let us = c.take.new.cursor.left in
    let s = c.in_ok-token.field-0-1 in
    let n = c.in-Integer.n in
    let is = c.in_ok-token.ensures.takes.1 ∙ ap (λ t. Token (seen t) s us) c.in-Integer.is in
    let count = subst (λ t. IsCounted (seen t)) c.in-Integer.is c.in_ok-token.ensures.number in
    (LiteralDefault (Number n) s, literal_default l ts us s (toks.Integer n) (Number n) refl is, view_number _ ∙ ap values.I64 (counted_fits n count))

pub returns-in-Bool-clause-gives : goal.returns-in-Bool-clause-gives
returns-in-Bool-clause-gives c =
    let l = limits_of c.args.setting.now.limits in
    let ts = c.args.cursor.now.left in
    let us = c.take.new.cursor.left in
    let s = c.in_ok-token.field-0-1 in
    let b = c.in-Bool.b in
    let is = c.in_ok-token.ensures.takes.1 ∙ ap (λ t. Token (seen t) s us) c.in-Bool.is in
    (LiteralDefault (Truth b) s, literal_default l ts us s (toks.Truth b) (Truth b) refl is, view_truth b)

pub returns-in_ok-from_str-in-Str-clause-gives : goal.returns-in_ok-from_str-in-Str-clause-gives
returns-in_ok-from_str-in-Str-clause-gives c =
    let l = limits_of c.args.setting.now.limits in
    let ts = c.args.cursor.now.left in
    let us = c.take.new.cursor.left in
    let s = c.in_ok-token.field-0-1 in
    let text = c.in-Str.text.now in
    let is = c.in_ok-token.ensures.takes.1 ∙ ap (λ t. Token (seen t) s us) c.in-Str.is in
    (LiteralDefault (Quoted (Simple text)) s, literal_default l ts us s (toks.Str text) (Quoted (Simple text)) refl is, view_text _ ∙ ap values.Text c.in_ok-from_str-in-Str.ensures.ok)

pub returns-in-String-clause-gives : goal.returns-in-String-clause-gives
returns-in-String-clause-gives c =
    let l = limits_of c.args.setting.now.limits in
    let ts = c.args.cursor.now.left in
    let us = c.take.new.cursor.left in
    let s = c.in_ok-token.field-0-1 in
    let text = string_bytes c.in-String.text in
    let is = c.in_ok-token.ensures.takes.1 ∙ ap (λ t. Token (seen t) s us) c.in-String.is in
    (LiteralDefault (Quoted (Escaped text)) s, literal_default l ts us s (toks.Escaped text) (Quoted (Escaped text)) refl is, view_text c.in-String.text)

pub returns-in-Ident-clause-gives : goal.returns-in-Ident-clause-gives
returns-in-Ident-clause-gives c =
    let l = limits_of c.args.setting.now.limits in
    let ts = c.args.cursor.now.left in
    let us = c.take.new.cursor.left in
    let s = c.in_ok-token.field-0-1 in
    let is = c.in_ok-token.ensures.takes.1 ∙ ap (λ t. Token (seen t) s us) c.in-Ident.is in
    word_default l ts us s c.in-Ident.name.now is c.no_value.result c.no_value.ensures.given c.no_value.ensures.fails

pub returns-in-Minus-clause-gives : goal.returns-in-Minus-clause-gives
returns-in-Minus-clause-gives c =
    let l = limits_of c.args.setting.now.limits in
    let ts = c.args.cursor.now.left in
    let us = c.take.new.cursor.left in
    let s = c.in_ok-token.field-0-1 in
    let is = c.in_ok-token.ensures.takes.1 ∙ ap (λ t. Token (seen t) s us) c.in-Minus.is in
    rw (minus_default l ts us s is) (subst (λ v. GivesBy IsDefault c.negative.result c.negative.new.cursor.left (first_as (minus_kind v) us)) c.in_ok-token.ensures.takes.5 c.negative.ensures.gives)

pub returns-in_default-clause-gives : goal.returns-in_default-clause-gives
returns-in_default-clause-gives c =
    let l = limits_of c.args.setting.now.limits in
    let ts = c.args.cursor.now.left in
    let us = c.take.new.cursor.left in
    let t = seen c.in_ok-token.token in
    let plain : literal_of t ≡ None = search rules in
    let word : none_word t ≡ false = search rules in
    let minus : same_token t (mark_token (Operation Minus)) ≡ false = search rules in
    inr (inl (other_default l ts us c.in_ok-token.field-0-1 t plain word minus (sym c.begins.ensures ∙ c.if-begins.false) (sym c.begins-2.ensures ∙ c.if-begins-2.false) c.in_ok-token.ensures.takes.1))
