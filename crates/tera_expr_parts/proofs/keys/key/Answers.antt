use Rattle.std.proofs.Common.{rules, ◌≡◌, ap, sym, ◌∙◌, refl, w64, to_z, of_z, string_bytes}
use Rattle.std.proofs.lemmas.Int.{ints}
use Rattle.tera_base.specs.Values.{TextKey, I64Key}
use Rattle.tera_lexer.specs.grammar.Tokens.{Token}
use Rattle.tera_lexer.specs.code.Seen.{seen}
use Rattle.tera_grammar.specs.Reads.{found}
use Rattle.tera_grammar.specs.expressions.Concrete.{Number, Quoted, Simple, Escaped, Truth}
use Rattle.tera_expr_parts.specs.Keys.{taken_literal}
use Rattle.tera_expr_parts.proofs.keys.key.Goals as goal

pub returns-in_ok-from_str-in-Str-clause-gives : goal.returns-in_ok-from_str-in-Str-clause-gives
returns-in_ok-from_str-in-Str-clause-gives c =
    let took = c.in_ok-token.ensures.takes.1 ∙ ap (λ t. Token (seen t) c.in_ok-token.span c.next_or_eoi.new.self.left) c.in-Str.is in
    let x = Quoted (Simple c.in-Str.text.now) in
    (x, ap taken_literal took ∙ ap (λ s. found ((x, s), c.next_or_eoi.new.self.left)) (sym c.in_ok-token.ensures.takes.5), ap TextKey c.in_ok-from_str-in-Str.ensures.ok)

pub returns-in-String-clause-gives : goal.returns-in-String-clause-gives
returns-in-String-clause-gives c =
    let took = c.in_ok-token.ensures.takes.1 ∙ ap (λ t. Token (seen t) c.in_ok-token.span c.next_or_eoi.new.self.left) c.in-String.is in
    let x = Quoted (Escaped (string_bytes c.in-String.text)) in
    (x, ap taken_literal took ∙ ap (λ s. found ((x, s), c.next_or_eoi.new.self.left)) (sym c.in_ok-token.ensures.takes.5), refl)

pub returns-in-Integer-clause-gives : goal.returns-in-Integer-clause-gives
returns-in-Integer-clause-gives c =
    let took = c.in_ok-token.ensures.takes.1 ∙ ap (λ t. Token (seen t) c.in_ok-token.span c.next_or_eoi.new.self.left) c.in-Integer.is in
    let x = Number c.in-Integer.n in
    let same : to_z w64 (of_z w64 c.in-Integer.n) ≡ c.in-Integer.n = search (rules, ints) in
    (x, ap taken_literal took ∙ ap (λ s. found ((x, s), c.next_or_eoi.new.self.left)) (sym c.in_ok-token.ensures.takes.5), ap I64Key same)

pub returns-in-Bool-clause-gives : goal.returns-in-Bool-clause-gives
returns-in-Bool-clause-gives c =
    let took = c.in_ok-token.ensures.takes.1 ∙ ap (λ t. Token (seen t) c.in_ok-token.span c.next_or_eoi.new.self.left) c.in-Bool.is in
    let x = Truth c.in-Bool.b in
    (x, ap taken_literal took ∙ ap (λ s. found ((x, s), c.next_or_eoi.new.self.left)) (sym c.in_ok-token.ensures.takes.5), refl)
