use Rattle.std.proofs.Common.{rules, ◌≡◌, ap, w64, to_z, of_z, string_bytes}
use Rattle.std.proofs.lemmas.Int.{ints}
use Rattle.tera_lexer.specs.code.Seen.{seen}
use Rattle.tera_grammar.specs.expressions.Concrete.{Number, Quoted, Truth, Simple, Escaped}
use Rattle.tera_grammar.specs.expressions.Reading.Front.{literal_of}
use Rattle.tera_expr_parts.proofs.parts.literal.Goals as goal

pub returns-in_ok-integer-in-Integer-clause-gives : goal.returns-in_ok-integer-in-Integer-clause-gives
returns-in_ok-integer-in-Integer-clause-gives c =
    let same : to_z w64 (of_z w64 c.in-Integer.n) ≡ c.in-Integer.n = search (rules, ints) in
    (Number c.in-Integer.n, ap (λ t. literal_of (seen t)) c.in-Integer.is, rw (same, c.copied.ensures) at c.in_ok-integer-in-Integer.ensures)

pub returns-in_ok-text-in-Str-clause-gives : goal.returns-in_ok-text-in-Str-clause-gives
returns-in_ok-text-in-Str-clause-gives c =
    (Quoted (Simple c.in-Str.text.now), ap (λ t. literal_of (seen t)) c.in-Str.is, rw c.copied-in-Str.ensures at c.in_ok-text-in-Str.ensures)

pub returns-in_ok-string-in-String-clause-gives : goal.returns-in_ok-string-in-String-clause-gives
returns-in_ok-string-in-String-clause-gives c =
    (Quoted (Escaped (string_bytes c.in-String.text)), ap (λ t. literal_of (seen t)) c.in-String.is, rw c.copied-in-String.ensures at c.in_ok-string-in-String.ensures)

pub returns-in_ok-truth-in-Bool-clause-gives : goal.returns-in_ok-truth-in-Bool-clause-gives
returns-in_ok-truth-in-Bool-clause-gives c =
    (Truth c.in-Bool.b, ap (λ t. literal_of (seen t)) c.in-Bool.is, rw c.copied-in-Bool.ensures at c.in_ok-truth-in-Bool.ensures)
