use Rattle.std.proofs.Common.{◌≡◌, ◌<◌, ℕ, Bool, true, false, Some, None, List, [], ◌∷◌, length, get_or, sym, ap, ◌∙◌, arith}
use Rattle.std.proofs.lemmas.Bool.Decides.{nat_tests}
use Rattle.std.specs.Char.{is_ascii_digit}
use Rattle.tera_lexer.specs.grammar.Lexeme.{begins_name, goes_on_name, is_quote, operator_at}
use Rattle.tera_lexer.specs.code.Found.{BeginsBy, IsOperatorOf}
use Rattle.tera_lexer.proofs.Finds.{operator_is_found, nothing_is_found}
use Rattle.tera_lexer.proofs.lexer.lexeme.lexeme_at.Goals as goal
use Rattle.tera_lexer.proofs.lexer.lexeme.lexeme_at.Goals.{Else-is_quote}

-- what begins a name, where no digit does
name_begins : (b : ℕ) → goes_on_name b ≡ true → is_ascii_digit b ≡ false → begins_name b ≡ true
name_begins b name digit = grind (arith, nat_tests)

begins_at : (bytes : List ℕ) → 0 < length bytes → begins_name (get_or bytes 0 0) ≡ true → BeginsBy begins_name bytes
begins_at [] some name = absurd (omega arith)
begins_at (b ∷ bs) some name = name

pub name_at-requires : goal.name_at-requires
name_at-requires c =
    let name = name_begins (get_or c.as_bytes.result.now 0 0) (sym c.is_in.ensures ∙ c.if-is_in.true) (sym c.is_ascii_digit.ensures.value ∙ c.if-is_ascii_digit.false) in
    begins_at c.args.rest.now c.requires (ap (λ (l : List ℕ). begins_name (get_or l 0 0)) (sym c.as_bytes.ensures.value) ∙ name)

other_no_digit : (b : ℕ) → goes_on_name b ≡ false → is_ascii_digit b ≡ false
other_no_digit b other = grind (arith, nat_tests)

other_no_name : (b : ℕ) → goes_on_name b ≡ false → begins_name b ≡ false
other_no_name b other = grind (arith, nat_tests)

-- the first byte is of none of the other classes
first_is : (c : Else-is_quote) (p : ℕ → Bool) → p (get_or c.as_bytes.result.now 0 0) ≡ false → p (get_or c.args.rest.now 0 0) ≡ false
first_is c p other = ap (λ (l : List ℕ). p (get_or l 0 0)) (sym c.as_bytes.ensures.value) ∙ other

no_digit : (c : Else-is_quote) → is_ascii_digit (get_or c.args.rest.now 0 0) ≡ false
no_digit c = first_is c is_ascii_digit (other_no_digit (get_or c.as_bytes.result.now 0 0) (sym c.is_in.ensures ∙ c.if-is_in.false))

no_name : (c : Else-is_quote) → begins_name (get_or c.args.rest.now 0 0) ≡ false
no_name c = first_is c begins_name (other_no_name (get_or c.as_bytes.result.now 0 0) (sym c.is_in.ensures ∙ c.if-is_in.false))

no_quote : (c : Else-is_quote) → is_quote (get_or c.args.rest.now 0 0) ≡ false
no_quote c = first_is c is_quote (sym c.is_quote.ensures ∙ c.if-is_quote.false)

pub returns-in-Some : goal.returns-in-Some
returns-in-Some c =
    let at = (goal.at.returns-in-Some c).Else-is_quote in
    let found : IsOperatorOf (Some (c.in-Some.token, c.in-Some.len)) (operator_at c.args.rest.now) = rw c.as_bytes-else-is_quote.ensures.value at (rw c.in-Some.is at c.operator_at.ensures) in
    operator_is_found c.args.rest.now c.requires (no_digit at) (no_name at) (no_quote at) (c.in-Some.token, c.in-Some.len) found

pub returns-in-None : goal.returns-in-None
returns-in-None c =
    let at = (goal.at.returns-in-None c).Else-is_quote in
    let found : IsOperatorOf None (operator_at c.args.rest.now) = rw c.as_bytes-else-is_quote.ensures.value at (rw c.in-None.is at c.operator_at.ensures) in
    nothing_is_found c.args.rest.now c.requires (no_digit at) (no_name at) (no_quote at) found
