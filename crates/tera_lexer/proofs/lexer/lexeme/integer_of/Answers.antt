use Rattle.std.proofs.Common.{◌≡◌, ◌^◌, ◌<◌, ◌≤◌, ℕ, true, length, Result, Ok, Err, rules, w64, ⊎_elim}
use Rattle.std.proofs.str.Laws.{order}
use Rattle.std.specs.Prelude.{ℤ, pos, MatchOption}
use Rattle.std.specs.List.{AllByRecursion}
use Rattle.std.specs.Result.{OkIff, result_ok}
use Rattle.std.specs.Char.{is_ascii_digit}
use Rattle.std.proofs.lemmas.Str.Parse.{IsNumeralModel, numerals_by_fold, parse_signed_digits}
use Rattle.tera_lexer.specs.grammar.Lexeme.{decimal, decimal_from}
use Rattle.tera_lexer.proofs.lexer.lexeme.integer_of.Goals as goal

own : IsNumeralModel (AllByRecursion (λ d. is_ascii_digit d ≡ true)) decimal
own = numerals_by_fold _ (search rules) decimal_from (search rules)

-- a parse that succeeds below the limit fails only from there on
by_limit : {E : Type 0} (r : Result ℤ E) (some : ℕ) (n : ℕ) → 0 < some → OkIff r ((0 < some) × (n < 2 ^ 63)) (pos n) → MatchOption (result_ok r) (2 ^ 63 ≤ n) (λ z. (n < 2 ^ 63) × (z ≡ pos n))
by_limit (Ok z) some n positive h = (h.0.1, h.1)
by_limit (Err e) some n positive h = ⊎_elim (λ lt. absurd (h (positive, lt))) (λ ge. ge) (order n (2 ^ 63))

pub returns : goal.returns
returns c = let h = parse_signed_digits own w64 c.args.digits.now _ c.parse.ensures.value.0 c.requires.digits in rw c.ok.ensures.value (by_limit _ (length c.args.digits.now) (decimal c.args.digits.now) c.requires.some h)
