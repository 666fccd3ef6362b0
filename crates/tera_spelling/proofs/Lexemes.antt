-- The lexeme of a token that can be spelled, before a space.
use Rattle.std.proofs.Common.{rules, ◌≡◌, ◌≢◌, ℕ, ◌<◌, ◌^◌, Bool, true, false, List, [], ◌∷◌, ◌++◌, length, ap, sym, ◌∙◌, refl, subst, arith, codes}
use Rattle.std.specs.Prelude.{pos}
use Rattle.std.specs.List.{AllByRecursion}
use Rattle.std.specs.Char.{is_ascii_digit, is_ascii_whitespace}
use Rattle.std.specs.Fmt.{decimal}
use Rattle.std.proofs.lemmas.Bool.{ne_eqb}
use Rattle.std.proofs.lemmas.Bool.Decides.{nat_tests}
use Rattle.std.proofs.lemmas.Fmt.{decimal_nonempty, digits_decimal, digits_value-decimal}
use Rattle.std.proofs.lemmas.Str.Parse.{IsNumeralModel, numerals_by_fold}
use Rattle.tera_lexer.specs.grammar.Lexeme as lexeme
use Rattle.tera_lexer.specs.grammar.Lexeme.{StopsAt, begins_name, Lexeme, Name, Number, Quoted, Operator, spelled, IsLexeme, decimal_from, operator_at, is_at_end, has_escape, value_of, written}
use Rattle.tera_lexer.specs.grammar.Tokens.{Tok, Ident, Str, Escaped, Integer, Truth, Symbol, name_token, token_of}
use Rattle.tera_spelling.specs.Spelling.{IsName, IsSpelled, spelling, in_quotes}
use Rattle.tera_spelling.proofs.Spaces.{operator_before, operator_no_gap, operator_no_end}
use Rattle.tera_spelling.proofs.Strings.{inside_of, written_is, value_is, inside_fits, inside_known, escapes_are, plain_stays}

pub record HasLexeme (t : Tok) : Type 0 where
  pub lexeme : Lexeme
  pub bytes : spelled lexeme ≡ spelling t
  pub token : token_of lexeme ≡ t
  pub sound : (rest : List ℕ) → IsLexeme lexeme (32 ∷ rest)
  pub no_gap : (rest : List ℕ) → StopsAt is_ascii_whitespace (spelled lexeme ++ 32 ∷ rest)
  pub no_end : (rest : List ℕ) → is_at_end (codes "}}") (spelled lexeme ++ 32 ∷ rest) ≡ false

-- a byte that begins no end of a tag
first_no_end : (b : ℕ) (bs : List ℕ) → 45 ≢ b → 125 ≢ b → is_at_end (codes "}}") (b ∷ bs) ≡ false
first_no_end b bs dash brace = rw (ne_eqb 45 b dash, ne_eqb 125 b brace) refl

-- a byte that passes a test is none that fails it
other_than : (p : ℕ → Bool) (a b : ℕ) → p a ≡ false → p b ≡ true → a ≢ b
other_than p a b fails passes e = let clash : false ≡ true = sym fails ∙ ap p e ∙ passes in cc

name_no_gap : (b : ℕ) → begins_name b ≡ true → is_ascii_whitespace b ≡ false
name_no_gap b h = grind (arith, nat_tests)

digit_no_gap : (b : ℕ) → is_ascii_digit b ≡ true → is_ascii_whitespace b ≡ false
digit_no_gap b h = grind (arith, nat_tests)

name_has : (name : List ℕ) (t : Tok) → IsName name → name_token name ≡ t → spelling t ≡ name → HasLexeme t
name_has [] t is token bytes = absurd is
name_has (b ∷ bs) t is token bytes = record {
  lexeme = Name b bs;
  bytes = sym bytes;
  token = token;
  sound = λ rest. (is.0, (is.1, refl));
  no_gap = λ rest. name_no_gap b is.0;
  no_end = λ rest. first_no_end b (bs ++ 32 ∷ rest) (other_than begins_name 45 b refl is.0) (other_than begins_name 125 b refl is.0);
}

number_has : (n : ℕ) (ds : List ℕ) → decimal n ≡ ds → AllByRecursion (λ d. is_ascii_digit d ≡ true) ds → 0 < length ds → lexeme.decimal ds ≡ n → n < 2 ^ 63 → HasLexeme (Integer (pos n))
number_has n [] written digits some value fits = absurd (omega arith)
number_has n (b ∷ bs) written digits some value fits = record {
  lexeme = Number b bs;
  bytes = sym written;
  token = ap (λ k. Integer (pos k)) value;
  sound = λ rest. ((digits.0, (digits.1, refl)), refl, subst (λ k. k < 2 ^ 63) (sym value) fits);
  no_gap = λ rest. digit_no_gap b digits.0;
  no_end = λ rest. first_no_end b (bs ++ 32 ∷ rest) (other_than is_ascii_digit 45 b refl digits.0) (other_than is_ascii_digit 125 b refl digits.0);
}

numerals : IsNumeralModel (AllByRecursion (λ d. is_ascii_digit d ≡ true)) lexeme.decimal
numerals = numerals_by_fold _ (search rules) decimal_from (search rules)

string_has : (t : Tok) (text : List ℕ) → spelling t ≡ in_quotes text → token_of (Quoted 34 (inside_of text)) ≡ t → HasLexeme t
string_has t text bytes token = record {
  lexeme = Quoted 34 (inside_of text);
  bytes = ap (λ l. 34 ∷ (l ++ 34 ∷ [])) (written_is text) ∙ sym bytes;
  token = token;
  sound = λ rest. ((refl, inside_fits text), inside_known text);
  no_gap = λ rest. refl;
  no_end = λ rest. refl;
}

pub has_lexeme : (t : Tok) → IsSpelled t → HasLexeme t
has_lexeme (Ident name) is = name_has name (Ident name) is.0 is.1 refl
has_lexeme (Str text) is =
    string_has (Str text) text refl (rw (escapes_are text ∙ is) (ap Str (written_is text ∙ plain_stays text is)))
has_lexeme (Escaped text) is =
    string_has (Escaped text) text refl (rw (escapes_are text ∙ is) (ap Escaped (value_is text)))
has_lexeme (Integer n) (k, e, fits) =
    let small : k < 2 ^ 64 = omega arith in
    subst (λ z. HasLexeme (Integer z)) (sym e)
    (number_has k (decimal k) refl (digits_decimal numerals k small) (decimal_nonempty k small) (digits_value-decimal numerals k small) fits)
has_lexeme (Truth true) is = name_has (codes "true") (Truth true) (search rules) refl refl
has_lexeme (Truth false) is = name_has (codes "false") (Truth false) (search rules) refl refl
has_lexeme (Symbol op) is = record {
  lexeme = Operator op;
  bytes = refl;
  token = refl;
  sound = λ rest. operator_before op rest is;
  no_gap = λ rest. operator_no_gap op (32 ∷ rest) is;
  no_end = λ rest. operator_no_end op rest is;
}
has_lexeme _ is = absurd is
