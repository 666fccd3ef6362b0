-- What is at the front of bytes in a tag is found, and only that.
use Rattle.std.proofs.Common.{◌≡◌, ◌≢◌, ℕ, ◌≤◌, ◌^◌, Bool, true, false, List, [], ◌∷◌, ◌++◌, length, drop, Option, Some, None, ⊎_elim, ap, sym, ◌∙◌, refl, subst, arith, append_assoc}
use Rattle.std.specs.Prelude.{nat_lt}
use Rattle.std.specs.Char.{is_ascii_digit}
use Rattle.std.proofs.lemmas.Bool.{cases_Bool, false_from_ne_true}
use Rattle.std.proofs.lemmas.Bool.Decides.{nat_tests, Decides-ltb}
use Rattle.std.proofs.lemmas.List.{drop_at}
use Rattle.tera_lexer.specs.grammar.Marks.{begins}
use Rattle.tera_lexer.specs.grammar.Lexeme.{IsRun, begins_name, goes_on_name, is_quote, Inner, has_unknown_escape, written, quoted, operator_at, decimal, Lexeme, Name, Number, Quoted, Operator, spelled, AreDigits, IsQuoted, IsLexeme, Fault, Unexpected, Unclosed, UnknownEscape, TooGreat, Float, IsFault}
use Rattle.tera_lexer.specs.reading.Front.{Front, Reads, Breaks, run_of, after_run, string_at, string_front, number_front, operator_front, front_of}
use Rattle.tera_lexer.proofs.Runs.{run_sound, run_splits, run_found, after_found}
use Rattle.tera_lexer.proofs.Markers.{begins_splits}
use Rattle.tera_lexer.proofs.Strings.{IsStringAt, string_sound, string_found, unclosed_found}
use Rattle.tera_lexer.proofs.Operators.{operator_sound, digit_no_operator, name_no_operator, quote_no_operator}

-- no byte is at once of two of these classes
digit_no_name : (b : ℕ) → is_ascii_digit b ≡ true → begins_name b ≡ false
digit_no_name b h = grind (arith, nat_tests)

digit_no_quote : (b : ℕ) → is_ascii_digit b ≡ true → is_quote b ≡ false
digit_no_quote b h = grind (arith, nat_tests)

name_no_quote : (b : ℕ) → begins_name b ≡ true → is_quote b ≡ false
name_no_quote b h = grind (arith, nat_tests)

quote_no_escape : (b : ℕ) → is_quote b ≡ true → b ≢ 92
quote_no_escape b h e = grind (arith, nat_tests)

clashes : {A : Type 0} (b : Bool) → b ≡ true → b ≡ false → A
clashes b here other = let clash : true ≡ false = sym here ∙ other in cc

-- what is found is there
abbrev pub IsFront : List ℕ → Front → Type 0
IsFront bytes (Reads l rest) = (bytes ≡ spelled l ++ rest) × IsLexeme l rest
IsFront bytes (Breaks f) = IsFault f bytes

point_after : (rest : List ℕ) → begins (46 ∷ []) rest ≡ true → rest ≡ 46 ∷ drop 1 rest
point_after rest h = begins_splits (46 ∷ []) rest h

number_sound : (b : ℕ) (bs rest : List ℕ) → AreDigits b bs rest → IsFront (b ∷ (bs ++ rest)) (number_front b bs rest)
number_sound b bs rest digits =
    ⊎_elim
    (λ point.
    let following : List ℕ = drop 1 rest in
    let splits : b ∷ (bs ++ rest) ≡ b ∷ (bs ++ 46 ∷ (run_of is_ascii_digit following ++ after_run is_ascii_digit following))
    = ap (λ l. b ∷ (bs ++ l)) (point_after rest point ∙ ap (λ l. 46 ∷ l) (run_splits is_ascii_digit following)) in
    rw point (after_run is_ascii_digit following, splits, digits.0, digits.1.0, run_sound is_ascii_digit following))
    (λ no_point. rw no_point (⊎_elim
    (λ low. rw low (refl, (digits, no_point, (Decides-ltb (decimal (b ∷ bs)) (2 ^ 63)).0 low)))
    (λ high. rw high (rest, refl, digits, no_point, not_below (decimal (b ∷ bs)) (2 ^ 63) high))
    (cases_Bool (nat_lt (decimal (b ∷ bs)) (2 ^ 63)))))
    (cases_Bool (begins (46 ∷ []) rest))
  where
    not_below : (n m : ℕ) → nat_lt n m ≡ false → m ≤ n
    not_below n m h = grind (arith, nat_tests)

string_front_sound : (quote : ℕ) (bytes : List ℕ) (o : Option (List Inner × List ℕ)) → is_quote quote ≡ true → IsStringAt quote bytes o → IsFront (quote ∷ bytes) (string_front quote o)
string_front_sound quote bytes None is_quote unclosed = (bytes, refl, is_quote, unclosed)
string_front_sound quote bytes (Some p) is_quote (e, all) =
    let splits : quote ∷ bytes ≡ quoted quote p.0 ++ p.1 = ap (λ l. quote ∷ l) (e ∙ sym (append_assoc (written p.0) (quote ∷ []) p.1)) in
    ⊎_elim
    (λ escape. rw escape (p.1, splits, (is_quote, all), escape))
    (λ plain. rw plain (splits, ((is_quote, all), plain)))
    (cases_Bool (has_unknown_escape p.0))

operator_front_sound : (b : ℕ) (bs : List ℕ) (o : Option (List ℕ)) → is_ascii_digit b ≡ false → begins_name b ≡ false → is_quote b ≡ false → operator_at (b ∷ bs) ≡ o → IsFront (b ∷ bs) (operator_front (b ∷ bs) o)
operator_front_sound b bs None digit name quote e = (digit, name, quote, e)
operator_front_sound b bs (Some op) digit name quote e =
    let splits = (operator_sound b bs op e).splits in (splits, ap operator_at (sym splits) ∙ e)

pub front_sound : (b : ℕ) (bs : List ℕ) → IsFront (b ∷ bs) (front_of (b ∷ bs))
unfolding front_of
front_sound b bs =
    ⊎_elim
    (λ digit. rw digit (subst (λ l. IsFront (b ∷ l) (number_front b (run_of is_ascii_digit bs) (after_run is_ascii_digit bs))) (sym (run_splits is_ascii_digit bs)) (number_sound b _ _ (digit, run_sound is_ascii_digit bs))))
    (λ no_digit. rw no_digit (⊎_elim
    (λ name. rw name (ap (λ l. b ∷ l) (run_splits goes_on_name bs), (name, run_sound goes_on_name bs)))
    (λ no_name. rw no_name (⊎_elim
    (λ quote. rw quote (string_front_sound b bs (string_at b bs) quote (string_sound b bs)))
    (λ no_quote. rw no_quote (operator_front_sound b bs (operator_at (b ∷ bs)) no_digit no_name no_quote refl))
    (cases_Bool (is_quote b))))
    (cases_Bool (begins_name b))))
    (cases_Bool (is_ascii_digit b))

-- what is there is found
pub front_digit : (b : ℕ) (bs : List ℕ) → is_ascii_digit b ≡ true → front_of (b ∷ bs) ≡ number_front b (run_of is_ascii_digit bs) (after_run is_ascii_digit bs)
unfolding front_of
front_digit b bs digit = rw digit refl

pub front_name : (b : ℕ) (bs : List ℕ) → begins_name b ≡ true → front_of (b ∷ bs) ≡ Reads (Name b (run_of goes_on_name bs)) (after_run goes_on_name bs)
unfolding front_of
front_name b bs name =
    let no_digit = false_from_ne_true (is_ascii_digit b) (λ h. clashes (begins_name b) name (digit_no_name b h)) in
    rw (no_digit, name) refl

digits_front : (b : ℕ) (bs rest : List ℕ) → AreDigits b bs rest → front_of (b ∷ (bs ++ rest)) ≡ number_front b bs rest
digits_front b bs rest digits =
    front_digit b (bs ++ rest) digits.0 ∙ (λ i. number_front b (run_found is_ascii_digit bs rest digits.1 i) (after_found is_ascii_digit bs rest digits.1 i))

pub quote_front : (quote : ℕ) (bytes : List ℕ) → is_quote quote ≡ true → front_of (quote ∷ bytes) ≡ string_front quote (string_at quote bytes)
unfolding front_of
quote_front quote bytes is =
    let no_digit = false_from_ne_true (is_ascii_digit quote) (λ h. clashes (is_quote quote) is (digit_no_quote quote h)) in
    let no_name = false_from_ne_true (begins_name quote) (λ h. clashes (is_quote quote) is (name_no_quote quote h)) in
    rw (no_digit, no_name, is) refl

quoted_front : (quote : ℕ) (is : List Inner) (rest : List ℕ) → IsQuoted quote is → front_of (quoted quote is ++ rest) ≡ string_front quote (Some (is, rest))
quoted_front quote is rest q =
    ap (λ l. front_of (quote ∷ l)) (append_assoc (written is) (quote ∷ []) rest) ∙ quote_front quote (written is ++ quote ∷ rest) q.0
    ∙ ap (string_front quote) (string_found quote is rest (quote_no_escape quote q.0) q.1)

-- a byte that begins an operator, or nothing
pub other_front : (b : ℕ) (bs : List ℕ) → is_ascii_digit b ≡ false → begins_name b ≡ false → is_quote b ≡ false → front_of (b ∷ bs) ≡ operator_front (b ∷ bs) (operator_at (b ∷ bs))
unfolding front_of
other_front b bs digit name quote = rw (digit, name, quote) refl

some_no_none : {A : Type 0} (o : Option (List ℕ)) (op : List ℕ) → o ≡ Some op → o ≡ None → A
some_no_none o op some none = let clash : Some op ≡ None = sym some ∙ none in cc

operator_reads : (bytes op : List ℕ) → operator_at bytes ≡ Some op → front_of bytes ≡ Reads (Operator op) (drop (length op) bytes)
operator_reads [] op e = cc
operator_reads (b ∷ bs) op e =
    let digit = false_from_ne_true (is_ascii_digit b) (λ h. some_no_none _ op e (digit_no_operator b bs h)) in
    let name = false_from_ne_true (begins_name b) (λ h. some_no_none _ op e (name_no_operator b bs h)) in
    let quote = false_from_ne_true (is_quote b) (λ h. some_no_none _ op e (quote_no_operator b bs h)) in
    other_front b bs digit name quote ∙ ap (operator_front (b ∷ bs)) e

pub lexeme_found : (l : Lexeme) (rest : List ℕ) → IsLexeme l rest → front_of (spelled l ++ rest) ≡ Reads l rest
lexeme_found (Name b bs) rest is =
    front_name b (bs ++ rest) is.0 ∙ (λ i. Reads (Name b (run_found goes_on_name bs rest is.1 i)) (after_found goes_on_name bs rest is.1 i))
lexeme_found (Number b bs) rest is =
    digits_front b bs rest is.0 ∙ rw (is.1, (Decides-ltb (decimal (b ∷ bs)) (2 ^ 63)).1 is.2) refl
lexeme_found (Quoted quote is) rest q = quoted_front quote is rest q.0 ∙ rw q.1 refl
lexeme_found (Operator op) rest is = operator_reads (op ++ rest) op is ∙ ap (Reads (Operator op)) (drop_at op rest (length op) refl)

pub fault_found : (f : Fault) (bytes : List ℕ) → IsFault f bytes → front_of bytes ≡ Breaks f
fault_found Unexpected [] here = absurd here
fault_found Unexpected (b ∷ bs) (digit, name, quote, none) = other_front b bs digit name quote ∙ ap (operator_front (b ∷ bs)) none
fault_found (Unclosed quote) bytes (rest, e, is, unclosed) =
    ap front_of e ∙ quote_front quote rest is ∙ ap (string_front quote) (unclosed_found quote rest (quote_no_escape quote is) unclosed)
fault_found (UnknownEscape quote is) bytes (rest, e, q, escape) = ap front_of e ∙ quoted_front quote is rest q ∙ rw escape refl
fault_found (TooGreat b bs) bytes (rest, e, digits, no_point, high) =
    ap front_of e ∙ digits_front b bs rest digits ∙ rw (no_point, not_below (decimal (b ∷ bs)) (2 ^ 63) high) refl
  where
    not_below : (n m : ℕ) → m ≤ n → nat_lt n m ≡ false
    not_below n m h = grind (arith, nat_tests)
fault_found (Float b bs more) bytes (rest, e, digit, all, run) =
    let point : IsRun is_ascii_digit bs (46 ∷ (more ++ rest)) = (all, refl) in
    ap front_of e ∙ digits_front b bs (46 ∷ (more ++ rest)) (digit, point) ∙ ap (λ l. Breaks (Float b bs l)) (run_found is_ascii_digit more rest run)
