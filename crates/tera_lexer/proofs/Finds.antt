-- What the program finds in a tag is what is there.
use Rattle.std.proofs.Common.{◌≡◌, ◌≢◌, ℕ, zero, suc, ◌+◌, ◌<◌, ◌≤◌, ◌^◌, Bool, true, false, List, [], ◌∷◌, ◌++◌, length, take, drop, get_or, Option, Some, None, ap, sym, ◌∙◌, refl, subst, arith, IsUtf8}
use Rattle.std.specs.Prelude.{nat_lt, ◌==◌, if◌then◌else◌, pos, codes}
use Rattle.std.specs.List.{AllByRecursion, prefix_len, list_any}
use Rattle.std.specs.Char.{is_ascii_digit}
use Rattle.std.specs.Str.{IsCharBoundary}
use Rattle.std.proofs.lemmas.Bool.Decides.{nat_tests, Decides-ltb}
use Rattle.std.proofs.lemmas.List.{length-append, take_at}
use Rattle.std.proofs.lemmas.List.Folds.{length-prefix_len}
use Rattle.tera_lexer.specs.grammar.Marks.{begins}
use Rattle.tera_lexer.specs.grammar.Lexeme.{begins_name, goes_on_name, is_quote, Inner, Plain, Escape, written, has_escape, has_unknown_escape, value_of, quoted, decimal, operator_at, Name, Number, Operator, Quoted, Float, TooGreat, UnknownEscape}
use Rattle.tera_lexer.specs.grammar.Tokens.{Tok, name_token, unclosed}
use Rattle.tera_lexer.specs.grammar.Tokens as toks
use Rattle.tera_lexer.specs.reading.Front.{Front, Reads, Breaks, run_of, after_run, number_front, string_front, operator_front, front_of, string_at, closing_at, unknown_in}
use Rattle.tera_lexer.proofs.Escapes.{unknown_written}
use Rattle.tera_lexer.specs.code.Found.{BeginsBy, IsOperatorOf, IsTokenAt, IsPlainAt, IsEscapedAt, IsFaultAt, IsFound, found_len}
use Rattle.tera_lexer.specs.code.Counting.{ArePrintable}
use Rattle.tera_lexer.specs.code.Seen.{seen}
use Rattle.tera_lexer.specs.declared.lexer.tokens.Token.{Token}
use Rattle.tera_lexer.specs.declared.lexer.lexeme.Found.{Found}
use Rattle.tera_lexer.specs.declared.lexer.lexeme.Found.TheVariants as found
use Rattle.tera_lexer.proofs.Closings.{IsInsideOf, inside_closes, nothing_closes, escape_written}
use Rattle.tera_lexer.proofs.Cuts.{cut_before_byte, digit_ascii, name_ascii, quote_ascii, all_weaker, front_len, front_cut}
use Rattle.tera_lexer.proofs.Operators.{Printable, operator_printable}
use Rattle.tera_lexer.proofs.Runs.{run_grows, run_sound}
use Rattle.tera_lexer.proofs.Fronts.{front_digit, front_name, quote_front, other_front, IsFront, front_sound}

not_below : (n m : ℕ) → m ≤ n → nat_lt n m ≡ false
not_below n m h = grind (arith, nat_tests)

begins_goes_on : (b : ℕ) → begins_name b ≡ true → goes_on_name b ≡ true
begins_goes_on b h = grind (arith, nat_tests)

-- a run that the first byte begins
module _ (p : ℕ → Bool) (b : ℕ) (bs : List ℕ) (first : p b ≡ true) where
  pub run_whole : run_of p (b ∷ bs) ≡ b ∷ run_of p bs
  run_whole = ap (λ n. take n (b ∷ bs)) (run_grows p b bs first)

  pub after_whole : after_run p (b ∷ bs) ≡ after_run p bs
  after_whole = ap (λ n. drop n (b ∷ bs)) (run_grows p b bs first)

  pub length_whole : prefix_len p (b ∷ bs) ≡ length (b ∷ run_of p bs)
  length_whole = run_grows p b bs first ∙ ap suc (sym (length-prefix_len p bs))

pub name_is_found : (bytes : List ℕ) (token : Tok) → BeginsBy begins_name bytes → token ≡ name_token (run_of goes_on_name bytes) → IsPlainAt token (prefix_len goes_on_name bytes) (front_of bytes)
name_is_found [] token name is = absurd name
name_is_found (b ∷ bs) token name is =
    let goes_on = begins_goes_on b name in
    subst (IsPlainAt token (prefix_len goes_on_name (b ∷ bs))) (sym (front_name b bs name)) ((is ∙ ap name_token (run_whole goes_on_name b bs goes_on), length_whole goes_on_name b bs goes_on), refl)

-- digits are found as such
number_is : (b : ℕ) (bs : List ℕ) → is_ascii_digit b ≡ true → front_of (b ∷ bs) ≡ number_front b (run_of is_ascii_digit bs) (after_run is_ascii_digit (b ∷ bs))
number_is b bs digit = front_digit b bs digit ∙ ap (number_front b (run_of is_ascii_digit bs)) (sym (after_whole is_ascii_digit b bs digit))

-- and what the tests say of them
module _ (b : ℕ) (bs rest : List ℕ) where
  float_front : begins (46 ∷ []) rest ≡ true → number_front b bs rest ≡ Breaks (Float b bs (run_of is_ascii_digit (drop 1 rest)))
  float_front point = rw point refl

  integer_front : begins (46 ∷ []) rest ≡ false → decimal (b ∷ bs) < 2 ^ 63 → number_front b bs rest ≡ Reads (Number b bs) rest
  integer_front no_point low = rw (no_point, (Decides-ltb (decimal (b ∷ bs)) (2 ^ 63)).1 low) refl

  great_front : begins (46 ∷ []) rest ≡ false → 2 ^ 63 ≤ decimal (b ∷ bs) → number_front b bs rest ≡ Breaks (TooGreat b bs)
  great_front no_point high = rw (no_point, not_below (decimal (b ∷ bs)) (2 ^ 63) high) refl

pub float_is_found : (bytes : List ℕ) (n : ℕ) → BeginsBy is_ascii_digit bytes → begins (46 ∷ []) (after_run is_ascii_digit bytes) ≡ true
    → n ≡ prefix_len is_ascii_digit bytes + 1 + prefix_len is_ascii_digit (drop 1 (after_run is_ascii_digit bytes)) → IsFaultAt (codes "Float literals are not supported") n (front_of bytes)
float_is_found [] n digit point len = absurd digit
float_is_found (b ∷ bs) n digit point len =
    let whole = length_whole is_ascii_digit b bs digit in
    let following : List ℕ = drop 1 (after_run is_ascii_digit (b ∷ bs)) in
    let more_len = length-prefix_len is_ascii_digit following in
    subst (IsFaultAt (codes "Float literals are not supported") n) (sym (number_is b bs digit ∙ float_front b (run_of is_ascii_digit bs) (after_run is_ascii_digit (b ∷ bs)) point)) (refl, omega (arith, length-append (run_of is_ascii_digit bs) (46 ∷ run_of is_ascii_digit following)))

pub integer_is_found : (bytes : List ℕ) (token : Tok) → BeginsBy is_ascii_digit bytes → begins (46 ∷ []) (after_run is_ascii_digit bytes) ≡ false
    → decimal (run_of is_ascii_digit bytes) < 2 ^ 63 → token ≡ toks.Integer (pos (decimal (run_of is_ascii_digit bytes))) → IsPlainAt token (prefix_len is_ascii_digit bytes) (front_of bytes)
integer_is_found [] token digit no_point low is = absurd digit
integer_is_found (b ∷ bs) token digit no_point low is =
    let whole = run_whole is_ascii_digit b bs digit in
    subst (IsPlainAt token (prefix_len is_ascii_digit (b ∷ bs)))
    (sym (number_is b bs digit ∙ integer_front b (run_of is_ascii_digit bs) (after_run is_ascii_digit (b ∷ bs)) no_point (subst (λ l. decimal l < 2 ^ 63) whole low))) ((is ∙ ap (λ l. toks.Integer (pos (decimal l))) whole, length_whole is_ascii_digit b bs digit), refl)

pub great_is_found : (bytes : List ℕ) (n : ℕ) → BeginsBy is_ascii_digit bytes → begins (46 ∷ []) (after_run is_ascii_digit bytes) ≡ false
    → 2 ^ 63 ≤ decimal (run_of is_ascii_digit bytes) → n ≡ prefix_len is_ascii_digit bytes → IsFaultAt (codes "Invalid Integer") n (front_of bytes)
great_is_found [] n digit no_point high len = absurd digit
great_is_found (b ∷ bs) n digit no_point high len =
    let whole = run_whole is_ascii_digit b bs digit in
    subst (IsFaultAt (codes "Invalid Integer") n)
    (sym (number_is b bs digit ∙ great_front b (run_of is_ascii_digit bs) (after_run is_ascii_digit (b ∷ bs)) no_point (subst (λ l. 2 ^ 63 ≤ decimal l) whole high))) (refl, len ∙ length_whole is_ascii_digit b bs digit)

-- what is parsed are digits
pub digits_parsed : (bytes : List ℕ) → BeginsBy is_ascii_digit bytes → (0 < length (run_of is_ascii_digit bytes)) × AllByRecursion (λ d. is_ascii_digit d ≡ true) (run_of is_ascii_digit bytes)
digits_parsed [] digit = absurd digit
digits_parsed (b ∷ bs) digit = (omega (arith, ap length (run_whole is_ascii_digit b bs digit)), (run_sound is_ascii_digit (b ∷ bs)).0)

quote_no_escape : (b : ℕ) → is_quote b ≡ true → b ≢ 92
quote_no_escape b h e = grind (arith, nat_tests)

-- no escape is unknown where there is none
none_unknown : (is : List Inner) → has_escape is ≡ false → has_unknown_escape is ≡ false
none_unknown [] none = refl
none_unknown (Plain b ∷ is) none = none_unknown is none
none_unknown (Escape b ∷ is) none = cc

-- strings are found as such
module _ (quote : ℕ) (bytes following : List ℕ) (e : bytes ≡ quote ∷ following) (is : is_quote quote ≡ true) where
  front_quote : front_of bytes ≡ string_front quote (string_at quote following)
  front_quote = ap front_of e ∙ quote_front quote following is

  pub unclosed_is_found : None ≡ closing_at quote false following → IsFaultAt (unclosed quote) 0 (front_of bytes)
  unclosed_is_found none =
      subst (IsFaultAt (unclosed quote) 0) (sym (front_quote ∙ ap (string_front quote) (nothing_closes quote following (quote_no_escape quote is) none))) (refl, refl)

  pub inside_is_found : (n : ℕ) → Some n ≡ closing_at quote false following → IsInsideOf quote n following
  inside_is_found n some = inside_closes quote n following (quote_no_escape quote is) some

  module _ (n : ℕ) (inside : IsInsideOf quote n following) where
    front_string : (unknown : Bool) → has_unknown_escape inside.inner ≡ unknown → front_of bytes ≡ (if unknown then Breaks (UnknownEscape quote inside.inner) else Reads (Quoted quote inside.inner) inside.rest)
    front_string unknown has = front_quote ∙ ap (string_front quote) inside.found ∙ rw has refl

    string_len : n + 2 ≡ length (quoted quote inside.inner)
    string_len = omega (arith, inside.len, length-append (written inside.inner) (quote ∷ []))

    pub inside_text : take n following ≡ written inside.inner
    inside_text = ap (take n) inside.splits ∙ take_at (written inside.inner) (quote ∷ inside.rest) n (sym inside.len)

    pub inside_cut : IsCharBoundary following n
    inside_cut = subst (IsCharBoundary following) (sym inside.len) (cut_before_byte following (written inside.inner) inside.rest quote inside.splits (quote_ascii quote is))

    has_is : list_any (λ b. b == 92) (take n following) ≡ has_escape inside.inner
    has_is = ap (list_any (λ b. b == 92)) inside_text ∙ escape_written quote inside.inner inside.all

    unknown_is : unknown_in false (take n following) ≡ has_unknown_escape inside.inner
    unknown_is = ap (unknown_in false) inside_text ∙ unknown_written quote inside.inner inside.all

    pub unknown_is_found : unknown_in false (take n following) ≡ true → IsFaultAt (codes "unexpected escape character") (n + 2) (front_of bytes)
    unknown_is_found unknown = subst (IsFaultAt (codes "unexpected escape character") (n + 2)) (sym (front_string true (sym unknown_is ∙ unknown))) (refl, string_len)

    pub escaped_is_found : list_any (λ b. b == 92) (take n following) ≡ true → unknown_in false (take n following) ≡ false → IsEscapedAt (take n following) (n + 2) (front_of bytes)
    escaped_is_found escape known =
        subst (IsEscapedAt (take n following) (n + 2)) (sym (front_string false (sym unknown_is ∙ known))) (inside_text, sym has_is ∙ escape, string_len)

    pub plain_is_found : list_any (λ b. b == 92) (take n following) ≡ false → IsTokenAt (toks.Str (take n following)) (n + 2) (front_of bytes)
    plain_is_found plain =
        let no_escape : has_escape inside.inner ≡ false = sym has_is ∙ plain in
        let text : toks.Str (take n following) ≡ (if has_escape inside.inner then toks.Escaped (value_of inside.inner) else toks.Str (written inside.inner)) = rw no_escape (ap toks.Str inside_text) in
        subst (IsTokenAt (toks.Str (take n following)) (n + 2)) (sym (front_string false (none_unknown inside.inner no_escape))) (text, string_len)

other_at : (bytes : List ℕ) → 0 < length bytes → is_ascii_digit (get_or bytes 0 0) ≡ false → begins_name (get_or bytes 0 0) ≡ false → is_quote (get_or bytes 0 0) ≡ false → front_of bytes ≡ operator_front bytes (operator_at bytes)
other_at [] some digit name quote = absurd (omega arith)
other_at (b ∷ bs) some digit name quote = other_front b bs digit name quote

-- the first byte and the others
pub first_and_others : (p : ℕ → Bool) (bytes : List ℕ) → BeginsBy p bytes → (bytes ≡ get_or bytes 0 0 ∷ drop 1 bytes) × (p (get_or bytes 0 0) ≡ true)
first_and_others p [] first = absurd first
first_and_others p (b ∷ bs) first = (refl, first)

-- an operator or nothing is found where no other class begins
module _ (bytes : List ℕ) (some : 0 < length bytes) (digit : is_ascii_digit (get_or bytes 0 0) ≡ false) (name : begins_name (get_or bytes 0 0) ≡ false) (quote : is_quote (get_or bytes 0 0) ≡ false) where
  front_other : front_of bytes ≡ operator_front bytes (operator_at bytes)
  front_other = other_at bytes some digit name quote

  pub operator_is_found : (p : Token × ℕ) → IsOperatorOf (Some p) (operator_at bytes) → IsPlainAt (seen p.0) p.1 (front_of bytes)
  operator_is_found p is = subst (IsPlainAt (seen p.0) p.1) (sym front_other) (by (operator_at bytes) is)
    where
      by : (o : Option (List ℕ)) → IsOperatorOf (Some p) o → IsPlainAt (seen p.0) p.1 (operator_front bytes o)
      by None is = absurd is
      by (Some op) is = (is, refl)

  pub nothing_is_found : IsOperatorOf None (operator_at bytes) → IsFaultAt (codes "Unexpected character") 0 (front_of bytes)
  nothing_is_found is = subst (IsFaultAt (codes "Unexpected character") 0) (sym front_other) (by (operator_at bytes) is)
    where
      by : (o : Option (List ℕ)) → IsOperatorOf None o → IsFaultAt (codes "Unexpected character") 0 (operator_front bytes o)
      by None is = (refl, refl)
      by (Some op) is = absurd is

-- the length of what is found is that of what is there
escaped_length : (inside : List ℕ) (n : ℕ) (front : Front) → IsEscapedAt inside n front → front_len front ≡ n
escaped_length inside n (Reads (Name b bs) rest) is = absurd is
escaped_length inside n (Reads (Number b bs) rest) is = absurd is
escaped_length inside n (Reads (Operator op) rest) is = absurd is
escaped_length inside n (Reads (Quoted quote inner) rest) is = sym is.2
escaped_length inside n (Breaks f) is = absurd is

pub found_length : (f : Found) (front : Front) → IsFound f front → front_len front ≡ found_len f
found_length (found.Lexeme token n) (Reads l rest) is = sym is.0.1
found_length (found.Lexeme token n) (Breaks f) is = absurd is.0
found_length (found.Text inside n) (Reads l rest) is = sym is.1
found_length (found.Text inside n) (Breaks f) is = absurd is
found_length (found.Escaped inside n) front is = escaped_length inside.now n front is
found_length (found.Fault fault) (Reads l rest) is = absurd is
found_length (found.Fault fault) (Breaks f) is = sym is.1

pub found_cut : (bytes : List ℕ) (f : Found) → IsUtf8 bytes → 0 < length bytes → IsFound f (front_of bytes) → IsCharBoundary bytes (found_len f)
found_cut [] f utf8 some is = absurd (omega arith)
found_cut (b ∷ bs) f utf8 some is =
    subst (IsCharBoundary (b ∷ bs)) (found_length f (front_of (b ∷ bs)) is) (front_cut (b ∷ bs) (front_of (b ∷ bs)) utf8 (front_sound b bs))

-- what is at the front of some bytes
pub front_here : (bytes : List ℕ) → 0 < length bytes → IsFront bytes (front_of bytes)
front_here [] some = absurd (omega arith)
front_here (b ∷ bs) some = front_sound b bs

-- the bytes of a lexeme that is not a string are printable
digit_printable : (b : ℕ) → is_ascii_digit b ≡ true → Printable b
digit_printable b h = (grind (arith, nat_tests), digit_ascii b h)

name_printable : (b : ℕ) → goes_on_name b ≡ true → Printable b
name_printable b h = (grind (arith, nat_tests), name_ascii b h)

each_printable : (bytes : List ℕ) → AllByRecursion Printable bytes → ArePrintable bytes
each_printable [] all k lt = absurd (omega arith)
each_printable (b ∷ bs) all zero lt = all.0
each_printable (b ∷ bs) all (suc k) lt = each_printable bs all.1 k (omega arith)

first_printable : (bytes front rest : List ℕ) (n : ℕ) → bytes ≡ front ++ rest → n ≡ length front → AllByRecursion Printable front → ArePrintable (take n bytes)
first_printable bytes front rest n e len all = subst ArePrintable (sym (ap (take n) e ∙ take_at front rest n (sym len))) (each_printable front all)

pub plain_printable : (bytes : List ℕ) (token : Tok) (n : ℕ) (front : Front) → IsFront bytes front → IsPlainAt token n front → ArePrintable (take n bytes)
plain_printable bytes token n (Reads (Name b bs) rest) (e, is) found =
    first_printable bytes (b ∷ bs) rest n e found.0.1 (name_printable b (begins_goes_on b is.0), all_weaker (λ c. goes_on_name c ≡ true) Printable bs name_printable is.1.0)
plain_printable bytes token n (Reads (Number b bs) rest) (e, is) found =
    first_printable bytes (b ∷ bs) rest n e found.0.1 (digit_printable b is.0.0, all_weaker (λ c. is_ascii_digit c ≡ true) Printable bs digit_printable is.0.1.0)
plain_printable bytes token n (Reads (Operator op) rest) (e, is) found = first_printable bytes op rest n e found.0.1 (operator_printable (op ++ rest) op is)
plain_printable bytes token n (Reads (Quoted quote is) rest) here found = let clash : true ≡ false = found.1 in cc
plain_printable bytes token n (Breaks f) here found = absurd found.0

-- in a string with escapes that is found none is unknown
pub escaped_known : (bytes inside : List ℕ) (n : ℕ) (front : Front) → IsFront bytes front → IsEscapedAt inside n front → unknown_in false inside ≡ false
escaped_known bytes inside n (Reads (Quoted quote is) rest) sound (inside_is, escape, len) = ap (unknown_in false) inside_is ∙ unknown_written quote is sound.1.0.1 ∙ sound.1.1
escaped_known bytes inside n (Reads (Name b bs) rest) sound found = absurd found
escaped_known bytes inside n (Reads (Number b bs) rest) sound found = absurd found
escaped_known bytes inside n (Reads (Operator op) rest) sound found = absurd found
escaped_known bytes inside n (Breaks f) sound found = absurd found
