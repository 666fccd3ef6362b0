-- Where a text may be cut.
use Rattle.std.proofs.Common.{◌≡◌, ℕ, zero, suc, ◌+◌, ◌<◌, ◌≤◌, Bool, true, false, List, [], ◌∷◌, ◌++◌, length, take, get_or, subst, sym, refl, ap, ◌∙◌, arith, append_assoc, IsUtf8}
use Rattle.std.specs.List.{AllByRecursion, prefix_len}
use Rattle.std.specs.Str.{IsCharBoundary, IsAscii}
use Rattle.std.specs.Char.{is_ascii_digit, is_ascii_whitespace}
use Rattle.std.proofs.lemmas.Bool.Decides.{nat_tests}
use Rattle.std.proofs.lemmas.List.{take_at, length-append, get_or_at}
use Rattle.std.proofs.lemmas.List.Folds.{length-prefix_len}
use Rattle.std.proofs.lemmas.Str.{IsUtf8-from_ascii, IsCharBoundary-from_take, IsCharBoundary-after_ascii, IsCharBoundary-before_ascii}
use Rattle.tera_lexer.specs.grammar.Marks.{dash_bytes}
use Rattle.tera_lexer.specs.grammar.Lexeme.{begins_name, goes_on_name, is_quote, Inner, written, quoted, Name, Number, Quoted, Operator, spelled, Unexpected, Unclosed, UnknownEscape, TooGreat, Float, reported}
use Rattle.tera_lexer.specs.reading.Front.{Front, Reads, Breaks, run_of, after_run}
use Rattle.tera_lexer.proofs.Runs.{run_sound, run_splits}
use Rattle.tera_lexer.proofs.Operators.{Printable, operator_printable}
use Rattle.tera_lexer.proofs.Fronts.{IsFront}

pub digit_ascii : (b : ℕ) → is_ascii_digit b ≡ true → b < 128
digit_ascii b h = grind (arith, nat_tests)

pub space_ascii : (b : ℕ) → is_ascii_whitespace b ≡ true → b < 128
space_ascii b h = grind (arith, nat_tests)

pub name_ascii : (b : ℕ) → goes_on_name b ≡ true → b < 128
name_ascii b h = grind (arith, nat_tests)

begin_ascii : (b : ℕ) → begins_name b ≡ true → b < 128
begin_ascii b h = grind (arith, nat_tests)

pub quote_ascii : (b : ℕ) → is_quote b ≡ true → b < 128
quote_ascii b h = grind (arith, nat_tests)

pub all_weaker : (P Q : ℕ → Type 0) (xs : List ℕ) → ((x : ℕ) → P x → Q x) → AllByRecursion P xs → AllByRecursion Q xs
all_weaker P Q [] f all = tt
all_weaker P Q (x ∷ xs) f all = (f x all.0, all_weaker P Q xs f all.1)

pub all_append : (P : ℕ → Type 0) (xs ys : List ℕ) → AllByRecursion P xs → AllByRecursion P ys → AllByRecursion P (xs ++ ys)
all_append P [] ys all all' = all'
all_append P (x ∷ xs) ys all all' = (all.0, all_append P xs ys all.1 all')

ascii_from_all : (xs : List ℕ) → AllByRecursion (λ b. b < 128) xs → IsAscii xs
ascii_from_all [] all i = omega arith
ascii_from_all (x ∷ xs) all zero = all.0
ascii_from_all (x ∷ xs) all (suc i) = ascii_from_all xs all.1 i

pub ascii_text : (xs : List ℕ) → AllByRecursion (λ b. b < 128) xs → IsUtf8 xs
ascii_text xs all = IsUtf8-from_ascii xs (ascii_from_all xs all)

-- a dash is ASCII
pub dash_ascii : (dash : Bool) → AllByRecursion (λ b. b < 128) (dash_bytes dash)
dash_ascii true = (omega arith, tt)
dash_ascii false = tt

-- a text may be cut after ASCII
pub cut_after_ascii : (bytes front rest : List ℕ) → IsUtf8 bytes → bytes ≡ front ++ rest → AllByRecursion (λ b. b < 128) front → IsCharBoundary bytes (length front)
cut_after_ascii bytes front rest utf8 e all =
    let fits : length front ≤ length bytes = omega (arith, ap length e, length-append front rest) in
    let cut : take (length front) bytes ≡ front = ap (take (length front)) e ∙ take_at front rest (length front) refl in
    IsCharBoundary-from_take bytes (length front) utf8 fits (subst IsUtf8 (sym cut) (ascii_text front all))

-- after a run of ASCII
pub run_cut : (p : ℕ → Bool) (bytes : List ℕ) → IsUtf8 bytes → ((b : ℕ) → p b ≡ true → b < 128) → IsCharBoundary bytes (prefix_len p bytes)
run_cut p bytes utf8 ascii =
    subst (IsCharBoundary bytes) (length-prefix_len p bytes)
    (cut_after_ascii bytes (run_of p bytes) (after_run p bytes) utf8 (run_splits p bytes) (all_weaker (λ b. p b ≡ true) (λ b. b < 128) (run_of p bytes) ascii (run_sound p bytes).0))

-- directly after one ASCII byte, and before it
pub cut_after_byte : (bytes front rest : List ℕ) (b : ℕ) → IsUtf8 bytes → bytes ≡ front ++ b ∷ rest → b < 128 → IsCharBoundary bytes (length front + 1)
cut_after_byte bytes front rest b utf8 e ascii =
    let read : get_or bytes (length front) 0 ≡ b = ap (λ l. get_or l (length front) 0) e ∙ get_or_at front b rest 0 (length front) refl in
    let lt : length front < length bytes = omega (arith, ap length e, length-append front (b ∷ rest)) in
    IsCharBoundary-after_ascii bytes (length front) utf8 lt (omega arith)

pub cut_before_byte : (bytes front rest : List ℕ) (b : ℕ) → bytes ≡ front ++ b ∷ rest → b < 128 → IsCharBoundary bytes (length front)
cut_before_byte bytes front rest b e ascii =
    let read : get_or bytes (length front) 0 ≡ b = ap (λ l. get_or l (length front) 0) e ∙ get_or_at front b rest 0 (length front) refl in
    let lt : length front < length bytes = omega (arith, ap length e, length-append front (b ∷ rest)) in
    IsCharBoundary-before_ascii bytes (length front) lt (omega arith)

-- after what is at the front of bytes in a tag
abbrev pub front_len : Front → ℕ
front_len (Reads l rest) = length (spelled l)
front_len (Breaks f) = length (reported f)

string_cut : (quote : ℕ) (is : List Inner) (rest bytes : List ℕ) → IsUtf8 bytes → is_quote quote ≡ true → bytes ≡ quoted quote is ++ rest → IsCharBoundary bytes (length (quoted quote is))
string_cut quote is rest bytes utf8 q e =
    subst (IsCharBoundary bytes) (omega (arith, length-append (written is) (quote ∷ [])))
    (cut_after_byte bytes (quote ∷ written is) rest quote utf8 (e ∙ ap (λ l. quote ∷ l) (append_assoc (written is) (quote ∷ []) rest)) (quote_ascii quote q))

none_cut : (bytes : List ℕ) → IsUtf8 bytes → IsCharBoundary bytes 0
none_cut bytes utf8 = cut_after_ascii bytes [] bytes utf8 refl tt

digits_ascii : (bs : List ℕ) → AllByRecursion (λ d. is_ascii_digit d ≡ true) bs → AllByRecursion (λ d. d < 128) bs
digits_ascii bs all = all_weaker (λ d. is_ascii_digit d ≡ true) (λ d. d < 128) bs digit_ascii all

pub front_cut : (bytes : List ℕ) (front : Front) → IsUtf8 bytes → IsFront bytes front → IsCharBoundary bytes (front_len front)
front_cut bytes (Reads (Name b bs) rest) utf8 (e, is) =
    cut_after_ascii bytes (b ∷ bs) rest utf8 e (begin_ascii b is.0, all_weaker (λ c. goes_on_name c ≡ true) (λ c. c < 128) bs name_ascii is.1.0)
front_cut bytes (Reads (Number b bs) rest) utf8 (e, is) = cut_after_ascii bytes (b ∷ bs) rest utf8 e (digit_ascii b is.0.0, digits_ascii bs is.0.1.0)
front_cut bytes (Reads (Quoted quote is) rest) utf8 (e, q) = string_cut quote is rest bytes utf8 q.0.0 e
front_cut bytes (Reads (Operator op) rest) utf8 (e, is) =
    cut_after_ascii bytes op rest utf8 e (all_weaker Printable (λ b. b < 128) op (λ b plain. plain.1) (operator_printable (op ++ rest) op is))
front_cut bytes (Breaks Unexpected) utf8 here = none_cut bytes utf8
front_cut bytes (Breaks (Unclosed quote)) utf8 here = none_cut bytes utf8
front_cut bytes (Breaks (UnknownEscape quote is)) utf8 (rest, e, q, escape) = string_cut quote is rest bytes utf8 q.0 e
front_cut bytes (Breaks (TooGreat b bs)) utf8 (rest, e, digits, no_point, high) = cut_after_ascii bytes (b ∷ bs) rest utf8 e (digit_ascii b digits.0, digits_ascii bs digits.1.0)
front_cut bytes (Breaks (Float b bs more)) utf8 (rest, e, digit, all, run) =
    let regrouped : bytes ≡ (b ∷ (bs ++ 46 ∷ more)) ++ rest = e ∙ ap (λ l. b ∷ l) (sym (append_assoc bs (46 ∷ more) rest)) in
    cut_after_ascii bytes (b ∷ (bs ++ 46 ∷ more)) rest utf8 regrouped (digit_ascii b digit, all_append (λ d. d < 128) bs (46 ∷ more) (digits_ascii bs all) (omega arith, digits_ascii more run.0))
