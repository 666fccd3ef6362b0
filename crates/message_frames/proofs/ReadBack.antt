-- What is written is split into what it was written of.
use Rattle.std.proofs.Common.{rules, ◌≡◌, ℕ, zero, suc, ◌<◌, ◌^◌, true, false, eqb, List, [], ◌∷◌, ◌++◌, length, map, codes, refl, sym, ap, ◌∙◌, append_assoc, arith, inl}
use Rattle.std.specs.List.{AllByRecursion, flat_map, list_any}
use Rattle.std.specs.Char.{is_ascii_digit}
use Rattle.std.specs.Str.{all_ascii_digits}
use Rattle.std.specs.Fmt.{decimal}
use Rattle.std.proofs.lemmas.List.{append-nil}
use Rattle.std.proofs.lemmas.Bool.{eq-eqb}
use Rattle.std.proofs.lemmas.Str.Parse.{IsNumeralModel, numerals_by_fold}
use Rattle.std.proofs.lemmas.Fmt.{digits_decimal, digits_value-decimal, decimal_nonempty}
use Rattle.message_frames.specs.Header.{NoneEndsBefore, IsLine, line_end, ended, head_text, IsField, IsNumber, number_after, StatesLength, IsHeader}
use Rattle.message_frames.specs.Stream.{Whole, Begins}
use Rattle.message_frames.specs.Writing.{header_of, frame}
use Rattle.message_frames.proofs.Numbers.{both_true}
use Rattle.message_frames.proofs.FieldLaws.{both_false}

own : IsNumeralModel (λ digits. all_ascii_digits digits ≡ true) (number_after 0)
own = numerals_by_fold _ (search rules) number_after (search rules)

-- ---- no line end is in the line

no_returns : (line : List ℕ) (n : ℕ) → list_any (λ b. eqb b 13) line ≡ false → NoneEndsBefore line n
no_returns [] n h k lt at = omega (arith, at.0)
no_returns (b ∷ line) n h zero lt at = let f = both_false (eqb b 13) (list_any (λ b. eqb b 13) line) h in let is : eqb b 13 ≡ true = eq-eqb b 13 at.0 in absurd cc
no_returns (b ∷ line) n h (suc k) lt at = let f = both_false (eqb b 13) (list_any (λ b. eqb b 13) line) h in no_returns line (suc k) f.1 k (omega arith) at

digit_no_return : (b : ℕ) → is_ascii_digit b ≡ true → eqb b 13 ≡ false
digit_no_return b h = grind arith

no_return_in_digits : (digits : List ℕ) → all_ascii_digits digits ≡ true → list_any (λ b. eqb b 13) digits ≡ false
no_return_in_digits [] h = refl
no_return_in_digits (d ∷ digits) h =
    let t = both_true (is_ascii_digit d) (all_ascii_digits digits) h in
    let here : eqb d 13 ≡ false = digit_no_return d t.0 in
    rw here (no_return_in_digits digits t.1)

-- ---- the header

pub header_stated : (n : ℕ) → n < 2 ^ 64 → IsHeader (header_of n) n
header_stated n lt =
    let text = decimal n in
    let line = codes "Content-Length: " ++ text in
    let digits : all_ascii_digits text ≡ true = digits_decimal own n lt in
    let whole : header_of n ≡ head_text (line ∷ []) =
    sym (append_assoc (codes "Content-Length: ") text (line_end ++ line_end)) ∙ sym (append_assoc line line_end line_end)
    ∙ ap (λ (x : List ℕ). x ++ line_end) (sym (append-nil (ended line))) in
    let number : IsNumber (32 ∷ text) n = record {
      front = 32 ∷ [];
      digits = text;
      back = [];
      whole = ap (λ (x : List ℕ). 32 ∷ x) (sym (append-nil text));
      blank_front = (refl, tt);
      blank_back = tt;
      some = decimal_nonempty n lt;
      decimal = digits;
      is = digits_value-decimal own n lt;
      fits = lt;
    } in
    let field : IsField line (codes "Content-Length") (32 ∷ text) =
    record { whole = refl; named = omega arith; first = refl } in
    let states : StatesLength line n =
    record { name = codes "Content-Length"; value = 32 ∷ text; field = field; names = refl; number = number } in
    let is : IsLine line =
    record { nonempty = omega arith; whole = no_returns line (length line) (no_return_in_digits text digits) } in
    record { lines = line ∷ []; whole = whole; each = (is, tt); once = inl (states, tt) }

-- ---- messages

pub read_back : (messages : List (List ℕ)) → AllByRecursion (λ message. length message < 2 ^ 64) messages
    → Begins (flat_map frame messages) (map Whole messages) []
read_back [] small = refl
read_back (message ∷ messages) small =
    (frame message, flat_map frame messages, refl, (header_of (length message), refl, header_stated (length message) small.0), read_back messages small.1)
