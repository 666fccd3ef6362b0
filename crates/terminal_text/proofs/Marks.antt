-- The columns before a mark.
use Rattle.std.proofs.Common.{◌≡◌, ℕ, ◌+◌, ◌-◌, ◌<◌, ◌≤◌, ◌^◌, max, true, nat_lt, nat_le, List, [], ◌∷◌, ◌++◌, length, replicate, codes, chars, decimal, encode_utf8_all, Some, refl, sym, ap, ◌∙◌, arith, append_assoc, length-append}
use Rattle.std.specs.Char.{digit_value, encode_utf8}
use Rattle.std.specs.List.{All}
use Rattle.std.specs.Str.Parse.{AllDigits}
use Rattle.std.proofs.lemmas.Bool.Decides.{nat_tests}
use Rattle.std.proofs.lemmas.Fmt.{decimal_is_IsNumeral}
use Rattle.std.proofs.lemmas.List.{length-replicate}
use Rattle.std.proofs.lemmas.List.Elements.{All-nil, All-cons, All-head, All-tail, All-append, All-replicate, All-weaker}
use Rattle.std.proofs.lemmas.List.Sums.{sum_by-cons}
use Rattle.std.proofs.lemmas.Str.{encodes-append, encodes-IsAscii}
use Rattle.std.proofs.lemmas.Str.Ascii.{IsAscii-from_all}
use Rattle.unicode_width.specs.Width.{char_width}
use Rattle.line_text.proofs.Printable.{IsPlain}
use Rattle.terminal_text.specs.Excerpt.{window_of, shown_before, shown_line, frame, digits_of, excerpt}
use Rattle.terminal_text.specs.Laws.{IsMarkedBelow}
use Rattle.terminal_text.specs.Shown.{width, columns, shown}
use Rattle.terminal_text.specs.declared.excerpt.Marked.{Marked}
use Rattle.terminal_text.specs.declared.style.Part.{Part}
use Rattle.terminal_text.specs.declared.style.Style.TheVariants.{Plain}

-- a character of ASCII that is not a control character takes one column
plain_width : (c : ℕ) → IsPlain c → width c ≡ 1
unfolding char_width
plain_width c is =
    let below : nat_lt c 127 ≡ true = grind (arith, nat_tests) in
    let above : nat_le 32 c ≡ true = grind (arith, nat_tests) in
    rw (below, above) refl

pub plain_columns : (cs : List ℕ) → All IsPlain cs → columns cs ≡ length cs
plain_columns [] all = refl
plain_columns (c ∷ cs) all =
    let more : columns (c ∷ cs) ≡ width c + columns cs = sum_by-cons width c cs in
    omega (arith, more, plain_width c (All-head IsPlain c cs all), plain_columns cs (All-tail IsPlain c cs all))

plain_encoded : (cs : List ℕ) → All IsPlain cs → encode_utf8_all cs ≡ cs
plain_encoded cs all = encodes-IsAscii cs (IsAscii-from_all cs (All-weaker IsPlain (λ c. c < 128) (λ c is. omega (arith, is.high)) cs all))

digit_plain : (c : ℕ) → digit_value c < 10 → IsPlain c
digit_plain c is = record { low = grind (arith, nat_tests); high = grind (arith, nat_tests) }

digits_plain : (ds : List ℕ) → AllDigits 10 ds → All IsPlain ds
digits_plain [] is = All-nil IsPlain
digits_plain (c ∷ cs) is = All-cons IsPlain c cs (digit_plain c is.0) (digits_plain cs is.1)

repeated_plain : (n c : ℕ) → IsPlain c → All IsPlain (replicate n c)
repeated_plain n c is = All-replicate IsPlain n c is

space : IsPlain 32
space = record { low = omega arith; high = omega arith }

caret : IsPlain 94
caret = record { low = omega arith; high = omega arith }

bar : All IsPlain (codes " | ")
bar =
    let line : IsPlain 124 = record { low = omega arith; high = omega arith } in
    All-cons IsPlain 32 (124 ∷ 32 ∷ []) space (All-cons IsPlain 124 (32 ∷ []) line (All-cons IsPlain 32 [] space (All-nil IsPlain)))

frame_plain : (digits : ℕ) (number : List ℕ) → All IsPlain number → All IsPlain (frame digits number)
frame_plain digits number is =
    All-append IsPlain _ (number ++ codes " | ") (repeated_plain _ 32 space) (All-append IsPlain number (codes " | ") is bar)

frame_length : (digits : ℕ) (number : List ℕ) → length (frame digits number) ≡ digits - length number + (length number + 3)
frame_length digits number =
    let spaces : List ℕ = replicate (digits - length number) 32 in
    let first : length (frame digits number) ≡ length spaces + length (number ++ codes " | ") = length-append spaces (number ++ codes " | ") in
    let second : length (number ++ codes " | ") ≡ length number + 3 = length-append number (codes " | ") in
    let third : length spaces ≡ digits - length number = length-replicate (digits - length number) 32 in
    omega (arith, first, second, third)

pub marked_below : (part : Part) (m : Marked) (line : List ℕ) → m.line < 2 ^ 64 → IsMarkedBelow (excerpt Plain part m (Some line)) (window_of (chars line) m)
unfolding encode_utf8
marked_below part m line small =
    let w = window_of (chars line) m in
    let number : List ℕ = decimal m.line in
    let before : List ℕ = frame (digits_of m.line) number in
    let empty : List ℕ = frame (digits_of m.line) [] in
    let spaces : List ℕ = replicate (columns (shown_before w)) 32 in
    let mark : List ℕ = replicate (max (columns (shown w.marked)) 1) 94 in
    let numeral : All IsPlain number = digits_plain number (decimal_is_IsNumeral m.line small).0.1 in
    let before_plain : All IsPlain before = frame_plain (digits_of m.line) number numeral in
    let empty_plain : All IsPlain empty = frame_plain (digits_of m.line) [] (All-nil IsPlain) in
    let spaces_plain : All IsPlain spaces = repeated_plain _ 32 space in
    let mark_plain : All IsPlain mark = repeated_plain _ 94 caret in
    let below_plain : All IsPlain (empty ++ spaces) = All-append IsPlain empty spaces empty_plain spaces_plain in
    let e1 : columns before ≡ length before = plain_columns before before_plain in
    let e2 : columns (empty ++ spaces) ≡ length (empty ++ spaces) = plain_columns (empty ++ spaces) below_plain in
    let e3 : length (empty ++ spaces) ≡ length empty + length spaces = length-append empty spaces in
    let e4 : length spaces ≡ columns (shown_before w) = length-replicate _ 32 in
    let e5 = frame_length (digits_of m.line) number in
    let e6 = frame_length (digits_of m.line) [] in
    let e7 : columns mark ≡ length mark = plain_columns mark mark_plain in
    let e8 : length mark ≡ max (columns (shown w.marked)) 1 = length-replicate _ 94 in
    let enc = encode_utf8_all in
    let last : enc (mark ++ 10 ∷ []) ≡ mark ++ 10 ∷ [] = encodes-append mark (10 ∷ []) ∙ ap (λ l. l ++ 10 ∷ []) (plain_encoded mark mark_plain) in
    let below : enc ((empty ++ spaces) ++ (mark ++ 10 ∷ [])) ≡ empty ++ (spaces ++ (mark ++ 10 ∷ []))
    = encodes-append (empty ++ spaces) (mark ++ 10 ∷ []) ∙ (λ i. plain_encoded (empty ++ spaces) below_plain i ++ last i)
    ∙ append_assoc empty spaces (mark ++ 10 ∷ []) in
    let tail = 10 ∷ ((empty ++ spaces) ++ (mark ++ 10 ∷ [])) in
    let whole : enc (before ++ (shown_line w ++ tail)) ≡ excerpt Plain part m (Some line)
    = encodes-append before (shown_line w ++ tail) ∙ ap (λ l. l ++ enc (shown_line w ++ tail)) (plain_encoded before before_plain)
    ∙ ap (λ l. before ++ l) (encodes-append (shown_line w) tail ∙ ap (λ l. enc (shown_line w) ++ 10 ∷ l) below) in record {
      before = before;
      below = empty ++ spaces;
      mark = mark;
      lines = sym whole;
      place = omega (arith, e1, e2, e3, e4, e5, e6);
      long = e7 ∙ e8;
      carets = All-replicate (λ c. c ≡ 94) _ 94 refl;
    }
