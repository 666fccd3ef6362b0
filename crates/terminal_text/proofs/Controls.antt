-- The control characters of an excerpt.
use Rattle.std.proofs.Common.{◌≡◌, ℕ, ◌+◌, ◌*◌, ◌<◌, ◌≤◌, ◌^◌, Bool, true, false, cond, ◌||◌, ◌==◌, nat_le, nat_lt, List, [], ◌∷◌, ◌++◌, length, replicate, max, get_or, codes, chars, decimal, encode_utf8, encode_utf8_all, Some, refl, sym, ◌∙◌, arith, append-nil}
use Rattle.std.specs.Char.{digit_value}
use Rattle.std.specs.List.{All, count_by, flat_map, list_all}
use Rattle.std.specs.Str.Parse.{AllDigits}
use Rattle.std.proofs.lemmas.Bool.{cond_both, and_parts}
use Rattle.std.proofs.lemmas.Bool.Decides.{nat_tests}
use Rattle.std.proofs.lemmas.Fmt.{decimal_is_IsNumeral}
use Rattle.std.proofs.lemmas.List.Elements.{All-nil, All-cons, All-head, All-tail, All-append, All-replicate, All-from_get_or}
use Rattle.std.proofs.lemmas.List.Sums.{sum_by-cons, sum_by-append}
use Rattle.std.proofs.lemmas.Str.{inside_one}
use Rattle.line_text.specs.Line.{IsSafe, is_unsafe}
use Rattle.terminal_text.specs.Excerpt.{Window, window_of, ellipsis, shown_before, shown_line, frame, digits_of, excerpt}
use Rattle.terminal_text.specs.Laws.{escapes}
use Rattle.terminal_text.specs.Shown.{columns, seen, shown_as, shown}
use Rattle.terminal_text.specs.Styled.{escape, colour, styled}
use Rattle.terminal_text.specs.declared.excerpt.Marked.{Marked}
use Rattle.terminal_text.specs.declared.style.Part.{Part}
use Rattle.terminal_text.specs.declared.style.Part.TheVariants.{Error, Warning, Note, Place, Frame, Gone, New}
use Rattle.terminal_text.specs.declared.style.Style.{Style}
use Rattle.terminal_text.specs.declared.style.Style.TheVariants.{Plain, Coloured}

-- no control character of ASCII
abbrev pub IsHigh : ℕ → Type 0
IsHigh b = 32 ≤ b

-- ---- characters

seen_is : (c : ℕ) → IsSafe (seen c)
seen_is c = cond_both (is_unsafe c) 0xFFFD c IsSafe (λ _. refl) (λ safe. safe)

one_seen : (c : ℕ) → All IsSafe (seen c ∷ [])
one_seen c = All-cons IsSafe (seen c) [] (seen_is c) (All-nil IsSafe)

shown_as_safe : (c : ℕ) → All IsSafe (shown_as c)
shown_as_safe c = cond_both (c == 9) (codes "    ") (seen c ∷ []) (All IsSafe) (λ _. All-replicate IsSafe 4 32 refl) (λ _. one_seen c)

each_safe : (f : ℕ → List ℕ) → ((c : ℕ) → All IsSafe (f c)) → (text : List ℕ) → All IsSafe (flat_map f text)
each_safe f each [] = All-nil IsSafe
each_safe f each (c ∷ cs) = All-append IsSafe (f c) (flat_map f cs) (each c) (each_safe f each cs)

pub shown_safe : (text : List ℕ) → All IsSafe (shown text)
shown_safe text = each_safe shown_as shown_as_safe text

ellipsis_safe : (text : List ℕ) → All IsSafe (ellipsis text)
ellipsis_safe [] = All-nil IsSafe
ellipsis_safe (c ∷ cs) = All-cons IsSafe 0x2026 [] refl (All-nil IsSafe)

line_safe : (w : Window) → All IsSafe (shown_line w)
line_safe w =
    All-append IsSafe (ellipsis w.left_out ++ shown w.before) _ (All-append IsSafe (ellipsis w.left_out) (shown w.before) (ellipsis_safe w.left_out) (shown_safe w.before))
    (All-append IsSafe (shown w.marked) _ (shown_safe w.marked)
    (All-append IsSafe (shown w.following) (ellipsis w.beyond) (shown_safe w.following) (ellipsis_safe w.beyond)))

-- ---- bytes

safe_high : (c : ℕ) → IsSafe c → IsHigh c
safe_high c is = grind (arith, nat_tests, is)

byte_high : (c k : ℕ) → IsHigh c → k < length (encode_utf8 c) → IsHigh (get_or (encode_utf8 c) k 0)
byte_high c k high below =
    let same : get_or (encode_utf8 c) k 0 < 128 → c ≡ get_or (encode_utf8 c) k 0 = inside_one c [] (encode_utf8 c) k (sym (append-nil _)) below in
    grind arith

pub bytes_high : (cs : List ℕ) → All IsSafe cs → All IsHigh (encode_utf8_all cs)
bytes_high [] all = All-nil IsHigh
bytes_high (c ∷ cs) all =
    All-append IsHigh (encode_utf8 c) (encode_utf8_all cs)
    (All-from_get_or IsHigh (encode_utf8 c) 0 (λ k below. byte_high c k (safe_high c (All-head IsSafe c cs all)) below))
    (bytes_high cs (All-tail IsSafe c cs all))

digit_high : (c : ℕ) → digit_value c < 10 → IsHigh c
digit_high c is = grind (arith, nat_tests)

digits_high : (ds : List ℕ) → AllDigits 10 ds → All IsHigh ds
digits_high [] is = All-nil IsHigh
digits_high (c ∷ cs) is = All-cons IsHigh c cs (digit_high c is.0) (digits_high cs is.1)

high_is : (b : ℕ) → nat_le 32 b ≡ true → IsHigh b
high_is b is = grind (arith, nat_tests)

literal_high : (bs : List ℕ) → list_all (nat_le 32) bs ≡ true → All IsHigh bs
literal_high [] is = All-nil IsHigh
literal_high (b ∷ bs) is =
    let parts = and_parts (nat_le 32 b) (list_all (nat_le 32) bs) is in
    All-cons IsHigh b bs (high_is b parts.0) (literal_high bs parts.1)

frame_high : (digits : ℕ) (number : List ℕ) → All IsHigh number → All IsHigh (frame digits number)
frame_high digits number high =
    All-append IsHigh _ (number ++ codes " | ") (All-replicate IsHigh _ 32 (omega arith))
    (All-append IsHigh number (codes " | ") high (literal_high (codes " | ") refl))

-- ---- how many bytes pass a test that none of the others passes

module _ (p : ℕ → Bool) (others : (b : ℕ) → IsHigh b → p b ≡ false) where
  abbrev one : ℕ → ℕ
  one b = cond (p b) 1 0

  none : (bs : List ℕ) → All IsHigh bs → count_by p bs ≡ 0
  none [] all = refl
  none (b ∷ bs) all =
      sum_by-cons one b bs ∙ (λ i. cond (others b (All-head IsHigh b bs all) i) 1 0 + none bs (All-tail IsHigh b bs all) i)

  escape_count : (parameters : List ℕ) → All IsHigh parameters → count_by p (escape parameters) ≡ one 27
  escape_count parameters high =
      let inside = codes "[" ++ (parameters ++ codes "m") in
      let clear : count_by p inside ≡ 0
      = none inside (All-append IsHigh (codes "[") _ (literal_high (codes "[") refl) (All-append IsHigh parameters (codes "m") high (literal_high (codes "m") refl))) in
      let whole : count_by p (27 ∷ inside) ≡ one 27 + count_by p inside = sum_by-cons one 27 inside in
      omega (arith, whole, clear)

  colour_count : (part : Part) → count_by p (colour part) ≡ one 27
  colour_count Error = escape_count (codes "1;31") (literal_high (codes "1;31") refl)
  colour_count Warning = escape_count (codes "1;33") (literal_high (codes "1;33") refl)
  colour_count Note = escape_count (codes "1;36") (literal_high (codes "1;36") refl)
  colour_count Place = escape_count (codes "1") (literal_high (codes "1") refl)
  colour_count Frame = escape_count (codes "34") (literal_high (codes "34") refl)
  colour_count Gone = escape_count (codes "31") (literal_high (codes "31") refl)
  colour_count New = escape_count (codes "32") (literal_high (codes "32") refl)

  abbrev colours : Style → ℕ
  colours Plain = 0
  colours Coloured = one 27 + one 27

  styled_count : (style : Style) (part : Part) (text : List ℕ) → All IsHigh text → count_by p (styled style part text) ≡ colours style
  styled_count Plain part text high = none text high
  styled_count Coloured part text high =
      let end = escape (codes "0") in
      let first : count_by p (colour part ++ (text ++ end)) ≡ count_by p (colour part) + count_by p (text ++ end) = sum_by-append one (colour part) (text ++ end) in
      let second : count_by p (text ++ end) ≡ count_by p text + count_by p end = sum_by-append one text end in
      omega (arith, first, second, colour_count part, none text high, escape_count (codes "0") (literal_high (codes "0") refl))

  pub excerpt_count : (style : Style) (part : Part) (m : Marked) (line : List ℕ) → m.line < 2 ^ 64
      → count_by p (excerpt style part m (Some line)) ≡ 2 * one 10 + 3 * colours style
  excerpt_count style part m line small =
      let w = window_of (chars line) m in
      let first = styled style Frame (frame (digits_of m.line) (decimal m.line)) in
      let second = encode_utf8_all (shown_line w) in
      let third = styled style Frame (frame (digits_of m.line) []) in
      let fourth : List ℕ = replicate (columns (shown_before w)) 32 in
      let fifth : List ℕ = styled style part (replicate (max (columns (shown w.marked)) 1) 94) in
      let end : List ℕ = 10 ∷ [] in
      let e1 : count_by p (first ++ (second ++ (10 ∷ (third ++ (fourth ++ (fifth ++ end)))))) ≡ count_by p first + count_by p (second ++ (10 ∷ (third ++ (fourth ++ (fifth ++ end))))) = sum_by-append one first (second ++ (10 ∷ (third ++ (fourth ++ (fifth ++ end))))) in
      let e2 : count_by p (second ++ (10 ∷ (third ++ (fourth ++ (fifth ++ end))))) ≡ count_by p second + count_by p (10 ∷ (third ++ (fourth ++ (fifth ++ end)))) = sum_by-append one second (10 ∷ (third ++ (fourth ++ (fifth ++ end)))) in
      let e3 : count_by p (10 ∷ (third ++ (fourth ++ (fifth ++ end)))) ≡ one 10 + count_by p (third ++ (fourth ++ (fifth ++ end))) = sum_by-cons one 10 (third ++ (fourth ++ (fifth ++ end))) in
      let e4 : count_by p (third ++ (fourth ++ (fifth ++ end))) ≡ count_by p third + count_by p (fourth ++ (fifth ++ end)) = sum_by-append one third (fourth ++ (fifth ++ end)) in
      let e5 : count_by p (fourth ++ (fifth ++ end)) ≡ count_by p fourth + count_by p (fifth ++ end) = sum_by-append one fourth (fifth ++ end) in
      let e6 : count_by p (fifth ++ end) ≡ count_by p fifth + count_by p end = sum_by-append one fifth end in
      let e7 : count_by p end ≡ one 10 + count_by p [] = sum_by-cons one 10 [] in
      let c1 : count_by p first ≡ colours style = styled_count style Frame _ (frame_high _ _ (digits_high _ (decimal_is_IsNumeral m.line small).0.1)) in
      let c2 : count_by p second ≡ 0 = none second (bytes_high (shown_line w) (line_safe w)) in
      let c3 : count_by p third ≡ colours style = styled_count style Frame _ (frame_high _ [] (All-nil IsHigh)) in
      let c4 : count_by p fourth ≡ 0 = none fourth (All-replicate IsHigh _ 32 (omega arith)) in
      let c5 : count_by p fifth ≡ colours style = styled_count style part (replicate (max (columns (shown w.marked)) 1) 94) (All-replicate IsHigh _ 94 (omega arith)) in
      let c6 : count_by p [] ≡ 0 = refl in
      omega (arith, e1, e2, e3, e4, e5, e6, e7, c1, c2, c3, c4, c5, c6)

is_none : (n : ℕ) → (b : ℕ) → n < 32 → IsHigh b → (b == n) ≡ false
is_none n b low high = grind (arith, nat_tests)

pub feeds : (style : Style) (part : Part) (m : Marked) (line : List ℕ) → m.line < 2 ^ 64 → count_by (λ b. b == 10) (excerpt style part m (Some line)) ≡ 2
feeds Plain part m line small = excerpt_count (λ b. b == 10) (λ b high. is_none 10 b (omega arith) high) Plain part m line small
feeds Coloured part m line small = excerpt_count (λ b. b == 10) (λ b high. is_none 10 b (omega arith) high) Coloured part m line small

pub starts : (style : Style) (part : Part) (m : Marked) (line : List ℕ) → m.line < 2 ^ 64 → count_by (λ b. b == 27) (excerpt style part m (Some line)) ≡ escapes style
starts Plain part m line small = excerpt_count (λ b. b == 27) (λ b high. is_none 27 b (omega arith) high) Plain part m line small
starts Coloured part m line small = excerpt_count (λ b. b == 27) (λ b high. is_none 27 b (omega arith) high) Coloured part m line small

is_low : (b : ℕ) → IsHigh b → nat_lt b 32 ≡ false
is_low b high = grind (arith, nat_tests)

pub controls : (style : Style) (part : Part) (m : Marked) (line : List ℕ) → m.line < 2 ^ 64 → count_by (λ b. nat_lt b 32) (excerpt style part m (Some line)) ≡ 2 + escapes style
controls Plain part m line small = excerpt_count (λ b. nat_lt b 32) is_low Plain part m line small
controls Coloured part m line small = excerpt_count (λ b. nat_lt b 32) is_low Coloured part m line small
