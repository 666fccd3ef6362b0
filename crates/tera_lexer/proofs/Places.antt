-- The counters of the program are those of the place.
use Rattle.std.proofs.Common.{◌≡◌, ℕ, suc, ◌+◌, ◌-◌, ◌<◌, ◌≤◌, Bool, true, false, cond, List, [], ◌∷◌, ◌++◌, length, take, drop, get_or, subst, ⊎_elim, inl, inr, sym, refl, ap, ◌∙◌, append_assoc, arith}
use Rattle.std.specs.Prelude.{count_by, ◌⊎◌, not, if◌then◌else◌}
use Rattle.std.specs.List.{after_last, suffix_len}
use Rattle.std.specs.Str.{IsCharBoundary}
use Rattle.std.proofs.lemmas.List.{append-nil, drop_all, drop-append-le, length-append, length-drop, reverse-append, take-append-drop, take_at, take_more, drop-drop, get_or-drop, length-take-le, length-take}
use Rattle.std.proofs.lemmas.List.Sums.{count_by-le-length, suffix_len-le-length, sum_by-cons, sum_by_push}
use Rattle.std.proofs.lemmas.Bool.{eqb-true}
use Rattle.std.proofs.lemmas.Bool.Decides.{nat_tests}
use Rattle.std.proofs.lemmas.Str.{IsCharBoundary-from_rest}
use Rattle.tera_lexer.specs.grammar.Place.{is_line_feed, begins_character, place_after, span_of, IsWithin}
use Rattle.tera_lexer.specs.code.Counting.{ArePrintable, stepped, moved}
use Rattle.tera_lexer.specs.declared.lexer.place.Place.{Place}

is_either : (v : Bool) → (v ≡ true) ⊎ (v ≡ false)
is_either true = inl refl
is_either false = inr refl

count_push : (p : ℕ → Bool) (xs : List ℕ) (x : ℕ) → count_by p (xs ++ x ∷ []) ≡ count_by p xs + cond (p x) 1 0
count_push p xs x = sum_by_push (λ b. cond (p b) 1 0) xs x

-- what comes after the last byte that passes, with one more byte at the end
last_push_here : (p : ℕ → Bool) (xs : List ℕ) (x : ℕ) → p x ≡ true → after_last p (xs ++ x ∷ []) ≡ []
last_push_here p xs x here =
    let back : suffix_len (λ b. not (p b)) (xs ++ x ∷ []) ≡ 0 = rw (reverse-append xs (x ∷ []), here) refl in
    drop_all _ (xs ++ x ∷ []) (omega arith)

last_push_on : (p : ℕ → Bool) (xs : List ℕ) (x : ℕ) → p x ≡ false → after_last p (xs ++ x ∷ []) ≡ after_last p xs ++ x ∷ []
last_push_on p xs x other =
    let q : ℕ → Bool = λ b. not (p b) in
    let back : suffix_len q (xs ++ x ∷ []) ≡ 1 + suffix_len q xs = rw (reverse-append xs (x ∷ []), other) refl in
    let len : length (xs ++ x ∷ []) ≡ length xs + 1 = length-append xs (x ∷ []) in
    let from : length (xs ++ x ∷ []) - suffix_len q (xs ++ x ∷ []) ≡ length xs - suffix_len q xs = omega (arith, suffix_len-le-length q xs) in
    ap (λ n. drop n (xs ++ x ∷ [])) from ∙ drop-append-le (length xs - suffix_len q xs) xs (x ∷ []) (omega arith)

-- the column, one byte further
column_of : List ℕ → ℕ
column_of front = count_by begins_character (after_last is_line_feed front)

column_push_here : (front : List ℕ) (b : ℕ) → is_line_feed b ≡ true → column_of (front ++ b ∷ []) ≡ 0
unfolding column_of
column_push_here front b here = ap (count_by begins_character) (last_push_here is_line_feed front b here)

column_push_on : (front : List ℕ) (b : ℕ) → is_line_feed b ≡ false → column_of (front ++ b ∷ []) ≡ column_of front + cond (begins_character b) 1 0
unfolding column_of
column_push_on front b other = ap (count_by begins_character) (last_push_on is_line_feed front b other) ∙ count_push begins_character (after_last is_line_feed front) b

-- one byte further
pub step_is : (front : List ℕ) (b : ℕ) → stepped (place_after front) b ≡ place_after (front ++ b ∷ [])
unfolding place_after column_of
step_is front b =
    let line : (if is_line_feed b then 1 + count_by is_line_feed front + 1 else 1 + count_by is_line_feed front) ≡ 1 + count_by is_line_feed (front ++ b ∷ [])
    = ⊎_elim (λ here. rw here (omega (arith, rw here at (count_push is_line_feed front b)))) (λ other. rw other (omega (arith, rw other at (count_push is_line_feed front b)))) (is_either (is_line_feed b)) in
    let column : (if is_line_feed b then 0 else (if begins_character b then column_of front + 1 else column_of front)) ≡ column_of (front ++ b ∷ [])
    = ⊎_elim (λ here. rw here (sym (column_push_here front b here))) (λ other. rw other
    (⊎_elim (λ begins. rw begins (omega (arith, rw begins at (column_push_on front b other)))) (λ goes_on. rw goes_on (omega (arith, rw goes_on at (column_push_on front b other)))) (is_either (begins_character b)))) (is_either (is_line_feed b)) in
    let byte : length front + 1 ≡ length (front ++ b ∷ []) = sym (length-append front (b ∷ [])) in
    λ i. record { line = line i; column = column i; byte = byte i }

-- the program's steps over a text lead to the place after it
pub moved_is : (front text : List ℕ) → moved (place_after front) text ≡ place_after (front ++ text)
moved_is front [] = ap place_after (sym (append-nil front))
moved_is front (b ∷ bs) =
    ap (λ p. moved p bs) (step_is front b) ∙ moved_is (front ++ b ∷ []) bs ∙ ap place_after (append_assoc front (b ∷ []) bs)

-- the program's steps, all at once
step_line : (p : Place) (b : ℕ) → (stepped p b).line ≡ p.line + cond (is_line_feed b) 1 0
step_line p b = ⊎_elim (λ here. rw here refl) (λ other. rw other (omega arith)) (is_either (is_line_feed b))

step_column : (p : Place) (b : ℕ) → is_line_feed b ≡ false → (stepped p b).column ≡ p.column + cond (begins_character b) 1 0
step_column p b other = rw other (⊎_elim (λ begins. rw begins refl) (λ goes_on. rw goes_on (omega arith)) (is_either (begins_character b)))

moved_line : (p : Place) (text : List ℕ) → (moved p text).line ≡ p.line + count_by is_line_feed text
moved_line p [] = omega arith
moved_line p (b ∷ bs) = omega (arith, moved_line (stepped p b) bs, step_line p b, sum_by-cons (λ x. cond (is_line_feed x) 1 0) b bs)

moved_byte : (p : Place) (text : List ℕ) → (moved p text).byte ≡ p.byte + length text
moved_byte p [] = omega arith
moved_byte p (b ∷ bs) = omega (arith, moved_byte (stepped p b) bs)

-- no line feed is at these places of a text
abbrev pub NoLineFeed : List ℕ → ℕ → Type 0
NoLineFeed text from = (k : ℕ) → from ≤ k → k < length text → ¬ (is_line_feed (get_or text k 0) ≡ true)

moved_column : (p : Place) (text : List ℕ) → NoLineFeed text 0 → (moved p text).column ≡ p.column + count_by begins_character text
moved_column p [] none = omega arith
moved_column p (b ∷ bs) none =
    let other : is_line_feed b ≡ false = ⊎_elim (λ here. absurd (none 0 (omega arith) (omega arith) here)) (λ no. no) (is_either (is_line_feed b)) in
    omega (arith, moved_column (stepped p b) bs (λ k le lt. none (suc k) (omega arith) (omega arith)), step_column p b other, sum_by-cons (λ x. cond (begins_character x) 1 0) b bs)

none_counted : (text : List ℕ) → NoLineFeed text 0 → count_by is_line_feed text ≡ 0
none_counted [] none = refl
none_counted (b ∷ bs) none =
    let other : is_line_feed b ≡ false = ⊎_elim (λ here. absurd (none 0 (omega arith) (omega arith) here)) (λ no. no) (is_either (is_line_feed b)) in
    let here : ◌≡◌ {A = ℕ} (cond (is_line_feed b) 1 0) 0 = rw other refl in
    omega (arith, none_counted bs (λ k le lt. none (suc k) (omega arith) (omega arith)), here, sum_by-cons (λ x. cond (is_line_feed x) 1 0) b bs)

moved_append : (p : Place) (xs ys : List ℕ) → moved p (xs ++ ys) ≡ moved (moved p xs) ys
moved_append p [] ys = refl
moved_append p (x ∷ xs) ys = moved_append (stepped p x) xs ys

module _ (p : Place) (text : List ℕ) (line column byte : ℕ) (byte_is : byte ≡ p.byte + length text) where
  counted : line ≡ p.line + count_by is_line_feed text → column ≡ (moved p text).column → record { line = line; column = column; byte = byte } ≡ moved p text
  counted line_is column_is = λ i. record { line = (line_is ∙ sym (moved_line p text)) i; column = column_is i; byte = (byte_is ∙ sym (moved_byte p text)) i }

  -- a text without a line feed
  pub after_part : NoLineFeed text 0 → line ≡ p.line → column ≡ p.column + count_by begins_character text → record { line = line; column = column; byte = byte } ≡ moved p text
  after_part none line_is column_is = counted (omega (arith, none_counted text none)) (column_is ∙ sym (moved_column p text none))

  -- a text with its last line feed
  pub after_lines : (last : ℕ) → last < length text → is_line_feed (get_or text last 0) ≡ true → NoLineFeed text (last + 1) → line ≡ p.line + count_by is_line_feed text → column ≡ count_by begins_character (drop (last + 1) text)
      → record { line = line; column = column; byte = byte } ≡ moved p text
  after_lines last lt feed none line_is column_is =
      let front : List ℕ = take last text in
      let rest : List ℕ = drop (last + 1) text in
      let q : Place = stepped (moved p front) (get_or text last 0) in
      let start : q.column ≡ 0 = rw feed refl in
      let split : (front ++ get_or text last 0 ∷ []) ++ rest ≡ text = ap (λ l. l ++ rest) (sym (take_more text last 0 lt)) ∙ take-append-drop (last + 1) text in
      let there : moved q rest ≡ moved p text
      = sym (ap (λ r. moved r rest) (moved_append p front (get_or text last 0 ∷ []))) ∙ sym (moved_append p (front ++ get_or text last 0 ∷ []) rest) ∙ ap (moved p) split in
      let alone : NoLineFeed rest 0
      = λ k le in_rest here. none (last + 1 + k) (omega arith) (omega (arith, length-drop (last + 1) text)) (subst (λ b. is_line_feed b ≡ true) (get_or-drop (last + 1) text k 0) here) in
      counted line_is (omega (arith, column_is, moved_column q rest alone, start) ∙ ap (λ (r : Place). r.column) there)

-- each byte of a text without control bytes is a character of the line
begins_each : (text : List ℕ) → ArePrintable text → count_by begins_character text ≡ length text
begins_each [] are = refl
begins_each (b ∷ bs) are =
    let low : b < 128 = (are 0 (omega arith)).1 in
    let begins : begins_character b ≡ true = grind (arith, nat_tests) in
    let one : ◌≡◌ {A = ℕ} (cond (begins_character b) 1 0) 1 = rw begins refl in
    omega (arith, begins_each bs (λ k lt. are (suc k) (omega arith)), one, sum_by-cons (λ x. cond (begins_character x) 1 0) b bs)

pub after_printable : (p : Place) (text : List ℕ) (n : ℕ) → n ≡ length text → ArePrintable text → record { line = p.line; column = p.column + n; byte = p.byte + n } ≡ moved p text
after_printable p text n len are =
    let none : NoLineFeed text 0 = λ k le lt here. let feed = eqb-true (get_or text k 0) 10 here in absurd (omega (arith, (are k lt).0, feed)) in
    after_part p text p.line (p.column + n) (p.byte + n) (omega arith) none refl (omega (arith, begins_each text are))

-- n bytes further in a source
pub take_on : (source : List ℕ) (byte n : ℕ) → byte ≤ length source → n ≤ length (drop byte source) → take (byte + n) source ≡ take byte source ++ take n (drop byte source)
take_on source byte n le fits =
    let whole : source ≡ (take byte source ++ take n (drop byte source)) ++ drop n (drop byte source)
    = sym (take-append-drop byte source) ∙ ap (λ l. take byte source ++ l) (sym (take-append-drop n (drop byte source))) ∙ sym (append_assoc (take byte source) (take n (drop byte source)) (drop n (drop byte source))) in
    let len : length (take byte source ++ take n (drop byte source)) ≡ byte + n
    = length-append (take byte source) (take n (drop byte source)) ∙ (λ i. length-take-le byte source le i + length-take-le n (drop byte source) fits i) in
    ap (take (byte + n)) whole ∙ take_at (take byte source ++ take n (drop byte source)) (drop n (drop byte source)) (byte + n) len

pub drop_on : (source : List ℕ) (byte n : ℕ) → drop (byte + n) source ≡ drop n (drop byte source)
drop_on source byte n = sym (drop-drop n byte source)

-- a place in a source, n bytes further: the counters, and what is on either side
pub record Advanced (source : List ℕ) (old new : Place) (n : ℕ) : Type 0 where
  pub cut : IsCharBoundary source new.byte
  pub place : new ≡ place_after (take new.byte source)
  pub front : take new.byte source ≡ take old.byte source ++ take n (drop old.byte source)
  pub rest : drop new.byte source ≡ drop n (drop old.byte source)

byte_of_place : (front : List ℕ) → (place_after front).byte ≡ length front
unfolding place_after
byte_of_place front = refl

-- the place that the counters give after the next n bytes
pub moved_ahead : (source : List ℕ) (place new : Place) (text : List ℕ) (n : ℕ) → place ≡ place_after (take place.byte source) → text ≡ take n (drop place.byte source) → new ≡ moved place text
    → new ≡ place_after (take place.byte source ++ take n (drop place.byte source))
moved_ahead source place new text n at text_is new_is =
    let part : List ℕ = take n (drop place.byte source) in
    new_is ∙ ap (λ t. moved place t) text_is ∙ ap (λ p. moved p part) at ∙ moved_is (take place.byte source) part

pub place_advances : (source : List ℕ) (place new : Place) (n : ℕ) → IsCharBoundary source place.byte → IsCharBoundary (drop place.byte source) n
    → new ≡ place_after (take place.byte source ++ take n (drop place.byte source)) → Advanced source place new n
place_advances source place new n cut cut_on here =
    let front : List ℕ = take place.byte source in
    let part : List ℕ = take n (drop place.byte source) in
    let len : length (front ++ part) ≡ place.byte + n
    = length-append front part ∙ (λ i. length-take-le place.byte source cut.0 i + length-take-le n (drop place.byte source) cut_on.0 i) in
    let byte : new.byte ≡ place.byte + n = ap (λ (p : Place). p.byte) here ∙ byte_of_place (front ++ part) ∙ len in
    let split : take new.byte source ≡ front ++ part = ap (λ k. take k source) byte ∙ take_on source place.byte n cut.0 cut_on.0 in
    record {
      cut = subst (IsCharBoundary source) (sym byte) (IsCharBoundary-from_rest source place.byte n cut.0 cut_on);
      place = here ∙ ap place_after (sym split);
      front = split;
      rest = ap (λ k. drop k source) byte ∙ drop_on source place.byte n;
    }

-- the span of the next n bytes lies in the source
pub span_within : (source : List ℕ) (byte n : ℕ) → IsCharBoundary source byte → IsCharBoundary (drop byte source) n → IsWithin (take byte source ++ drop byte source) (span_of (take byte source) (take n (drop byte source)))
unfolding place_after
span_within source byte n cut cut_on =
    let whole : source ≡ take byte source ++ drop byte source = sym (take-append-drop byte source) in
    let start : byte ≡ length (take byte source) = sym (length-take-le byte source cut.0) in
    let end : byte + n ≡ length (take byte source ++ take n (drop byte source))
    = sym (length-append (take byte source) (take n (drop byte source)) ∙ (λ i. length-take-le byte source cut.0 i + length-take-le n (drop byte source) cut_on.0 i)) in (
      omega (arith, start, end),
      subst (λ (l : List ℕ). IsCharBoundary l (length (take byte source))) whole (subst (IsCharBoundary source) start cut),
      subst (λ (l : List ℕ). IsCharBoundary l (length (take byte source ++ take n (drop byte source)))) whole (subst (IsCharBoundary source) end (IsCharBoundary-from_rest source byte n cut.0 cut_on)),
    )

-- no counter has outrun the bytes
pub line_bound : (front : List ℕ) → (place_after front).line ≤ 1 + length front
unfolding place_after
line_bound front = omega (arith, count_by-le-length is_line_feed front)

pub column_bound : (front : List ℕ) → (place_after front).column ≤ length front
unfolding place_after
column_bound front = omega (arith, count_by-le-length begins_character (after_last is_line_feed front), length-drop (length front - suffix_len (λ b. not (is_line_feed b)) front) front)

pub counters_fit : (source : List ℕ) (old : Place) (text : List ℕ) (n : ℕ) → IsCharBoundary source old.byte → old ≡ place_after (take old.byte source) → text ≡ take n (drop old.byte source)
    → (old.line + length text ≤ 1 + length source) × (old.column + length text ≤ length source)
counters_fit source old text n cut at text_is =
    let front : List ℕ = take old.byte source in
    let line : old.line ≡ (place_after front).line = ap (λ (p : Place). p.line) at in
    let column : old.column ≡ (place_after front).column = ap (λ (p : Place). p.column) at in
    let front_len : length front ≡ old.byte = length-take-le old.byte source cut.0 in
    let text_len : length text ≤ length source - old.byte = omega (arith, ap length text_is, length-take n (drop old.byte source), length-drop old.byte source) in
    (omega (arith, line_bound front, cut.0), omega (arith, column_bound front, cut.0))
