-- Edits of two texts, a run of white space and a word at a time.
use Rattle.std.proofs.Common.{◌≡◌, ◌≢◌, ◌⊎◌, inl, inr, ◌||◌, ◌+◌, ◌-◌, ◌<◌, ◌≤◌, ◌++◌, suc, min, ℕ, Bool, true, false, not, List, [], ◌∷◌, length, take, drop, get_or, refl, ap, sym, subst, ◌∙◌, arith}
use Rattle.std.specs.Prelude.{nat_eq, slice_range, IsCharBoundary, IsUtf8}
use Rattle.std.specs.Char.{is_ascii_whitespace}
use Rattle.std.specs.Cmp.Lexicographic.{pointwise, same_text, other_text}
use Rattle.std.specs.List.{prefix_len, AllPass}
use Rattle.std.proofs.lemmas.Bool.{cases_eq, cases_lt}
use Rattle.std.proofs.lemmas.Bool.Decides.{leb_tells}
use Rattle.std.proofs.lemmas.List.{append-nil, append_assoc, drop-drop, drop_all, drop_at, drop_more, take-append-le, take-take, take_all, length-take, length-take-le, length-drop, get_or-drop, get_or-take}
use Rattle.std.proofs.lemmas.List.Elements.{All-push, All-weaker}
use Rattle.std.proofs.lemmas.List.Quantifiers.{all_pairs_push}
use Rattle.std.proofs.lemmas.List.Sums.{prefix_len_passes, prefix_len_stops}
use Rattle.std.proofs.lemmas.Str.{IsCharBoundary-before_ascii, IsCharBoundary-after_ascii}
use Rattle.std.proofs.Math.Seq.{take-add}
use Rattle.tera_lexer.proofs.Cuts.{space_ascii}
use Rattle.tera_layout.specs.Respaced.{without_white}
use Rattle.tera_outline.specs.declared.edits.Edit.{Edit}
use Rattle.tera_outline.specs.declared.edits.Places.{Places}
use Rattle.tera_outline.specs.Edits.{edited, applied, ReplacesWhite}
use Rattle.tera_outline.specs.Runs.{is_black, AreEditsTo, AreAfterRuns}
use Rattle.tera_outline.proofs.Sides.{others_after, stops, BeginAlike, begin_alike, same_word, some_word}

-- so many bytes of white space are from the byte on
abbrev pub white : List ℕ → ℕ → ℕ
white text at = prefix_len is_ascii_whitespace (drop at text)

-- a word goes on where no white space is in either text, and ends where some does
unlike : true ≡ false → ⊥
unlike e = cc

word_on : (text : List ℕ) (count : ℕ) → count < length text → count ≤ prefix_len is_black text → is_ascii_whitespace (get_or text count 0) ≡ false → count < prefix_len is_black text
word_on text count within upto is_word = elim (leb_tells (suc count) (prefix_len is_black text)) [
  | inl h ↦ h.1
  | inr h ↦
      let same : prefix_len is_black text ≡ count = omega (arith, h.1, upto) in
      let end : is_black (get_or text count 0) ≡ false = subst (λ k. is_black (get_or text k 0) ≡ false) same (prefix_len_stops is_black text 0 (omega (arith, same, within))) in
      absurd (unlike (sym (ap not is_word) ∙ end))
]

word_off : (text : List ℕ) (count : ℕ) → is_ascii_whitespace (get_or text count 0) ≡ true → prefix_len is_black text ≤ count
word_off text count is_end = elim (leb_tells (suc count) (prefix_len is_black text)) [
  | inl h ↦ absurd (unlike (sym (prefix_len_passes is_black text count 0 h.1) ∙ ap not is_end))
  | inr h ↦ omega (arith, h.1)
]

either_true : (b c : Bool) → (b || c) ≡ true → (b ≡ true) ⊎ (c ≡ true)
either_true true c h = inl refl
either_true false c h = inr h

neither : (b c : Bool) → (b || c) ≡ false → (b ≡ false) × (c ≡ false)
neither true c h = absurd (unlike h)
neither false c h = (refl, h)

pub words_on : (old new : List ℕ) (count : ℕ) → count < length old → count < length new → count ≤ prefix_len is_black old → count ≤ prefix_len is_black new
    → (is_ascii_whitespace (get_or old count 0) || is_ascii_whitespace (get_or new count 0)) ≡ false → (count < prefix_len is_black old) × (count < prefix_len is_black new)
words_on old new count in_old in_new upto_old upto_new is =
    let (one, other) = neither (is_ascii_whitespace (get_or old count 0)) (is_ascii_whitespace (get_or new count 0)) is in
    (word_on old count in_old upto_old one, word_on new count in_new upto_new other)

pub words_off : (old new : List ℕ) (count : ℕ) → count ≤ prefix_len is_black old → count ≤ prefix_len is_black new
    → (is_ascii_whitespace (get_or old count 0) || is_ascii_whitespace (get_or new count 0)) ≡ true → count ≡ min (prefix_len is_black old) (prefix_len is_black new)
words_off old new count upto_old upto_new is = elim (either_true (is_ascii_whitespace (get_or old count 0)) (is_ascii_whitespace (get_or new count 0)) is) [
  | inl one ↦ omega (arith, upto_old, upto_new, word_off old count one)
  | inr other ↦ omega (arith, upto_old, upto_new, word_off new count other)
]

-- the last of the edits is made first
pub applied_push : (edits : List Edit) (e : Edit) (text : List ℕ) → applied (edits ++ e ∷ []) text ≡ applied edits (edited e text)
applied_push [] e text = refl
applied_push (f ∷ edits) e text = ap (edited f) (applied_push edits e text)

-- an edit at the end of a front
pub edited_front : (e : Edit) (text rest : List ℕ) → e.start ≤ e.end → e.end ≤ length text
    → edited e (take e.end text ++ rest) ≡ take e.start text ++ (e.text.now ++ rest)
edited_front e text rest order within =
    let long : length (take e.end text) ≡ e.end = length-take-le e.end text within in
    let front : take e.start (take e.end text ++ rest) ≡ take e.start text =
    take-append-le e.start (take e.end text) rest (omega arith) ∙ take-take e.start e.end text order in
    let following : drop e.end (take e.end text ++ rest) ≡ rest = drop_at (take e.end text) rest e.end long in
    rw (front, following) refl

-- no white space comes after a run
pub after_run : (text : List ℕ) (at : ℕ) → is_ascii_whitespace (get_or text (at + white text at) 0) ≡ false
after_run text at =
    subst (λ b. is_ascii_whitespace b ≡ false) (get_or-drop at text (white text at) 0) (stops is_ascii_whitespace (drop at text) refl)

-- the bytes that both texts have from here on are passed over
pub pass : (old new : List ℕ) (edits : List Edit) (limit more : ℕ) (at : Places) (n m : ℕ) → AreEditsTo old new edits limit at
    → at.old + n ≤ length old → at.new + m ≤ length new → limit ≤ more
    → take n (drop at.old old) ≡ take m (drop at.new new)
    → without_white (drop n (drop at.old old)) ≡ without_white (drop m (drop at.new new))
    → AreEditsTo old new edits more (record { old = at.old + n; new = at.new + m })
pass old new edits limit more at n m h in_old in_new least same alike = record {
  fits = (in_old, in_new);
  alike = rw (sym (drop-drop n at.old old), sym (drop-drop m at.new new)) alike;
  front = λ rest.
      rw (take-add at.old n old, take-add at.new m new, append_assoc (take at.old old) (take n (drop at.old old)) rest, append_assoc (take at.new new) (take m (drop at.new new)) rest, same)
      (h.front (take m (drop at.new new) ++ rest));
  apart = h.apart;
  replace = h.replace;
  ended = All-weaker (λ (e : Edit). e.end < limit) (λ (e : Edit). e.end < more) (λ e l. omega (arith, l)) edits h.ended;
}

-- other bytes are in their place, by one edit more
pub replace : (old new : List ℕ) (edits : List Edit) (at : Places) (e : Edit) (m : ℕ) → AreEditsTo old new edits at.old at
    → e.start ≡ at.old → e.text.now ≡ take m (drop at.new new) → at.new + m ≤ length new → ReplacesWhite old e
    → without_white (drop e.end old) ≡ without_white (drop m (drop at.new new))
    → AreEditsTo old new (edits ++ e ∷ []) (e.end + 1) (record { old = e.end; new = at.new + m })
replace old new edits at e m h starts text in_new is alike = record {
  fits = (is.within, in_new);
  alike = rw (sym (drop-drop m at.new new)) alike;
  front = λ rest.
      applied_push edits e (take e.end old ++ rest)
      ∙ ap (applied edits) (edited_front e old rest is.order is.within)
      ∙ rw (starts, text, take-add at.new m new, append_assoc (take at.new new) (take m (drop at.new new)) rest) (h.front (take m (drop at.new new) ++ rest));
  apart = all_pairs_push (λ (a b : Edit). a.end < b.start) edits e h.apart (λ k d l. subst (λ n. (get_or edits k d).end < n) (sym starts) (h.ended k d l));
  replace = All-push (ReplacesWhite old) edits e h.replace is;
  ended = All-push (λ (a : Edit). a.end < e.end + 1) edits e
      (All-weaker (λ (a : Edit). a.end < at.old) (λ (a : Edit). a.end < e.end + 1) (λ a l. let o = is.order in omega (arith, l, o, starts)) edits h.ended) (omega arith);
}

-- where no white space is at either place, the texts go on alike
pub go_on_alike : (old new : List ℕ) (i j : ℕ) → without_white (drop i old) ≡ without_white (drop j new)
    → is_ascii_whitespace (get_or old i 0) ≡ false → is_ascii_whitespace (get_or new j 0) ≡ false
    → BeginAlike (drop i old) (drop j new)
go_on_alike old new i j same a b =
    let first : (text : List ℕ) (k : ℕ) → get_or (drop k text) 0 0 ≡ get_or text k 0 =
    λ text k. get_or-drop k text 0 0 ∙ ap (λ n. get_or text n 0) (omega arith) in
    begin_alike is_ascii_whitespace (drop i old) (drop j new) same
    (subst (λ x. is_ascii_whitespace x ≡ false) (sym (first old i)) a) (subst (λ x. is_ascii_whitespace x ≡ false) (sym (first new j)) b)

-- at the end of the one text all edits are made
pub all_edited : (old new : List ℕ) (edits : List Edit) (limit : ℕ) (at : Places) → AreEditsTo old new edits limit at → AreAfterRuns old new at
    → length old ≤ at.old → applied edits old ≡ new
all_edited old new edits limit at h following end =
    let alike = go_on_alike old new at.old at.new h.alike following.0 following.1 in
    let none : drop at.new new ≡ [] = alike.one_ends (drop_all at.old old end) in
    let new_end : length new ≤ at.new = omega (arith, length-drop at.new new, ap length none) in
    let all = h.front [] in
    let whole_old : take at.old old ++ [] ≡ old = append-nil (take at.old old) ∙ take_all at.old old end in
    let whole_new : take at.new new ++ [] ≡ new = append-nil (take at.new new) ∙ take_all at.new new new_end in
    ap (applied edits) (sym whole_old) ∙ (all ∙ whole_new)

-- no white space is on either side after both runs, so the texts go on alike there
pub runs_alike : (old new : List ℕ) (at : Places) → without_white (drop at.old old) ≡ without_white (drop at.new new)
    → (without_white (drop (white old at.old) (drop at.old old)) ≡ without_white (drop (white new at.new) (drop at.new new)))
    × BeginAlike (drop (at.old + white old at.old) old) (drop (at.new + white new at.new) new)
runs_alike old new at same =
    let alike : without_white (drop (white old at.old) (drop at.old old)) ≡ without_white (drop (white new at.new) (drop at.new new)) =
    others_after is_ascii_whitespace (drop at.old old) ∙ (same ∙ sym (others_after is_ascii_whitespace (drop at.new new))) in (
      alike,
      go_on_alike old new (at.old + white old at.old) (at.new + white new at.new)
          (rw (sym (drop-drop (white old at.old) at.old old), sym (drop-drop (white new at.new) at.new new)) alike)
          (after_run old at.old) (after_run new at.new),
    )

-- each byte of a run is white space
pub run_white : (text : List ℕ) (at : ℕ) → AllPass is_ascii_whitespace (take (white text at) (drop at text))
run_white text at = λ k d l.
    let within : k < white text at = omega (arith, length-take (white text at) (drop at text), l) in
    subst (λ b. is_ascii_whitespace b ≡ true) (sym (get_or-take (white text at) (drop at text) k d within)) (prefix_len_passes is_ascii_whitespace (drop at text) k d within)

white_byte : (text : List ℕ) (at k : ℕ) → k < white text at → get_or text (at + k) 0 < 128
white_byte text at k within =
    space_ascii (get_or text (at + k) 0)
    (subst (λ b. is_ascii_whitespace b ≡ true) (get_or-drop at text k 0) (prefix_len_passes is_ascii_whitespace (drop at text) k 0 within))

-- characters end where a run does ..
run_ends : (text : List ℕ) (at : ℕ) → IsUtf8 text → at + white text at ≤ length text → 0 < white text at → IsCharBoundary text (at + white text at)
run_ends text at utf8 within some =
    let byte : get_or text (at + (white text at - 1)) 0 < 128 = white_byte text at (white text at - 1) (omega arith) in
    let last : (at + (white text at - 1)) + 1 ≡ at + white text at = omega arith in
    subst (λ n. IsCharBoundary text n) last (IsCharBoundary-after_ascii text (at + (white text at - 1)) utf8 (omega arith) byte)

-- .. and where it begins
pub run_begins : (text : List ℕ) (at : ℕ) → at + white text at ≤ length text → IsCharBoundary text (at + white text at) → IsCharBoundary text at
run_begins text at within ends = elim (cases_eq (white text at) 0) [
  | inl none ↦ let here : at + white text at ≡ at = omega arith in subst (λ n. IsCharBoundary text n) here ends
  | inr some ↦
      let byte : get_or text at 0 < 128 = subst (λ n. get_or text n 0 < 128) (omega arith) (white_byte text at 0 (omega (arith, some))) in
      IsCharBoundary-before_ascii text at (omega (arith, some)) byte
]

-- a character ends in the one text where one ends in the other, if they go on alike
same_boundary : (old new : List ℕ) (i j : ℕ) → BeginAlike (drop i old) (drop j new) → i ≤ length old → IsCharBoundary new j → IsCharBoundary old i
same_boundary old new i j alike within is = (
  within,
  λ inside high.
      let first : (text : List ℕ) (k : ℕ) → get_or (drop k text) 0 0 ≡ get_or text k 0 =
      λ text k. get_or-drop k text 0 0 ∙ ap (λ n. get_or text n 0) (omega arith) in
      let same : get_or old i 0 ≡ get_or new j 0 = sym (first old i) ∙ (alike.first ∙ first new j) in
      let other : j < length new = elim (cases_lt j (length new)) [
        | inl less ↦ less
        | inr past ↦ let none : drop i old ≡ [] = alike.other_ends (drop_all j new past) in absurd (omega (arith, length-drop i old, ap length none))
      ] in
      let there : 128 ≤ get_or new j 0 = subst (λ b. 128 ≤ b) same high in
      subst (λ b. 192 ≤ b) (sym same) (is.1 other there),
)

alike_back : (xs ys : List ℕ) → BeginAlike xs ys → BeginAlike ys xs
alike_back xs ys alike = record { one_ends = alike.other_ends; other_ends = alike.one_ends; first = sym alike.first }

-- runs that differ are between characters
pub runs_between : (old new : List ℕ) (at : Places) → IsUtf8 old → IsUtf8 new → without_white (drop at.old old) ≡ without_white (drop at.new new)
    → at.old + white old at.old ≤ length old → at.new + white new at.new ≤ length new
    → take (white old at.old) (drop at.old old) ≢ take (white new at.new) (drop at.new new)
    → IsCharBoundary old (at.old + white old at.old) × IsCharBoundary new (at.new + white new at.new)
runs_between old new at utf8_old utf8_new same in_old in_new differ =
    let alike = (runs_alike old new at same).1 in
    elim (cases_eq (white old at.old) 0) [
      | inr some ↦
          let one = run_ends old at.old utf8_old in_old (omega (arith, some)) in
          (one, same_boundary new old (at.new + white new at.new) (at.old + white old at.old) (alike_back _ _ alike) in_new one)
      | inl none ↦ elim (cases_eq (white new at.new) 0) [
        | inr some ↦
            let other = run_ends new at.new utf8_new in_new (omega (arith, some)) in
            (same_boundary old new (at.old + white old at.old) (at.new + white new at.new) alike in_old other, other)
        | inl neither ↦ absurd (differ (rw (none, neither) refl))
      ]
    ]

-- the edit of a run that differs
pub run_edit : (old new : List ℕ) (edits : List Edit) (at : Places) (e : Edit) → AreEditsTo old new edits at.old at
    → IsUtf8 old → IsUtf8 new → (at.old ≢ 0 → is_ascii_whitespace (get_or old (at.old - 1) 0) ≡ false)
    → at.old + white old at.old ≤ length old → at.new + white new at.new ≤ length new
    → take (white old at.old) (drop at.old old) ≢ take (white new at.new) (drop at.new new)
    → e.start ≡ at.old → e.end ≡ at.old + white old at.old → e.text.now ≡ take (white new at.new) (drop at.new new)
    → AreEditsTo old new (edits ++ e ∷ []) (at.old + white old at.old + 1) (record { old = at.old + white old at.old; new = at.new + white new at.new })
run_edit old new edits at e h utf8_old utf8_new before in_old in_new differ starts ends text =
    let between = runs_between old new at utf8_old utf8_new h.alike in_old in_new differ in
    let alike = (runs_alike old new at h.alike).0 in
    let gone : slice_range old e.start e.end ≡ take (white old at.old) (drop at.old old) =
    rw (starts, ends) (ap (λ n. take n (drop at.old old)) (omega arith)) in
    let is : ReplacesWhite old e = record {
      order = omega (arith, starts, ends);
      within = omega (arith, ends);
      goes = subst (λ bytes. AllPass is_ascii_whitespace bytes) (sym gone) (run_white old at.old);
      before = subst (λ n. n ≢ 0 → is_ascii_whitespace (get_or old (n - 1) 0) ≡ false) (sym starts) before;
      following = subst (λ n. is_ascii_whitespace (get_or old n 0) ≡ false) (sym ends) (after_run old at.old);
      comes = subst (λ bytes. AllPass is_ascii_whitespace bytes) (sym text) (run_white new at.new);
      differs = λ same. differ (sym gone ∙ (sym same ∙ text));
      starts = subst (λ n. IsCharBoundary old n) (sym starts) (run_begins old at.old in_old between.0);
      ends = subst (λ n. IsCharBoundary old n) (sym ends) between.0;
    } in
    subst (λ n. AreEditsTo old new (edits ++ e ∷ []) (n + 1) (record { old = n; new = at.new + white new at.new })) ends
    (replace old new edits at e (white new at.new) h starts text in_new is
    (rw ends (rw (sym (drop-drop (white old at.old) at.old old)) alike)))

not_reported : (b : Bool) → true ≡ not b → false ≡ b
not_reported true h = cc
not_reported false h = refl

reported : (b : Bool) → false ≡ not b → true ≡ b
reported true h = refl
reported false h = cc

part_is : (text : List ℕ) (at n : ℕ) → take (at + n - at) (drop at text) ≡ take n (drop at text)
part_is text at n = ap (λ k. take k (drop at text)) (omega arith)

-- what the comparison of both runs reported
pub run_differs : (old new one other : List ℕ) (at : Places) (n m : ℕ) → one ≡ old → other ≡ new
    → true ≡ not (pointwise nat_eq (take (at.old + n - at.old) (drop at.old one)) (take (at.new + m - at.new) (drop at.new other)))
    → take n (drop at.old old) ≢ take m (drop at.new new)
run_differs old new one other at n m is_old is_new reports same =
    let here : take n (drop at.old one) ≡ take m (drop at.new other) = rw (is_old, is_new) same in
    other_text _ _ (not_reported _ reports) (part_is one at.old n ∙ (here ∙ sym (part_is other at.new m)))

pub run_same : (old new one other : List ℕ) (at : Places) (n m : ℕ) → one ≡ old → other ≡ new
    → false ≡ not (pointwise nat_eq (take (at.old + n - at.old) (drop at.old one)) (take (at.new + m - at.new) (drop at.new other)))
    → take n (drop at.old old) ≡ take m (drop at.new new)
run_same old new one other at n m is_old is_new reports =
    let here : take n (drop at.old one) ≡ take m (drop at.new other) =
    sym (part_is one at.old n) ∙ (same_text _ _ (reported _ reports) ∙ part_is other at.new m) in
    rw (is_old, is_new) at here

-- the runs, as long as they were counted
pub record Counted (old new : List ℕ) (at : Places) (n m : ℕ) : Type 0 where
  pub count_old : n ≡ white old at.old
  pub count_new : m ≡ white new at.new
  pub in_old : at.old + n ≤ length old
  pub in_new : at.new + m ≤ length new

pub run_pushed : (old new : List ℕ) (edits items : List Edit) (at : Places) (e : Edit) (n m : ℕ) → AreEditsTo old new edits at.old at
    → IsUtf8 old → IsUtf8 new → (at.old ≢ 0 → is_ascii_whitespace (get_or old (at.old - 1) 0) ≡ false) → Counted old new at n m
    → take n (drop at.old old) ≢ take m (drop at.new new) → items ≡ edits ++ e ∷ []
    → e.start ≡ at.old → e.end ≡ at.old + n → e.text.now ≡ take m (drop at.new new)
    → AreEditsTo old new items (at.old + n + 1) (record { old = at.old + n; new = at.new + m })
run_pushed old new edits items at e n m h utf8_old utf8_new before counted differ pushed starts ends text =
    rw (pushed, counted.count_old, counted.count_new)
    (run_edit old new edits at e h utf8_old utf8_new before (rw counted.count_old at counted.in_old) (rw counted.count_new at counted.in_new)
    (rw (counted.count_old, counted.count_new) at differ) starts (rw counted.count_old at ends) (rw counted.count_new at text))

pub run_passed : (old new : List ℕ) (edits : List Edit) (at : Places) (n m : ℕ) → AreEditsTo old new edits at.old at → Counted old new at n m
    → take n (drop at.old old) ≡ take m (drop at.new new)
    → AreEditsTo old new edits (at.old + n + 1) (record { old = at.old + n; new = at.new + m })
run_passed old new edits at n m h counted same =
    pass old new edits at.old (at.old + n + 1) at n m h counted.in_old counted.in_new (omega arith) same
    (rw (counted.count_old, counted.count_new) (runs_alike old new at h.alike).0)

pub run_after : (old new : List ℕ) (at : Places) (n m : ℕ) → Counted old new at n m → AreAfterRuns old new (record { old = at.old + n; new = at.new + m })
run_after old new at n m counted = rw (counted.count_old, counted.count_new) (after_run old at.old, after_run new at.new)

pub counted_between : (old new : List ℕ) (at : Places) (n m : ℕ) → IsUtf8 old → IsUtf8 new → without_white (drop at.old old) ≡ without_white (drop at.new new)
    → Counted old new at n m → take n (drop at.old old) ≢ take m (drop at.new new)
    → IsCharBoundary new at.new × IsCharBoundary new (at.new + m)
counted_between old new at n m utf8_old utf8_new same counted differ =
    let in_new : at.new + white new at.new ≤ length new = rw counted.count_new at counted.in_new in
    let ends = (runs_between old new at utf8_old utf8_new same (rw counted.count_old at counted.in_old) in_new (rw (counted.count_old, counted.count_new) at differ)).1 in
    (run_begins new at.new in_new ends, rw counted.count_new ends)

-- a word that both texts have is passed over, up to the nearer of its ends
pub word_passed : (old new : List ℕ) (edits : List Edit) (at : Places) (n : ℕ) → AreEditsTo old new edits (at.old + 1) at → 0 < n
    → at.old + n ≤ length old → at.new + n ≤ length new
    → n ≤ prefix_len is_black (drop at.old old) → n ≤ prefix_len is_black (drop at.new new)
    → AreEditsTo old new edits (at.old + n) (record { old = at.old + n; new = at.new + n })
word_passed old new edits at n h some in_old in_new word_old word_new =
    let same = same_word is_ascii_whitespace n (drop at.old old) (drop at.new new) h.alike word_old word_new in
    pass old new edits (at.old + 1) (at.old + n) at n n h in_old in_new (omega (arith, some)) same.0 same.1

-- no white space is before its end
pub word_before : (text : List ℕ) (at n : ℕ) → 0 < n → n ≤ prefix_len is_black (drop at text) → is_ascii_whitespace (get_or text (at + n - 1) 0) ≡ false
word_before text at n some word =
    let last : n - 1 < prefix_len is_black (drop at text) = omega (arith, some, word) in
    let black = prefix_len_passes is_black (drop at text) (n - 1) 0 last in
    let place : at + (n - 1) ≡ at + n - 1 = omega (arith, some) in
    not_black _ (subst (λ b. is_black b ≡ true) (get_or-drop at text (n - 1) 0 ∙ ap (λ k. get_or text k 0) place) black)
  where
    not_black : (b : Bool) → not b ≡ true → b ≡ false
    not_black true h = cc
    not_black false h = refl

-- where the texts go on, a word is in both
pub word_sound : (old new : List ℕ) (at : Places) → without_white (drop at.old old) ≡ without_white (drop at.new new) → AreAfterRuns old new at
    → at.old < length old → (0 < prefix_len is_black (drop at.old old)) × (0 < prefix_len is_black (drop at.new new))
word_sound old new at same following inside =
    let alike = go_on_alike old new at.old at.new same following.0 following.1 in
    let new_inside : at.new < length new = elim (cases_lt at.new (length new)) [
      | inl less ↦ less
      | inr past ↦ let none : drop at.old old ≡ [] = alike.other_ends (drop_all at.new new past) in absurd (omega (arith, length-drop at.old old, ap length none, inside))
    ] in
    (word_at old at.old inside following.0, word_at new at.new new_inside following.1)
  where
    word_at : (text : List ℕ) (k : ℕ) → k < length text → is_ascii_whitespace (get_or text k 0) ≡ false → 0 < prefix_len is_black (drop k text)
    word_at text k inside black =
        subst (λ xs. 0 < prefix_len is_black xs) (sym (drop_more text k 0 inside)) (some_word is_ascii_whitespace (get_or text k 0) (drop (k + 1) text) black)
