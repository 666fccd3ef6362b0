-- The window of a line.
use Rattle.std.proofs.Common.{◌≡◌, ◌⊎◌, inl, inr, ℕ, ◌+◌, ◌-◌, ◌≤◌, ◌<◌, min, List, [], ◌++◌, length, take, drop, chars, Option, Some, None, unwrap_or, refl, sym, subst, ap, ◌∙◌, arith, append_assoc, length-append, ⊎_elim}
use Rattle.std.proofs.lemmas.Bool.{cases_lt}
use Rattle.std.proofs.lemmas.List.{length-take, length-drop, take-append-drop, nil_from_length}
use Rattle.std.proofs.lemmas.Option.{none-some}
use Rattle.terminal_text.specs.Excerpt.{Window, start_in, first_in, window_of, window_in}
use Rattle.terminal_text.specs.Laws.{IsWindow}
use Rattle.terminal_text.specs.declared.excerpt.Marked.{Marked}

near_is : (line : List ℕ) (start first : ℕ) → start ≤ length line → first ≡ min (start - 60) (length line - 120)
    → (length (take (start - first) (take 120 (drop first line))) ≡ 60) ⊎ ((take first line ≡ []) ⊎ (drop 120 (drop first line) ≡ []))
near_is line start first within is =
    let long : length (drop first line) ≡ length line - first = length-drop first line in
    let part : length (take 120 (drop first line)) ≡ min 120 (length (drop first line)) = length-take 120 (drop first line) in
    let before : length (take (start - first) (take 120 (drop first line))) ≡ min (start - first) (length (take 120 (drop first line)))
    = length-take (start - first) (take 120 (drop first line)) in
    let left : length (take first line) ≡ min first (length line) = length-take first line in
    let beyond : length (drop 120 (drop first line)) ≡ length (drop first line) - 120 = length-drop 120 (drop first line) in
    ⊎_elim
    (λ (early : start < 60). inr (inl (nil_from_length (take first line) (omega (arith, left, is, early)))))
    (λ (late : 60 ≤ start).
    ⊎_elim
    (λ (far : start - 60 < length line - 120). inl (omega (arith, before, part, long, is, late, far, within)))
    (λ (end : length line - 120 ≤ start - 60).
    ⊎_elim
    (λ (short : length line < 120). inr (inl (nil_from_length (take first line) (omega (arith, left, is, short)))))
    (λ (wide : 120 ≤ length line). inr (inr (nil_from_length (drop 120 (drop first line)) (omega (arith, beyond, long, is, end, wide)))))
    (cases_lt (length line) 120))
    (cases_lt (start - 60) (length line - 120)))
    (cases_lt start 60)

regrouped : (a b c d : List ℕ) → a ++ (b ++ (c ++ d)) ≡ (a ++ (b ++ c)) ++ d
regrouped a b c d = sym (append_assoc a (b ++ c) d ∙ ap (λ l. a ++ l) (append_assoc b c d))

pub is_window : (line : List ℕ) (m : Marked) → IsWindow line m (window_of line m)
is_window line m =
    let first = first_in line m in
    let start = start_in line m in
    let part : List ℕ = take 120 (drop first line) in
    let from : List ℕ = drop (start - first) part in
    let width = unwrap_or m.end (length line) - start in
    let w = window_of line m in
    let marked : w.marked ++ w.following ≡ from = take-append-drop width from in
    let shown : w.before ++ (w.marked ++ w.following) ≡ part
    = ap (λ l. w.before ++ l) marked ∙ take-append-drop (start - first) part in
    let l1 : length (drop first line) ≡ length line - first = length-drop first line in
    let l2 : length part ≡ min 120 (length (drop first line)) = length-take 120 (drop first line) in
    let l3 : length from ≡ length part - (start - first) = length-drop (start - first) part in
    let l4 : length w.before ≡ min (start - first) (length part) = length-take (start - first) part in
    let l5 : length w.left_out ≡ min first (length line) = length-take first line in
    let l6 : length (w.left_out ++ w.before) ≡ length w.left_out + length w.before = length-append w.left_out w.before in
    let l7 : length w.marked ≡ min width (length from) = length-take width from in
    let i1 : start ≡ min m.start (length line) = refl in
    let i2 : first ≡ min (start - 60) (length line - 120) = refl in record {
      whole = ap (λ l. w.left_out ++ l) (regrouped w.before w.marked w.following w.beyond ∙ ap (λ l. l ++ w.beyond) shown ∙ take-append-drop 120 (drop first line))
          ∙ take-append-drop first line;
      begin = omega (arith, l1, l2, l4, l5, l6, i1, i2);
      long = l7 ∙ ap (λ l. min width (length l)) (sym marked);
      shown = ap length shown ∙ (omega (arith, l1, l2, i1, i2));
      near = near_is line start first (omega (arith, i1)) refl;
    }

pub marked_short : (line : List ℕ) (m : Marked) → length (window_of line m).marked ≤ 120
marked_short line m =
    let part : List ℕ = take 120 (drop (first_in line m) line) in
    let from : List ℕ = drop (start_in line m - first_in line m) part in
    let width = unwrap_or m.end (length line) - start_in line m in
    let l1 : length part ≡ min 120 (length (drop (first_in line m) line)) = length-take 120 (drop (first_in line m) line) in
    let l2 : length from ≡ length part - (start_in line m - first_in line m) = length-drop (start_in line m - first_in line m) part in
    let l3 : length (take width from) ≡ min width (length from) = length-take width from in
    omega (arith, l1, l2, l3)

pub after_short : (line : List ℕ) (m : Marked) → length (window_of line m).following ≤ 120
after_short line m =
    let part : List ℕ = take 120 (drop (first_in line m) line) in
    let from : List ℕ = drop (start_in line m - first_in line m) part in
    let width = unwrap_or m.end (length line) - start_in line m in
    let l1 : length part ≡ min 120 (length (drop (first_in line m) line)) = length-take 120 (drop (first_in line m) line) in
    let l2 : length from ≡ length part - (start_in line m - first_in line m) = length-drop (start_in line m - first_in line m) part in
    let l3 : length (drop width from) ≡ length from - width = length-drop width from in
    omega (arith, l1, l2, l3)

-- .. of a line that is there
pub found_short : (line : Option (List ℕ)) (m : Marked) (w : Window) → Some w ≡ window_in line m → (length w.marked ≤ 120) × (length w.following ≤ 120)
found_short None m w is = absurd (none-some w (sym is))
found_short (Some line) m w is =
    let same : w ≡ window_of (chars line) m = ap (λ o. unwrap_or o w) is in
    (subst (λ (v : Window). length v.marked ≤ 120) (sym same) (marked_short (chars line) m), subst (λ (v : Window). length v.following ≤ 120) (sym same) (after_short (chars line) m))
