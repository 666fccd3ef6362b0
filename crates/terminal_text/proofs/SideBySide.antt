-- The edits of lines side by side.
use Rattle.std.proofs.Common.{◌≡◌, ℕ, ◌+◌, ◌-◌, ◌<◌, ◌≤◌, min, suc, true, false, cond, List, [], ◌∷◌, ◌++◌, length, get_or, take, drop, refl, sym, ap, ◌∙◌, arith, add-one, length-drop}
use borrow.Author.Count.{below_more}
use Rattle.std.proofs.Math.Seq.{drop-cons}
use Rattle.std.proofs.lemmas.List.{append_assoc, length-take-le, take-append-drop, drop-drop, get_or-take, get_or-drop, get_or-map, take-map, drop-map, take_rest}
use Rattle.std.specs.Borrow.{Bor}
use Rattle.std.specs.Str.{bytes_eq}
use Rattle.terminal_text.specs.Edits.{EditView, SameLine, OtherLines, texts_of, with_other, others_of, edits_of}

-- line by line the texts differ, as far as both go
abbrev pub Differ : List (List ℕ) → List (List ℕ) → Type 0
Differ (o ∷ os) (n ∷ ns) = (bytes_eq o n ≡ false) × Differ os ns
Differ [] ns = Unit {0}
Differ (o ∷ os) [] = Unit {0}

-- .. by the numbers of the lines
pub differ : (os ns : List (List ℕ)) → ((k : ℕ) → k < length os → k < length ns → bytes_eq (get_or os k []) (get_or ns k []) ≡ false) → Differ os ns
differ [] ns h = tt
differ (o ∷ os) [] h = tt
differ (o ∷ os) (n ∷ ns) h =
    (h 0 (omega arith) (omega arith), differ os ns (λ k p q. h (suc k) (omega arith) (omega arith)))

-- so they are one edit
pub one_edit : (os ns : List (List ℕ)) → Differ os ns → edits_of os ns ≡ others_of os ns
one_edit [] ns h = refl
one_edit (o ∷ os) [] h = refl
one_edit (o ∷ []) (n ∷ []) h = ap (λ t. cond t (SameLine o ∷ []) (OtherLines (o ∷ []) (n ∷ []) ∷ [])) h.0
one_edit (o ∷ []) (n ∷ m ∷ ns) h =
    ap (λ t. cond t (SameLine o ∷ others_of [] (m ∷ ns)) (with_other o n (others_of [] (m ∷ ns)))) h.0
one_edit (o ∷ p ∷ os) (n ∷ ns) h =
    ap (λ t. cond t (SameLine o ∷ edits_of (p ∷ os) ns) (with_other o n (edits_of (p ∷ os) ns))) h.0
    ∙ ap (with_other o n) (one_edit (p ∷ os) ns h.1)

-- .. before a line that is the same
pub edit_before : (os ns : List (List ℕ)) (o n : List ℕ) (more rest : List (List ℕ)) → length os ≡ length ns → Differ os ns → bytes_eq o n ≡ true → edits_of (os ++ o ∷ more) (ns ++ n ∷ rest) ≡ others_of os ns ++ SameLine o ∷ edits_of more rest
edit_before [] [] o n more rest e h same =
    ap (λ t. cond t (SameLine o ∷ edits_of more rest) (with_other o n (edits_of more rest))) same
edit_before [] (b ∷ bs) o n more rest e h same = absurd (omega arith)
edit_before (a ∷ c) [] o n more rest e h same = absurd (omega arith)
edit_before (a ∷ []) (b ∷ []) o n more rest e h same =
    ap (λ t. cond t (SameLine a ∷ edits_of (o ∷ more) (n ∷ rest)) (with_other a b (edits_of (o ∷ more) (n ∷ rest)))) h.0
    ∙ ap (with_other a b) (edit_before [] [] o n more rest refl tt same)
edit_before (a ∷ []) (b ∷ d ∷ ds) o n more rest e h same = absurd (omega arith)
edit_before (a ∷ c ∷ cs) (b ∷ []) o n more rest e h same = absurd (omega arith)
edit_before (a ∷ c ∷ cs) (b ∷ d ∷ ds) o n more rest e h same =
    ap (λ t. cond t (SameLine a ∷ edits_of (c ∷ (cs ++ o ∷ more)) (d ∷ (ds ++ n ∷ rest))) (with_other a b (edits_of (c ∷ (cs ++ o ∷ more)) (d ∷ (ds ++ n ∷ rest))))) h.0
    ∙ ap (with_other a b) (edit_before (c ∷ cs) (d ∷ ds) o n more rest (omega arith) h.1 same)

-- what is from one element on, up to a later one
pub parted : {A : Type 0} (xs : List A) (start at : ℕ) (x d : A) → start ≤ at → at < length xs → get_or xs at d ≡ x → drop start xs ≡ take (at - start) (drop start xs) ++ x ∷ drop (at + 1) xs
parted xs start at x d order within is =
    let m : start + (at - start) ≡ at = omega arith in
    sym (take-append-drop (at - start) (drop start xs))
    ∙ ap (λ l. take (at - start) (drop start xs) ++ l)
    (drop-drop (at - start) start xs ∙ ap (λ k. drop k xs) m ∙ drop-cons xs at d within
    ∙ ap (λ y. y ∷ drop (suc at) xs) is ∙ rw add-one refl)

-- lines differ from this one on, up to that
abbrev pub DifferFrom : List (List ℕ) → List (List ℕ) → ℕ → ℕ → Type 0
DifferFrom os ns start at = (k : ℕ) → start ≤ k → k < at → bytes_eq (get_or os k []) (get_or ns k []) ≡ false

-- the edits of the lines from one on, where they differ up to a line that is the same
pub edits_to : (os ns : List (List ℕ)) (start at : ℕ) (o n : List ℕ) → start ≤ at → at < length os → at < length ns → get_or os at [] ≡ o → get_or ns at [] ≡ n → bytes_eq o n ≡ true → DifferFrom os ns start at → edits_of (drop start os) (drop start ns) ≡ others_of (take (at - start) (drop start os)) (take (at - start) (drop start ns)) ++ SameLine o ∷ edits_of (drop (at + 1) os) (drop (at + 1) ns)
edits_to os ns start at o n order in_old in_new old new same differs =
    let m = at - start in
    let a = take m (drop start os) in
    let b = take m (drop start ns) in
    let la : length a ≡ m = length-take-le m (drop start os) (omega (arith, length-drop start os)) in
    let lb : length b ≡ m = length-take-le m (drop start ns) (omega (arith, length-drop start ns)) in
    let d : Differ a b = differ a b (λ k p q.
    ap (λ x. bytes_eq x (get_or b k [])) (get_or-take m (drop start os) k [] (omega (arith, la)) ∙ get_or-drop start os k [])
    ∙ ap (λ x. bytes_eq (get_or os (start + k) []) x) (get_or-take m (drop start ns) k [] (omega (arith, lb)) ∙ get_or-drop start ns k [])
    ∙ differs (start + k) (omega arith) (omega (arith, la))) in
    ap (λ l. edits_of l (drop start ns)) (parted os start at o [] order in_old old)
    ∙ ap (λ l. edits_of (a ++ o ∷ drop (at + 1) os) l) (parted ns start at n [] order in_new new)
    ∙ edit_before a b o n (drop (at + 1) os) (drop (at + 1) ns) (la ∙ sym lb) d same

-- .. where all differ that both have
pub edits_last : (os ns : List (List ℕ)) (start at : ℕ) → min (length os) (length ns) ≤ at → DifferFrom os ns start at → edits_of (drop start os) (drop start ns) ≡ others_of (drop start os) (drop start ns)
edits_last os ns start at end differs =
    one_edit (drop start os) (drop start ns) (differ (drop start os) (drop start ns) (λ k p q.
    let here : start + k < min (length os) (length ns) = omega (arith, length-drop start os, length-drop start ns) in
    ap (λ x. bytes_eq x (get_or (drop start ns) k [])) (get_or-drop start os k [])
    ∙ ap (λ x. bytes_eq (get_or os (start + k) []) x) (get_or-drop start ns k [])
    ∙ differs (start + k) (omega arith) (omega arith)))

-- a line of texts
pub text_at : (lines : List (Bor (List ℕ))) (at : ℕ) → at < length lines → (d : Bor (List ℕ)) → get_or (texts_of lines) at [] ≡ (get_or lines at d).now
text_at lines at within d = get_or-map (λ l. l.now) lines at d [] within

-- texts from one on
pub texts_drop : (lines : List (Bor (List ℕ))) (start : ℕ) → texts_of (take (length lines - start) (drop start lines)) ≡ drop start (texts_of lines)
texts_drop lines start = ap texts_of (take_rest lines start) ∙ sym (drop-map (λ l. l.now) start lines)

-- .. up to another
pub texts_part : (lines : List (Bor (List ℕ))) (start m : ℕ) → texts_of (take m (drop start lines)) ≡ take m (drop start (texts_of lines))
texts_part lines start m = sym (take-map (λ l. l.now) m (drop start lines)) ∙ ap (take m) (sym (drop-map (λ l. l.now) start lines))

-- one line more differs
pub differ_more : (os ns : List (List ℕ)) (start at : ℕ) → DifferFrom os ns start at → bytes_eq (get_or os at []) (get_or ns at []) ≡ false → DifferFrom os ns start (at + 1)
differ_more os ns start at differs here k p q =
    below_more (λ j. start ≤ j → bytes_eq (get_or os j []) (get_or ns j []) ≡ false) at (λ j r s. differs j s r) (λ s. here) k q p

pub joined : (a b : List EditView) (e : EditView) (more : List EditView) → a ++ (b ++ e ∷ more) ≡ ((a ++ b) ++ e ∷ []) ++ more
joined a b e more = sym (append_assoc a b (e ∷ more)) ∙ sym (append_assoc (a ++ b) (e ∷ []) more)
