-- Hunks, and the numbers of their lines.
use Rattle.std.proofs.Common.{◌≡◌, ℕ, ◌+◌, ◌-◌, ◌<◌, ◌≤◌, ◌^◌, take, drop, length-drop, Bool, true, false, not, cond, Some, Result, Ok, Err, OnOk, List, [], ◌∷◌, ◌++◌, map, length, get_or, refl, sym, ap, subst, ◌∙◌, arith, sum_by}
use Rattle.std.proofs.lemmas.List.Sums.{sum_by-append, sum_by-cons}
use Rattle.std.proofs.lemmas.List.Splits.{slice_split_at, slice_split_none}
use Rattle.terminal_text.proofs.SideBySide.{parted}
use borrow.Author.Count.{below_more}
use Rattle.std.proofs.lemmas.List.{append_assoc, length-take-le, get_or-take, get_or-drop, take-map, drop-map, take_rest}
use Rattle.std.specs.List.{slice_split, onto_first, slice_get, flat_map, AllByRecursion}
use Rattle.terminal_text.specs.Edits.{EditView, edit_view, old_side, new_side}
use Rattle.terminal_text.specs.Hunks.{PlacedView, placed_view, placed_edits, is_shown, old_lines, new_lines, edits_in, cut_hunks, hunks_of, old_count, new_count, Fits}
use Rattle.terminal_text.specs.Differences.{hunk_text}
use Rattle.terminal_text.specs.declared.hunks.Placed.{Placed}
use Rattle.terminal_text.specs.declared.style.Style.{Style}

-- the lines of a hunk
old_counted : (hunk : List Placed) → old_lines (edits_in (map placed_view hunk)) ≡ sum_by old_count hunk
old_counted [] = refl
old_counted (p ∷ ps) =
    sum_by-cons (λ e. length (old_side e)) (edit_view p.edit) (edits_in (map placed_view ps))
    ∙ ap (λ n. old_count p + n) (old_counted ps) ∙ sym (sum_by-cons old_count p ps)

new_counted : (hunk : List Placed) → new_lines (edits_in (map placed_view hunk)) ≡ sum_by new_count hunk
new_counted [] = refl
new_counted (p ∷ ps) =
    sum_by-cons (λ e. length (new_side e)) (edit_view p.edit) (edits_in (map placed_view ps))
    ∙ ap (λ n. new_count p + n) (new_counted ps) ∙ sym (sum_by-cons new_count p ps)

pub fits_first : (hunk : List Placed) (p : Placed) → slice_get hunk 0 ≡ Some p → Fits (map placed_view hunk) → (p.old + sum_by old_count hunk < 2 ^ 64) × (p.new + sum_by new_count hunk < 2 ^ 64)
fits_first [] p e fits = absurd (cc)
fits_first (q ∷ qs) p e fits =
    let is : q ≡ p = cc in
    let old : q.old + sum_by old_count (q ∷ qs) < 2 ^ 64 = subst (λ n. q.old + n < 2 ^ 64) (old_counted (q ∷ qs)) fits.0 in
    let new : q.new + sum_by new_count (q ∷ qs) < 2 ^ 64 = subst (λ n. q.new + n < 2 ^ 64) (new_counted (q ∷ qs)) fits.1 in
    (subst (λ (r : Placed). r.old + sum_by old_count (q ∷ qs) < 2 ^ 64) is old, subst (λ (r : Placed). r.new + sum_by new_count (q ∷ qs) < 2 ^ 64) is new)

-- the first fits after these edits
abbrev FirstFits : List EditView → List (List PlacedView) → Type 0
FirstFits before [] = Unit {0}
FirstFits before (h ∷ hs) = (old_lines before + old_lines (edits_in h) < 2 ^ 64) × (new_lines before + new_lines (edits_in h) < 2 ^ 64)

abbrev Fitting : List EditView → List (List PlacedView) → Type 0
Fitting before hs = FirstFits before hs × AllByRecursion Fits hs

either : (before : List EditView) (b : Bool) (hs gs : List (List PlacedView)) → Fitting before hs → Fitting before gs → Fitting before (cond b hs gs)
either before true hs gs one other = one
either before false hs gs one other = other

old_more : (before : List EditView) (e : EditView) → old_lines (before ++ e ∷ []) ≡ old_lines before + length (old_side e)
old_more before e = sum_by-append (λ x. length (old_side x)) before (e ∷ []) ∙ omega arith

new_more : (before : List EditView) (e : EditView) → new_lines (before ++ e ∷ []) ≡ new_lines before + length (new_side e)
new_more before e = sum_by-append (λ x. length (new_side x)) before (e ∷ []) ∙ omega arith

old_cons : (e : EditView) (es : List EditView) → old_lines (e ∷ es) ≡ length (old_side e) + old_lines es
old_cons e es = sum_by-cons (λ x. length (old_side x)) e es

new_cons : (e : EditView) (es : List EditView) → new_lines (e ∷ es) ≡ length (new_side e) + new_lines es
new_cons e es = sum_by-cons (λ x. length (new_side x)) e es

onto : (before : List EditView) (e : EditView) (shown : Bool) (hs : List (List PlacedView)) → old_lines before + length (old_side e) < 2 ^ 64 → new_lines before + length (new_side e) < 2 ^ 64 → Fitting (before ++ e ∷ []) hs → Fitting before (onto_first (record { old = old_lines before; new = new_lines before; shown = shown; edit = e }) hs)
onto before e shown [] old new fits =
    let a : old_lines before + old_lines (e ∷ []) < 2 ^ 64 = omega arith in
    let b : new_lines before + new_lines (e ∷ []) < 2 ^ 64 = omega arith in
    ((a, b), ((a, b), tt))
onto before e shown (h ∷ hs) old new fits =
    let a : old_lines before + old_lines (e ∷ edits_in h) < 2 ^ 64 = omega (arith, fits.0.0, old_more before e, old_cons e (edits_in h)) in
    let b : new_lines before + new_lines (e ∷ edits_in h) < 2 ^ 64 = omega (arith, fits.0.1, new_more before e, new_cons e (edits_in h)) in
    ((a, b), ((a, b), fits.1.1))

fitting : (before es : List EditView) → old_lines before + old_lines es < 2 ^ 64 → new_lines before + new_lines es < 2 ^ 64 → Fitting before (slice_split (λ p. not p.shown) (placed_edits before es))
fitting before [] old new = ((old, new), (tt, tt))
fitting before (e ∷ es) old new =
    let p : PlacedView = record { old = old_lines before; new = new_lines before; shown = is_shown before (e ∷ es); edit = e } in
    let rest = slice_split (λ q. not q.shown) (placed_edits (before ++ e ∷ []) es) in
    let more = fitting (before ++ e ∷ []) es (omega (arith, old_more before e, old_cons e es)) (omega (arith, new_more before e, new_cons e es)) in
    let a : old_lines before + 0 < 2 ^ 64 = omega arith in
    let b : new_lines before + 0 < 2 ^ 64 = omega arith in
    either before (not p.shown) ([] ∷ rest) (onto_first p rest)
    ((a, b), (tt, more.1))
    (onto before e (is_shown before (e ∷ es)) rest (omega (arith, old_cons e es)) (omega (arith, new_cons e es)) more)

pub hunks_fit : (es : List EditView) → old_lines es < 2 ^ 64 → new_lines es < 2 ^ 64 → AllByRecursion Fits (hunks_of es)
hunks_fit es old new = (fitting [] es (omega arith) (omega arith)).1

-- edits are shown from this one on, up to that
abbrev pub ShownFrom : List PlacedView → ℕ → ℕ → Type 0
ShownFrom ps start at = (k : ℕ) (d : PlacedView) → start ≤ k → k < at → (get_or ps k d).shown ≡ true

-- one more
pub shown_more : (ps : List PlacedView) (start at : ℕ) → ShownFrom ps start at → ((d : PlacedView) → (get_or ps at d).shown ≡ true) → ShownFrom ps start (at + 1)
shown_more ps start at shown here k d p q =
    below_more (λ j. (e : PlacedView) → start ≤ j → (get_or ps j e).shown ≡ true) at (λ j r e s. shown j e s r) (λ e s. here e) k q d p

-- .. so they are one hunk, up to one that is not shown
pub cut_at : (ps : List PlacedView) (start at : ℕ) (d : PlacedView) → start ≤ at → at < length ps → (get_or ps at d).shown ≡ false → ShownFrom ps start at → cut_hunks (drop start ps) ≡ take (at - start) (drop start ps) ∷ cut_hunks (drop (at + 1) ps)
cut_at ps start at d order within hidden shown =
    let m = at - start in
    let l : length (take m (drop start ps)) ≡ m = length-take-le m (drop start ps) (omega (arith, length-drop start ps)) in
    ap cut_hunks (parted ps start at (get_or ps at d) d order within refl)
    ∙ slice_split_at (λ (p : PlacedView). not p.shown) (take m (drop start ps)) (get_or ps at d) (drop (at + 1) ps)
    (λ k e q. ap (λ (p : PlacedView). not p.shown) (get_or-take m (drop start ps) k e (omega (arith, l)) ∙ get_or-drop start ps k e)
    ∙ ap not (shown (start + k) e (omega arith) (omega (arith, l))))
    (ap not hidden)

-- .. or up to the end
pub cut_last : (ps : List PlacedView) (start at : ℕ) → length ps ≤ at → ShownFrom ps start at → cut_hunks (drop start ps) ≡ drop start ps ∷ []
cut_last ps start at end shown =
    slice_split_none (λ (p : PlacedView). not p.shown) (drop start ps)
    (λ k e q. ap (λ (p : PlacedView). not p.shown) (get_or-drop start ps k e)
    ∙ ap not (shown (start + k) e (omega arith) (omega (arith, length-drop start ps))))

-- the edits of a part
pub part_view : (placed : List Placed) (start m : ℕ) → map placed_view (take m (drop start placed)) ≡ take m (drop start (map placed_view placed))
part_view placed start m = sym (take-map placed_view m (drop start placed)) ∙ ap (take m) (sym (drop-map placed_view start placed))

pub rest_view : (placed : List Placed) (start : ℕ) → map placed_view (take (length placed - start) (drop start placed)) ≡ drop start (map placed_view placed)
rest_view placed start = ap (map placed_view) (take_rest placed start) ∙ sym (drop-map placed_view start placed)

pub hidden : (shown : Bool) → not shown ≡ true → shown ≡ false
hidden true e = sym e
hidden false e = refl

pub seen : (shown : Bool) → not shown ≡ false → shown ≡ true
seen true e = refl
seen false e = sym e

pub on_ok : {T E P Q : Type 0} (r : Result T E) → (P → Q) → OnOk r P → OnOk r Q
on_ok (Ok x) f h = f h
on_ok (Err e) f h = h

-- the text of the next hunk, and of those after it
pub text_before : (text f : List ℕ) (hunk : List PlacedView) (style : Style) (more : List (List PlacedView)) → f ≡ hunk_text style hunk → (text ++ f) ++ flat_map (hunk_text style) more ≡ text ++ flat_map (hunk_text style) (hunk ∷ more)
text_before text f hunk style more e =
    append_assoc text f (flat_map (hunk_text style) more) ∙ ap (λ l. text ++ (l ++ flat_map (hunk_text style) more)) e
