-- Where edits are.
use Rattle.std.proofs.Common.{◌≡◌, ℕ, ◌+◌, ◌-◌, ◌<◌, ◌≤◌, ◌||◌, Bool, min, suc, List, [], ◌∷◌, ◌++◌, map, length, get_or, take, drop, refl, sym, ap, subst, ◌∙◌, add-one}
use Rattle.std.proofs.Math.Seq.{drop-cons, take-suc}
use Rattle.std.proofs.lemmas.List.{append_assoc, length-map, drop-map, take-map, take_rest, take_min}
use Rattle.std.specs.List.{list_any}
use Rattle.terminal_text.specs.Edits.{EditView, edit_view, old_side, new_side}
use Rattle.terminal_text.specs.Hunks.{PlacedView, changes, placed_edits, is_shown, old_lines, new_lines}
use Rattle.std.proofs.lemmas.List.Sums.{sum_by_more_le, sum_by_push}
use Rattle.terminal_text.specs.declared.edits.Edit.{Edit}

-- the next edit, where it comes after those before it
abbrev pub next : List EditView → ℕ → EditView → PlacedView
next es at e = record {
  old = old_lines (take at es);
  new = new_lines (take at es);
  shown = is_shown (take at es) (drop at es);
  edit = e;
}

-- it is the first of those that are left
pub placed_next : (es : List EditView) (at : ℕ) (e : EditView) → at < length es → get_or es at e ≡ e → placed_edits (take at es) (drop at es) ≡ next es at e ∷ placed_edits (take (at + 1) es) (drop (at + 1) es)
placed_next es at e within is =
    let cut : drop at es ≡ e ∷ drop (at + 1) es = rw add-one (drop-cons es at e within ∙ ap (λ x. x ∷ drop (suc at) es) is) in
    let front : take (at + 1) es ≡ take at es ++ e ∷ [] = rw add-one (take-suc es at e within ∙ ap (λ x. take at es ++ x ∷ []) is) in
    let following : drop at es ≡ e ∷ drop (at + 1) es = cut in
    let whole : (rest : List EditView) → drop at es ≡ e ∷ rest → placed_edits (take at es) (drop at es) ≡ next es at e ∷ placed_edits (take at es ++ e ∷ []) rest =
    λ rest q. subst (λ l. placed_edits (take at es) l ≡ record { old = old_lines (take at es); new = new_lines (take at es); shown = is_shown (take at es) l; edit = e } ∷ placed_edits (take at es ++ e ∷ []) rest) (sym q) refl in
    whole (drop (at + 1) es) cut ∙ ap (λ l. next es at e ∷ placed_edits l (drop (at + 1) es)) (sym front)

pub any_view : (es : List Edit) → list_any (λ e. changes (edit_view e)) es ≡ list_any changes (map edit_view es)
any_view [] = refl
any_view (e ∷ es) = ap (λ t. changes (edit_view e) || t) (any_view es)

-- what is looked at before an edit and after it
pub near : (front back : List Edit) (from to : ℕ) → from ≡ length front - 3 → to ≡ min 4 (length back) → is_shown (map edit_view front) (map edit_view back) ≡ list_any changes (map edit_view (take (length front - from) (drop from front))) || list_any changes (map edit_view (take to back))
near front back from to e f =
    let before : drop (length (map edit_view front) - 3) (map edit_view front) ≡ map edit_view (take (length front - from) (drop from front)) =
    ap (λ n. drop (n - 3) (map edit_view front)) (length-map front edit_view)
    ∙ ap (λ n. drop n (map edit_view front)) (sym e)
    ∙ drop-map edit_view from front ∙ ap (map edit_view) (sym (take_rest front from)) in
    let following : take 4 (map edit_view back) ≡ map edit_view (take to back) =
    take-map edit_view 4 back ∙ ap (map edit_view) (sym (take_min 4 back) ∙ ap (λ n. take n back) (sym f)) in
    ap (λ l. list_any changes l || list_any changes (take 4 (map edit_view back))) before
    ∙ ap (λ l. list_any changes (map edit_view (take (length front - from) (drop from front))) || list_any changes l) following

taken : (es : List EditView) (at : ℕ) (e : EditView) → at < length es → get_or es at e ≡ e → take (at + 1) es ≡ take at es ++ e ∷ []
taken es at e within is = rw add-one (take-suc es at e within ∙ ap (λ x. take at es ++ x ∷ []) is)

-- its lines are among those of all, and after them the next ones are
pub old_within : (es : List EditView) (at : ℕ) (e : EditView) → at < length es → get_or es at e ≡ e → old_lines (take at es) + length (old_side e) ≤ old_lines es
old_within es at e within is =
    subst (λ x. old_lines (take at es) + length (old_side x) ≤ old_lines es) is (sum_by_more_le (λ x. length (old_side x)) es at e within)

pub new_within : (es : List EditView) (at : ℕ) (e : EditView) → at < length es → get_or es at e ≡ e → new_lines (take at es) + length (new_side e) ≤ new_lines es
new_within es at e within is =
    subst (λ x. new_lines (take at es) + length (new_side x) ≤ new_lines es) is (sum_by_more_le (λ x. length (new_side x)) es at e within)

pub old_next : (es : List EditView) (at : ℕ) (e : EditView) → at < length es → get_or es at e ≡ e → old_lines (take at es) + length (old_side e) ≡ old_lines (take (at + 1) es)
old_next es at e within is = sym (ap old_lines (taken es at e within is) ∙ sum_by_push (λ x. length (old_side x)) (take at es) e)

pub new_next : (es : List EditView) (at : ℕ) (e : EditView) → at < length es → get_or es at e ≡ e → new_lines (take at es) + length (new_side e) ≡ new_lines (take (at + 1) es)
new_next es at e within is = sym (ap new_lines (taken es at e within is) ∙ sum_by_push (λ x. length (new_side x)) (take at es) e)

-- the edits up to the next one, where they are
pub placed_to : (es : List EditView) (at : ℕ) (e : EditView) (ps : List PlacedView) (old new : ℕ) (shown : Bool) → at < length es → get_or es at e ≡ e → old ≡ old_lines (take at es) → new ≡ new_lines (take at es) → shown ≡ is_shown (take at es) (drop at es) → placed_edits [] es ≡ ps ++ placed_edits (take at es) (drop at es) → placed_edits [] es ≡ (ps ++ record { old = old; new = new; shown = shown; edit = e } ∷ []) ++ placed_edits (take (at + 1) es) (drop (at + 1) es)
placed_to es at e ps old new shown within is o n s before =
    let more = placed_edits (take (at + 1) es) (drop (at + 1) es) in
    before ∙ ap (λ l. ps ++ l) (placed_next es at e within is)
    ∙ ap (λ x. ps ++ (record { old = x; new = new_lines (take at es); shown = is_shown (take at es) (drop at es); edit = e }) ∷ more) (sym o)
    ∙ ap (λ x. ps ++ (record { old = old; new = x; shown = is_shown (take at es) (drop at es); edit = e }) ∷ more) (sym n)
    ∙ ap (λ x. ps ++ (record { old = old; new = new; shown = x; edit = e }) ∷ more) (sym s)
    ∙ sym (append_assoc ps (record { old = old; new = new; shown = shown; edit = e } ∷ []) more)
