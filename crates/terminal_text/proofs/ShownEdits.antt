-- What the hunks show.
use Rattle.std.proofs.Common.{◌≡◌, Bool, true, false, not, cond, ◌||◌, List, [], ◌∷◌, ◌++◌, take, drop, length, ◌-◌, refl, ap, ◌∙◌}
use Rattle.std.proofs.lemmas.Bool.{true≢false}
use Rattle.std.specs.List.{flat_map, filter, list_any, slice_split, onto_first, AllByRecursion}
use Rattle.terminal_text.specs.Edits.{EditView, SameLine, OtherLines, old_side, new_side}
use Rattle.terminal_text.specs.Hunks.{placed_edits, is_shown, changes, taken_side}

-- what is cut at the elements that are not taken has the others, in their order
first_of_all : {A : Type 0} (x : A) (hs : List (List A)) → flat_map (λ h. h) (onto_first x hs) ≡ x ∷ flat_map (λ h. h) hs
first_of_all x [] = refl
first_of_all x (h ∷ hs) = refl

cut : {A : Type 0} (b : Bool) (x : A) (hs : List (List A)) → flat_map (λ h. h) (cond (not b) ([] ∷ hs) (onto_first x hs)) ≡ cond b (x ∷ flat_map (λ h. h) hs) (flat_map (λ h. h) hs)
cut true x hs = first_of_all x hs
cut false x hs = refl

pub in_order : {A : Type 0} (p : A → Bool) (xs : List A) → flat_map (λ h. h) (slice_split (λ x. not (p x)) xs) ≡ filter p xs
in_order p [] = refl
in_order p (x ∷ xs) =
    cut (p x) x (slice_split (λ y. not (p y)) xs)
    ∙ ap (λ l. cond (p x) (x ∷ l) l) (in_order p xs)

-- an edit that is not shown changes nothing
unchanged : (a b c : Bool) → (a || (b || c)) ≡ false → b ≡ false
unchanged true b c e = absurd (true≢false e)
unchanged false true c e = absurd (true≢false e)
unchanged false false c e = refl

pub not_changed : (before es : List EditView) (e : EditView) → is_shown before (e ∷ es) ≡ false → changes e ≡ false
not_changed before es e h = unchanged (list_any changes (drop (length before - 3) before)) (changes e) (list_any changes (take 3 es)) h

same_sides : (e : EditView) → changes e ≡ false → old_side e ≡ new_side e
same_sides (SameLine line) h = refl
same_sides (OtherLines old new) h = absurd (true≢false h)

either_side : (b : Bool) (e : EditView) → (b ≡ false → changes e ≡ false) → cond b (new_side e) (old_side e) ≡ new_side e
either_side true e h = refl
either_side false e h = same_sides e (h refl)

pub taken_sides : (before es : List EditView) → flat_map taken_side (placed_edits before es) ≡ flat_map new_side es
taken_sides before [] = refl
taken_sides before (e ∷ es) =
    ap (λ l. l ++ flat_map taken_side (placed_edits (before ++ e ∷ []) es)) (either_side (is_shown before (e ∷ es)) e (not_changed before es e))
    ∙ ap (λ l. new_side e ++ l) (taken_sides (before ++ e ∷ []) es)

pub unshown : (before es : List EditView) → AllByRecursion (λ p. p.shown ≡ false → changes p.edit ≡ false) (placed_edits before es)
unshown before [] = tt
unshown before (e ∷ es) = (not_changed before es e, unshown (before ++ e ∷ []) es)
