-- What the edits have of the one text and of the other.
use Rattle.std.proofs.Common.{◌≡◌, ℕ, Bool, true, false, cond, eqb, List, [], ◌∷◌, length, refl, sym, ap, ◌∙◌}
use Rattle.std.proofs.lemmas.List.{append-nil}
use Rattle.std.proofs.lemmas.List.Concat.{length-flat_map}
use Rattle.std.proofs.lemmas.Slice.Eq.{bytes_eq-Decides}
use Rattle.std.specs.List.{flat_map, concat, onto_first}
use Rattle.std.specs.Str.{bytes_eq}
use Rattle.terminal_text.specs.Edits.{EditView, SameLine, OtherLines, old_side, new_side, lines_of, with_other, edits_of}
use Rattle.terminal_text.specs.Hunks.{old_lines, new_lines}

old_with : (o n : List ℕ) (es : List EditView) → flat_map old_side (with_other o n es) ≡ o ∷ flat_map old_side es
old_with o n [] = refl
old_with o n (SameLine line ∷ es) = refl
old_with o n (OtherLines old new ∷ es) = refl

new_with : (o n : List ℕ) (es : List EditView) → flat_map new_side (with_other o n es) ≡ n ∷ flat_map new_side es
new_with o n [] = refl
new_with o n (SameLine line ∷ es) = refl
new_with o n (OtherLines old new ∷ es) = refl

old_either : (b : Bool) (o n : List ℕ) (es : List EditView) → flat_map old_side (cond b (SameLine o ∷ es) (with_other o n es)) ≡ o ∷ flat_map old_side es
old_either true o n es = refl
old_either false o n es = old_with o n es

new_either : (b : Bool) (o n : List ℕ) (es : List EditView) → (b ≡ true → o ≡ n) → flat_map new_side (cond b (SameLine o ∷ es) (with_other o n es)) ≡ n ∷ flat_map new_side es
new_either true o n es h = ap (λ l. l ∷ flat_map new_side es) (h refl)
new_either false o n es h = new_with o n es

pub old_sides : (os ns : List (List ℕ)) → flat_map old_side (edits_of os ns) ≡ os
old_sides [] [] = refl
old_sides [] (n ∷ ns) = refl
old_sides (o ∷ os) [] = append-nil (o ∷ os)
old_sides (o ∷ os) (n ∷ ns) = old_either (bytes_eq o n) o n (edits_of os ns) ∙ ap (λ l. o ∷ l) (old_sides os ns)

pub new_sides : (os ns : List (List ℕ)) → flat_map new_side (edits_of os ns) ≡ ns
new_sides [] [] = refl
new_sides [] (n ∷ ns) = append-nil (n ∷ ns)
new_sides (o ∷ os) [] = refl
new_sides (o ∷ os) (n ∷ ns) = new_either (bytes_eq o n) o n (edits_of os ns) (bytes_eq-Decides o n).0 ∙ ap (λ l. n ∷ l) (new_sides os ns)

-- so as many lines are in them
pub old_count_is : (os ns : List (List ℕ)) → old_lines (edits_of os ns) ≡ length os
old_count_is os ns = sym (length-flat_map old_side (edits_of os ns)) ∙ ap length (old_sides os ns)

pub new_count_is : (os ns : List (List ℕ)) → new_lines (edits_of os ns) ≡ length ns
new_count_is os ns = sym (length-flat_map new_side (edits_of os ns)) ∙ ap length (new_sides os ns)

-- a text is its lines
first_byte : (b : ℕ) (ls : List (List ℕ)) → concat (onto_first b ls) ≡ b ∷ concat ls
first_byte b [] = refl
first_byte b (l ∷ ls) = refl

byte_first : (t : Bool) (b : ℕ) (ls : List (List ℕ)) → concat (cond t ((b ∷ []) ∷ ls) (onto_first b ls)) ≡ b ∷ concat ls
byte_first true b ls = refl
byte_first false b ls = first_byte b ls

pub lines_are : (text : List ℕ) → concat (lines_of text) ≡ text
lines_are [] = refl
lines_are (b ∷ bs) = byte_first (eqb b 10) b (lines_of bs) ∙ ap (λ l. b ∷ l) (lines_are bs)
