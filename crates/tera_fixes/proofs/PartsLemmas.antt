-- Where a text has a word, byte by byte.
use Rattle.std.proofs.Common.{◌≡◌, ◌∙◌, ◌+◌, ◌-◌, ◌<◌, ◌≤◌, ℕ, Bool, true, false, List, [], ◌∷◌, ◌++◌, length, refl, sym, ap, arith}
use Rattle.std.proofs.lemmas.List.{length-append}
use Rattle.tera_fixes.specs.Parts.{before_marks, is_mark, without_marks}

-- a mark at the end goes
pub mark_last : (bytes : List ℕ) (byte : ℕ) → is_mark byte ≡ true → without_marks (bytes ++ byte ∷ []) ≡ without_marks bytes
mark_last [] byte is = rw is refl
mark_last (b ∷ bs) byte is = ap (before_marks b) (mark_last bs byte is)

stays_before : (b : ℕ) (bs : List ℕ) (byte : ℕ) → before_marks b (bs ++ byte ∷ []) ≡ b ∷ (bs ++ byte ∷ [])
stays_before b [] byte = refl
stays_before b (c ∷ cs) byte = refl

-- after another byte all stays
pub other_last : (bytes : List ℕ) (byte : ℕ) → is_mark byte ≡ false → without_marks (bytes ++ byte ∷ []) ≡ bytes ++ byte ∷ []
other_last [] byte is = rw is refl
other_last (b ∷ bs) byte is = ap (before_marks b) (other_last bs byte is) ∙ stays_before b bs byte

-- one byte less
pub shorter : (bytes front rest : List ℕ) (byte : ℕ) → front ≡ rest ++ byte ∷ [] → length front ≤ length bytes → length rest ≤ length bytes
shorter bytes front rest byte is within =
    let one : length (byte ∷ []) ≡ 1 = refl in
    omega (arith, ap length is, length-append rest (byte ∷ []))
