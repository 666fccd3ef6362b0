-- Places after bytes that are in the place of others.
use Rattle.std.proofs.Common.{◌≡◌, ◌+◌, ◌-◌, ◌<◌, ◌++◌, ◌∙◌, ℕ, zero, suc, Bool, cond, not, List, [], ◌∷◌, length, drop, take, get_or, reverse, append_assoc, refl, sym, subst, ap}
use Rattle.std.specs.List.{after_last, count_by, prefix_len, suffix_len}
use Rattle.std.proofs.lemmas.List.{reverse-append, take_more}
use Rattle.std.proofs.lemmas.List.Sums.{sum_by-cons}
use Rattle.tera_lexer.specs.declared.lexer.place.Place.{Place}
use Rattle.tera_lexer.specs.code.Counting.{stepped}
use Rattle.tera_lexer.proofs.Places.{step_is}
use Rattle.tera_lexer.specs.grammar.Place.{is_line_feed, begins_character, place_after}
use Rattle.tera_mend.specs.Places.{AreInPlace, IsInPlace}
use Rattle.tera_mend.proofs.InPlace.{same_length, joined}

-- as many of them pass, where a byte passes if that in its place does
counted : (p : ℕ → Bool) → ((b c : ℕ) → IsInPlace b c → p b ≡ p c) → (old new : List ℕ) → AreInPlace old new → count_by p old ≡ count_by p new
counted p same [] [] are = refl
counted p same [] (c ∷ cs) are = absurd are
counted p same (b ∷ bs) [] are = absurd are
counted p same (b ∷ bs) (c ∷ cs) are =
    let here : p b ≡ p c = same b c are.0 in
    let rest : count_by p bs ≡ count_by p cs = counted p same bs cs are.1 in
    let one : count_by p (b ∷ bs) ≡ cond (p b) 1 0 + count_by p bs = sum_by-cons (λ x. cond (p x) 1 0) b bs in
    let other : count_by p (c ∷ cs) ≡ cond (p c) 1 0 + count_by p cs = sum_by-cons (λ x. cond (p x) 1 0) c cs in
    cc

dropped : (n : ℕ) (old new : List ℕ) → AreInPlace old new → AreInPlace (drop n old) (drop n new)
dropped zero old new are = are
dropped (suc n) [] [] are = tt
dropped (suc n) [] (c ∷ cs) are = absurd are
dropped (suc n) (b ∷ bs) [] are = absurd are
dropped (suc n) (b ∷ bs) (c ∷ cs) are = dropped n bs cs are.1

reversed : (old new : List ℕ) → AreInPlace old new → AreInPlace (reverse old) (reverse new)
reversed [] [] are = tt
reversed [] (c ∷ cs) are = absurd are
reversed (b ∷ bs) [] are = absurd are
reversed (b ∷ bs) (c ∷ cs) are =
    let one : reverse (b ∷ bs) ≡ reverse bs ++ b ∷ [] = reverse-append (b ∷ []) bs in
    let other : reverse (c ∷ cs) ≡ reverse cs ++ c ∷ [] = reverse-append (c ∷ []) cs in
    subst (λ ys. AreInPlace (reverse (b ∷ bs)) ys) (sym other)
    (subst (λ xs. AreInPlace xs (reverse cs ++ c ∷ [])) (sym one) (joined (reverse bs) (reverse cs) (b ∷ []) (c ∷ []) (reversed bs cs are.1) (are.0, tt)))

on : (p q : Bool) (m n : ℕ) → p ≡ q → m ≡ n → cond (not p) (1 + m) 0 ≡ cond (not q) (1 + n) 0
on p q m n same more = cc

-- the first line feed has as many bytes before it
first : (old new : List ℕ) → AreInPlace old new → prefix_len (λ x. not (is_line_feed x)) old ≡ prefix_len (λ x. not (is_line_feed x)) new
first [] [] are = refl
first [] (c ∷ cs) are = absurd are
first (b ∷ bs) [] are = absurd are
first (b ∷ bs) (c ∷ cs) are = on (is_line_feed b) (is_line_feed c) _ _ are.0.0 (first bs cs are.1)

-- what comes after the last line feed
after : (old new : List ℕ) → AreInPlace old new → AreInPlace (after_last is_line_feed old) (after_last is_line_feed new)
after old new are =
    let last : suffix_len (λ x. not (is_line_feed x)) old ≡ suffix_len (λ x. not (is_line_feed x)) new = first (reverse old) (reverse new) (reversed old new are) in
    let many : length old ≡ length new = same_length old new are in
    let at : length old - suffix_len (λ x. not (is_line_feed x)) old ≡ length new - suffix_len (λ x. not (is_line_feed x)) new = cc in
    subst (λ n. AreInPlace (drop (length old - suffix_len (λ x. not (is_line_feed x)) old) old) (drop n new)) at (dropped _ old new are)

of_parts : (lines columns bytes lines' columns' bytes' : ℕ) → lines ≡ lines' → columns ≡ columns' → bytes ≡ bytes'
    → (let one : Place = record { line = 1 + lines; column = columns; byte = bytes } in let other : Place = record { line = 1 + lines'; column = columns'; byte = bytes' } in one ≡ other)
of_parts lines columns bytes lines' columns' bytes' a b c = rw (a, b, c)

pub place_sound : (old new : List ℕ) → AreInPlace old new → place_after old ≡ place_after new
unfolding place_after
place_sound old new are =
    of_parts _ _ _ _ _ _ (counted is_line_feed (λ b c is. is.0) old new are)
    (counted begins_character (λ b c is. is.1) _ _ (after old new are)) (same_length old new are)

-- one byte further
pub place_step : (front text : List ℕ) (i : ℕ) (p q : Place) → i < length text → p ≡ place_after (front ++ take i text) → q ≡ stepped p (get_or text i 0)
    → q ≡ place_after (front ++ take (i + 1) text)
place_step front text i p q below is next =
    next ∙ ap (λ r. stepped r (get_or text i 0)) is ∙ step_is (front ++ take i text) (get_or text i 0)
    ∙ ap place_after (append_assoc front (take i text) (get_or text i 0 ∷ []) ∙ ap (λ t. front ++ t) (sym (take_more text i 0 below)))
