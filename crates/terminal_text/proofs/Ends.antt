-- A line that does not end with a carriage return.
use Rattle.std.proofs.Common.{◌≡◌, ◌≢◌, ℕ, ◌-◌, List, [], ◌∷◌, ◌++◌, length, take, get_or, cond, eqb, ne_eqb, refl, sym, ap, ◌∙◌, arith, ⊎_elim}
use Rattle.std.proofs.lemmas.Bool.{cases_eq, cond-false}
use Rattle.std.specs.Str.Lines.{strip_carriage_return}

last_is : (b : ℕ) (bs : List ℕ) → b ∷ bs ≡ take (length bs) (b ∷ bs) ++ (get_or (b ∷ bs) (length bs) 0 ∷ [])
last_is b [] = refl
last_is b (d ∷ bs) = ap (λ l. b ∷ l) (last_is d bs)

pub stays : (bs : List ℕ) → ((front : List ℕ) → bs ≢ front ++ 13 ∷ []) → bs ≡ strip_carriage_return bs
stays [] other = refl
stays (b ∷ bs) other =
    let before : length (b ∷ bs) - 1 ≡ length bs = omega arith in
    ⊎_elim
    (λ (here : get_or (b ∷ bs) (length bs) 0 ≡ 13). absurd (other (take (length bs) (b ∷ bs)) (rw here at (last_is b bs))))
    (λ apart.
    sym (ap (λ n. cond (eqb (get_or (b ∷ bs) n 0) 13) (take n (b ∷ bs)) (b ∷ bs)) before ∙ cond-false _ _ _ (ne_eqb _ 13 apart)))
    (cases_eq (get_or (b ∷ bs) (length bs) 0) 13)
