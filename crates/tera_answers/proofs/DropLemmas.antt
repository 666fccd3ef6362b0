-- The rest of a list, by one element.
use Rattle.std.proofs.Common.{◌≡◌, ◌∙◌, ◌<◌, ◌+◌, ◌∷◌, ℕ, List, length, drop, get_or, drop-cons, add-one, refl, sym, ap}

pub drop_at : {X : Type 0} (xs : List X) (i : ℕ) (x : X) → i < length xs → drop i xs ≡ get_or xs i x ∷ drop (i + 1) xs
drop_at xs i x within = drop-cons xs i x within ∙ rw (add-one i) refl

pub drop_next : {X : Type 0} (xs : List X) (i : ℕ) (x : X) → i < length xs → x ≡ get_or xs i x → drop i xs ≡ x ∷ drop (i + 1) xs
drop_next xs i x within is = drop_at xs i x within ∙ ap (λ y. y ∷ drop (i + 1) xs) (sym is)
