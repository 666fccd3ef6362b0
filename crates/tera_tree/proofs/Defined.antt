-- Lists whose items mean the same.
use Rattle.std.proofs.Common.{◌≡◌, List, [], ◌∷◌, map, refl}
use Rattle.std.specs.List.{AllZip}

pub seen_alike : {A B : Type 0} (f : A → B) (R : A → A → Type 0) → ((x y : A) → R x y → f y ≡ f x) → (xs ys : List A) → AllZip R xs ys → map f ys ≡ map f xs
seen_alike f R same [] [] all = refl
seen_alike f R same [] (y ∷ ys) all = absurd all
seen_alike f R same (x ∷ xs) [] all = absurd all
seen_alike f R same (x ∷ xs) (y ∷ ys) all = λ i. same x y all.0 i ∷ seen_alike f R same xs ys all.1 i
