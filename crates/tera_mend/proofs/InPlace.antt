-- Bytes in the place of others, index by index.
use Rattle.std.proofs.Common.{◌≡◌, ◌<◌, ℕ, List, [], ◌∷◌, ◌++◌, length, get_or, arith, ap, refl, suc, zero, ◌∙◌}
use Rattle.tera_mend.specs.Places.{AreInPlace, IsInPlace}

-- they are as many
pub same_length : (old new : List ℕ) → AreInPlace old new → length old ≡ length new
same_length [] [] are = refl
same_length [] (c ∷ cs) are = absurd are
same_length (b ∷ bs) [] are = absurd are
same_length (b ∷ bs) (c ∷ cs) are = ap suc (same_length bs cs are.1)

-- and each is in its place
pub each : (old new : List ℕ) → AreInPlace old new → (k : ℕ) → k < length old → IsInPlace (get_or old k 0) (get_or new k 0)
each [] [] are k below = absurd (omega arith)
each [] (c ∷ cs) are k below = absurd are
each (b ∷ bs) [] are k below = absurd are
each (b ∷ bs) (c ∷ cs) are zero below = are.0
each (b ∷ bs) (c ∷ cs) are (suc k) below = each bs cs are.1 k (omega arith)

pub all : (old new : List ℕ) → length old ≡ length new → ((k : ℕ) → k < length old → IsInPlace (get_or old k 0) (get_or new k 0)) → AreInPlace old new
all [] [] same here = tt
all [] (c ∷ cs) same here = absurd (omega arith)
all (b ∷ bs) [] same here = absurd (omega arith)
all (b ∷ bs) (c ∷ cs) same here =
    (here 0 (omega arith), all bs cs (omega arith) (λ k below. here (suc k) (omega arith)))

-- one after the other
pub joined : (old new others there : List ℕ) → AreInPlace old new → AreInPlace others there → AreInPlace (old ++ others) (new ++ there)
joined [] [] others there are more = more
joined [] (c ∷ cs) others there are more = absurd are
joined (b ∷ bs) [] others there are more = absurd are
joined (b ∷ bs) (c ∷ cs) others there are more = (are.0, joined bs cs others there are.1 more)

pub itself : (text : List ℕ) → AreInPlace text text
itself [] = tt
itself (b ∷ bs) = ((refl, refl), itself bs)

pub through : (old mid new : List ℕ) → AreInPlace old mid → AreInPlace mid new → AreInPlace old new
through [] [] new are more = more
through [] (c ∷ cs) new are more = absurd are
through (b ∷ bs) [] new are more = absurd are
through (b ∷ bs) (c ∷ cs) [] are more = absurd more
through (b ∷ bs) (c ∷ cs) (d ∷ ds) are more = ((are.0.0 ∙ more.0.0, are.0.1 ∙ more.0.1), through bs cs ds are.1 more.1)
