-- How outcomes follow from one another.
use Rattle.std.specs.List.{AllZip}
use Rattle.std.proofs.Common.{[], ◌∷◌, ◌++◌, ◌≡◌, ℕ, List, Result, Ok, Err, inl, inr, refl, sym, subst}
use Rattle.tera_base.specs.Errors.{Says}
use Rattle.tera_tree.specs.Outcomes.{Outcome, Gives, Passes, Refuses, IsResultOf, ComesTo, Then, InTurn}
use Rattle.tera_base.specs.declared.errors.Error.{Error}

-- a value came
came_by : {A B : Type 0} (view : A → B) (R : Outcome B → Type 0) (x : A) (o : Outcome B) → R o → IsResultOf view o (Ok x) → R (Gives (view x))
came_by view R x (Gives y) r e = subst (λ z. R (Gives z)) (sym e) r
came_by view R x (Passes f) r e = cc
came_by view R x (Refuses text) r e = absurd e

pub came : {A B : Type 0} (view : A → B) (R : Outcome B → Type 0) (x : A) → ComesTo view R (Ok x) → R (Gives (view x))
came view R x (inl m) = absurd m
came view R x (inr p) = came_by view R x p.0 p.1 p.2

-- what is possible is possible otherwise
pub otherwise : {A B : Type 0} (view : A → B) (P R : Outcome B → Type 0) (r : Result A Error) → ((o : Outcome B) → P o → R o) → ComesTo view P r → ComesTo view R r
otherwise view P R r more (inl m) = inl m
otherwise view P R r more (inr p) = inr (p.0, more p.0 p.1, p.2)

-- none came: nothing more
stopped_by : {A B C D : Type 0} (view : A → B) (R : Outcome B → Type 0) (seen : C → D) (Next : B → Outcome D → Type 0) (e : Error) (o : Outcome B) → R o → IsResultOf view o (Err e) → ComesTo seen (Then R Next) (Err e)
stopped_by view R seen Next e (Gives y) r h = absurd h
stopped_by view R seen Next e (Passes f) r h = inr (Passes f, (Passes f, r, refl), cc)
stopped_by view R seen Next e (Refuses text) r h = inr (Refuses text, (Refuses text, r, refl), h)

pub stopped : {A B C D : Type 0} (view : A → B) (R : Outcome B → Type 0) (seen : C → D) (Next : B → Outcome D → Type 0) (e : Error) → ComesTo view R (Err e) → ComesTo seen (Then R Next) (Err e)
stopped view R seen Next e (inl m) = inl m
stopped view R seen Next e (inr p) = stopped_by view R seen Next e p.0 p.1 p.2

-- a value came, and then what comes next
pub next : {B C D : Type 0} (R : Outcome B → Type 0) (seen : C → D) (Next : B → Outcome D → Type 0) (y : B) (r : Result C Error) → R (Gives y) → ComesTo seen (Next y) r → ComesTo seen (Then R Next) r
next R seen Next y r h (inl m) = inl m
next R seen Next y r h (inr p) = inr (p.0, (Gives y, h, p.1), p.2)

-- the four ways to come to an end
pub gave : {A B : Type 0} (view : A → B) (R : Outcome B → Type 0) (x : A) → R (Gives (view x)) → ComesTo view R (Ok x)
gave view R x r = inr (Gives (view x), r, refl)

pub passed : {A B : Type 0} (view : A → B) (R : Outcome B → Type 0) (e : Error) → R (Passes e) → ComesTo view R (Err e)
passed view R e r = inr (Passes e, r, refl)

pub refused : {A B : Type 0} (view : A → B) (R : Outcome B → Type 0) (text : List ℕ) (e : Error) → R (Refuses text) → Says text e → ComesTo view R (Err e)
refused view R text e r h = inr (Refuses text, r, h)

-- ---- things in turn

pub zip_more : {X Y : Type 0} (P : X → Y → Type 0) (xs : List X) (ys : List Y) (x : X) (y : Y) → AllZip P xs ys → P x y → AllZip P (xs ++ x ∷ []) (ys ++ y ∷ [])
zip_more P [] [] x y all p = (p, tt)
zip_more P [] (z ∷ zs) x y all p = absurd all
zip_more P (w ∷ ws) [] x y all p = absurd all
zip_more P (w ∷ ws) (z ∷ zs) x y all p = (all.0, zip_more P ws zs x y all.1 p)

decided : {X A B C D : Type 0} (view : A → B) (R : X → Outcome B → Type 0) (seen : C → D) (Next : List B → Outcome D → Type 0)
    (xs before after : List X) (x : X) (ys : List B) (e : Error) (o : Outcome B)
    → xs ≡ before ++ x ∷ after → AllZip (λ b y. R b (Gives y)) before ys → R x o → IsResultOf view o (Err e) → ComesTo seen (Then (InTurn R xs) Next) (Err e)
decided view R seen Next xs before after x ys e (Gives y) split all r h = absurd h
decided view R seen Next xs before after x ys e (Passes f) split all r h = inr (Passes f, (Passes f, (before, x, after, ys, split, all, r), refl), cc)
decided view R seen Next xs before after x ys e (Refuses text) split all r h = inr (Refuses text, (Refuses text, (before, x, after, ys, split, all, r), refl), h)

-- one of them gave no value
pub turn_stopped : {X A B C D : Type 0} (view : A → B) (R : X → Outcome B → Type 0) (seen : C → D) (Next : List B → Outcome D → Type 0)
    (xs before after : List X) (x : X) (ys : List B) (e : Error)
    → xs ≡ before ++ x ∷ after → AllZip (λ b y. R b (Gives y)) before ys → ComesTo view (R x) (Err e) → ComesTo seen (Then (InTurn R xs) Next) (Err e)
turn_stopped view R seen Next xs before after x ys e split all (inl m) = inl m
turn_stopped view R seen Next xs before after x ys e split all (inr p) = decided view R seen Next xs before after x ys e p.0 split all p.1 p.2
