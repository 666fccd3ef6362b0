-- The names for which a call passes nothing, one by one.
use Rattle.std.proofs.Common.{◌≡◌, ◌∙◌, ℕ, Bool, true, false, Bor, cond, List, [], ◌∷◌, ◌++◌, map, not, refl, sym, ap}
use Rattle.std.specs.List.{filter}
use Rattle.std.proofs.lemmas.List.{map-append}
use Rattle.tera_settings.specs.Values.{texts}
use Rattle.tera_fixes.specs.Attributes.{CallVal}
use Rattle.tera_fixes.specs.Names.{free_of}

one_by : {X : Type 0} (b : Bool) (x : X) (xs ys : List X) → cond b (x ∷ (xs ++ ys)) (xs ++ ys) ≡ cond b (x ∷ xs) xs ++ ys
one_by true x xs ys = refl
one_by false x xs ys = refl

filter_parts : {X : Type 0} (p : X → Bool) (xs ys : List X) → filter p (xs ++ ys) ≡ filter p xs ++ filter p ys
filter_parts p [] ys = refl
filter_parts p (x ∷ xs) ys = ap (λ zs. cond (p x) (x ∷ zs) zs) (filter_parts p xs ys) ∙ one_by (p x) x (filter p xs) (filter p ys)

pub free_more : (call : CallVal) (old new : List (List ℕ)) (done : List (Bor (List ℕ))) (name : Bor (List ℕ)) → old ≡ free_of call (texts done)
    → new ≡ old ++ free_of call (name.now ∷ []) → new ≡ free_of call (texts (done ++ name ∷ []))
free_more call old new done name held step =
    let one = free_of call (name.now ∷ []) in
    step ∙ ap (λ ns. ns ++ one) held
    ∙ sym (ap (free_of call) (map-append (λ (t : Bor (List ℕ)). t.now) done (name ∷ [])) ∙ filter_parts _ (texts done) (name.now ∷ []))
