-- How many findings may have a suggestion.
use Rattle.std.proofs.Common.{◌≡◌, ℕ, List, [], ◌∷◌, Bool, true, false, Bor, cond, filter, length, map, refl, arith}
use Rattle.tera_findings.specs.declared.finding.Finding.{Finding}
use Rattle.tera_fixes.specs.All.{is_suggestible}

one_more : {X Y : Type 0} (b : Bool) (x : X) (xs : List X) (y : Y) (ys : List Y) → length xs ≡ length ys → length (cond b (x ∷ xs) xs) ≡ length (cond b (y ∷ ys) ys)
one_more true x xs y ys same = omega (arith, same)
one_more false x xs y ys same = same

-- there are as many of them among references to the findings
pub as_many : (fs : List (Bor Finding)) → length (filter (λ (f : Bor Finding). is_suggestible f.now.kind) fs) ≡ length (filter (λ (f : Finding). is_suggestible f.kind) (map (λ (f : Bor Finding). f.now) fs))
as_many [] = refl
as_many (f ∷ fs) = one_more (is_suggestible f.now.kind) f _ f.now _ (as_many fs)
