-- The names of templates, as they are found in the paths of their files.
use Rattle.std.proofs.Common.{◌≡◌, ◌∙◌, ◌<◌, ◌≤◌, ◌+◌, ◌++◌, ◌∷◌, [], ℕ, zero, suc, List, length, drop, Option, None, Some, option_map, unwrap_or, codes, Bor, refl, sym, ap, arith}
use Rattle.std.specs.Option.{MatchOption, option_and_then, option_or}
use Rattle.std.specs.Str.Pattern.{FindsText, SplitsAroundMatch, LacksTextAt}
use Rattle.tera_workspace.specs.Sites.{following}
use Rattle.tera_workspace.proofs.PathLemmas.{is_after, not_after}
use Rattle.tera_editor.specs.Templates.{after_first, name_in, name_in_folder}

-- below a folder
pub not_below : (folder file : List ℕ) → following folder file ≡ None → None ≡ name_in_folder folder file
not_below folder file none = sym (ap (option_and_then name_in) none)

pub not_named : (folder file path : List ℕ) → following folder file ≡ Some path → following (codes "/") path ≡ None → None ≡ name_in_folder folder file
not_named folder file path below none =
    sym (ap (option_and_then name_in) below ∙ ap (option_map (unwrap_or (after_first (codes "/templates/") path))) none)

pub named_below : (folder file path name : List ℕ) (inner : Option (List ℕ)) → following folder file ≡ Some path → following (codes "/") path ≡ Some name → inner ≡ after_first (codes "/templates/") path
    → Some (unwrap_or inner name) ≡ name_in_folder folder file
named_below folder file path name inner below named is =
    ap (λ o. Some (unwrap_or o name)) is
    ∙ sym (ap (option_and_then name_in) below ∙ ap (option_map (unwrap_or (after_first (codes "/templates/") path))) named)

-- .. and where it is first in it
none_of_none : (i : ℕ) → drop {A = ℕ} i [] ≡ []
none_of_none zero = refl
none_of_none (suc i) = refl

found : (part s : List ℕ) (i j : ℕ) → ((k : ℕ) → k < i → LacksTextAt part s k) → drop i s ≡ part ++ drop j s → j ≡ i + length part → after_first part s ≡ Some (drop j s)
found part [] i j lacks split ends = ap (following part) (sym (none_of_none i) ∙ split) ∙ is_after part (drop j [])
found part (b ∷ bs) zero j lacks split ends =
    ap (λ o. option_or o (after_first part bs)) (ap (following part) split ∙ is_after part (drop j (b ∷ bs)))
found part (b ∷ bs) (suc i) zero lacks split ends = absurd (omega (arith, ends))
found part (b ∷ bs) (suc i) (suc j) lacks split ends =
    ap (λ o. option_or o (after_first part bs)) (not_after part (b ∷ bs) (lacks 0 (omega arith)))
    ∙ found part bs i j (λ k below. lacks (suc k) (omega (arith, below))) split (omega (arith, ends))

nowhere : (part s : List ℕ) → ((i : ℕ) → i ≤ length s → LacksTextAt part s i) → after_first part s ≡ None
nowhere part [] lacks = not_after part [] (lacks 0 (omega arith))
nowhere part (b ∷ bs) lacks =
    ap (λ o. option_or o (after_first part bs)) (not_after part (b ∷ bs) (lacks 0 (omega arith)))
    ∙ nowhere part bs (λ k within. lacks (suc k) (omega (arith, within)))

pub split_after : (part s : List ℕ) (r : Option (Bor (List ℕ) × Bor (List ℕ))) → MatchOption r (FindsText part s None) (λ x. SplitsAroundMatch (FindsText part) s x.0.now x.1.now)
    → option_map (λ x. x.1.now) r ≡ after_first part s
split_after part s None h = sym (nowhere part s h)
split_after part s (Some x) (i, j, is, front, back, up, before, following) = ap Some back ∙ sym (found part s i j is.0 is.1.split is.1.ends)
