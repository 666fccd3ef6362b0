-- Of a loop that puts what it finds after what it has: that and what is left are all, an element on and at the end.
use Rattle.std.proofs.Common.{◌≡◌, ◌∙◌, ◌+◌, ◌<◌, ◌≤◌, ◌∷◌, ◌++◌, ℕ, List, [], length, get_or, drop, sym, ap, append_assoc}
use Rattle.std.proofs.lemmas.List.{at_drop_more, at_drop_all, append-nil}

pub left_next : {X A : Type 0} (left : List X → List A) (all done now one : List A) (xs : List X) (i : ℕ) (x : X) → i < length xs → x ≡ get_or xs i x
    → left (x ∷ drop (i + 1) xs) ≡ one ++ left (drop (i + 1) xs) → now ≡ done ++ one → all ≡ done ++ left (drop i xs) → all ≡ now ++ left (drop (i + 1) xs)
left_next left all done now one xs i x within is step put so_far =
    let rest = drop (i + 1) xs in
    let this : left (drop i xs) ≡ one ++ left rest = at_drop_more left xs i x within ∙ (ap (λ y. left (y ∷ rest)) (sym is) ∙ step) in
    so_far ∙ (ap (λ r. done ++ r) this ∙ (sym (append_assoc done one (left rest)) ∙ ap (λ d. d ++ left rest) (sym put)))

pub left_last : {X A : Type 0} (left : List X → List A) (all done : List A) (xs : List X) (i : ℕ) → length xs ≤ i → left [] ≡ [] → all ≡ done ++ left (drop i xs) → done ≡ all
left_last left all done xs i over none so_far =
    sym (so_far ∙ (ap (λ r. done ++ r) (at_drop_all left xs i over ∙ none) ∙ append-nil done))
