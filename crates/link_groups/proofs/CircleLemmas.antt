-- A link closes a circle exactly if both of its ends are in one group.
use Rattle.std.proofs.Common.{◌≡◌, ◌∙◌, ◌+◌, ◌<◌, ◌≤◌, ◌⊎◌, inl, inr, ℕ, Bool, true, false, List, [], ◌∷◌, ◌++◌, length, get_or, refl, sym, ap, subst, arith}
use Rattle.std.specs.Prelude.{◌↔◌, nat_eq, Some, None, slice_get}
use Rattle.std.specs.List.{Contains}
use Rattle.std.proofs.lemmas.Bool.Decides.{leb_tells, eqb_tells}
use Rattle.std.proofs.lemmas.List.Elements.{Contains-get_or}
use Rattle.std.proofs.lemmas.List.{get_or_append_left, get_or_default, get_or_past, get_or_push}
use Rattle.std.proofs.lemmas.Option.{slice_get-get_or, slice_get_past}
use Rattle.link_groups.specs.Groups.{AreGroups, AreOnCircles, IsOnCircle, Reaches, Itself, By, is_one_group, is_same, links_at}
use Rattle.link_groups.proofs.Steps.{contains_none, no_way}

-- a number that no thing has leads nowhere
pub leads : (links : List (List ℕ)) (i j : ℕ) → Contains (links_at links i) j → i < length links
leads links i j link = elim (leb_tells (length links) i) [
  | inl past ↦ absurd (contains_none j (subst (λ xs. Contains xs j) (get_or_past links i [] past.1) link))
  | inr inside ↦ inside.1
]

stays : (links : List (List ℕ)) (i j : ℕ) → length links ≤ i → Reaches links i j → i ≡ j
stays links _ _ past (Itself i) = refl
stays links _ _ past (By i next j link rest) = absurd (let inside = leads links i next link in omega (arith, past, inside))

one_group : (gs : List ℕ) (i j : ℕ) → i < length gs → j < length gs → is_one_group gs i j ≡ nat_eq (get_or gs i 0) (get_or gs j 0)
one_group gs i j inside within = λ k. is_same (slice_get-get_or gs i 0 inside k) (slice_get-get_or gs j 0 within k)

no_group : (gs : List ℕ) (i j : ℕ) → length gs ≤ i → is_one_group gs i j ≡ false
no_group gs i j past = ap (λ o. is_same o (slice_get gs j)) (slice_get_past gs i past)

pub back : (links : List (List ℕ)) (gs : List ℕ) → AreGroups links gs → (i j : ℕ) → Contains (links_at links j) i → (is_one_group gs i j ≡ true) ↔ Reaches links i j
back links gs h i j link =
    let within = leads links j i link in
    elim (leb_tells (length links) i) [
      | inl past ↦ (
        λ one. absurd (no_way (sym (no_group gs i j (let l = h.each in let p = past.1 in omega (arith, l, p))) ∙ one)),
        λ to. absurd (let e = stays links i j past.1 to in let p = past.1 in omega (arith, e, p, within)),
      )
      | inr inside ↦
          let is = one_group gs i j (let l = h.each in let p = inside.1 in omega (arith, l, p)) (let l = h.each in omega (arith, l, within)) in
          let tied = h.together i j inside.1 within in (
            λ one. elim (eqb_tells (get_or gs i 0) (get_or gs j 0)) [
              | inl same ↦ (tied.0 same.1).0
              | inr other ↦ absurd (no_way (sym other.0 ∙ sym is ∙ one))
            ],
            λ to. is ∙ elim (eqb_tells (get_or gs i 0) (get_or gs j 0)) [
              | inl same ↦ same.0
              | inr other ↦ absurd (other.1 (tied.1 (to, By j i i link (Itself i))))
            ],
          )
    ]

-- ---- the links of one thing, and all things

-- none of the links before one leads back
pub no_more : (links : List (List ℕ)) (own : List ℕ) (thing at : ℕ) → at < length own
    → ((k : ℕ) → k < at → Reaches links (get_or own k 0) thing → ⊥) → (Reaches links (get_or own at 0) thing → ⊥)
    → (k : ℕ) → k < at + 1 → Reaches links (get_or own k 0) thing → ⊥
no_more links own thing at inside none last k below to = elim (eqb_tells k at) [
  | inl same ↦ last (subst (λ n. Reaches links (get_or own n 0) thing) same.1 to)
  | inr other ↦ none k (let ne = other.1 in omega (arith, below, ne)) to
]

-- one of them does; none of them does
pub is_on : (links : List (List ℕ)) (own : List ℕ) (thing at : ℕ) → links_at links thing ≡ own → at < length own
    → Reaches links (get_or own at 0) thing → IsOnCircle links thing
is_on links own thing at same inside to =
    (get_or own at 0, subst (λ xs. Contains xs (get_or own at 0)) (sym same) (Contains-get_or own at 0 inside), to)

pub is_not_on : (links : List (List ℕ)) (own : List ℕ) (thing : ℕ) → links_at links thing ≡ own
    → ((k : ℕ) → k < length own → Reaches links (get_or own k 0) thing → ⊥) → IsOnCircle links thing → ⊥
is_not_on links own thing same none (j, link, to) =
    let (k, inside, is) = subst (λ xs. Contains xs j) same link in
    none k inside (subst (λ n. Reaches links n thing) (sym (get_or_default own k 0 j inside ∙ is)) to)

-- one more is known
pub one_on : (links : List (List ℕ)) (on : List Bool) (b : Bool) (at : ℕ) → length on ≡ at
    → ((i : ℕ) → i < at → (get_or on i false ≡ true) ↔ IsOnCircle links i) → (b ≡ true) ↔ IsOnCircle links at
    → (i : ℕ) → i < at + 1 → (get_or (on ++ b ∷ []) i false ≡ true) ↔ IsOnCircle links i
one_on links on b at each h last i below = elim (eqb_tells i at) [
  | inl same ↦
      let is : get_or (on ++ b ∷ []) i false ≡ b = get_or_push on b false i (each ∙ sym same.1) in (
        λ on_it. subst (IsOnCircle links) (sym same.1) (last.0 (sym is ∙ on_it)),
        λ circle. is ∙ last.1 (subst (IsOnCircle links) same.1 circle),
      )
  | inr other ↦
      let inside : i < at = (let ne = other.1 in omega (arith, below, ne)) in
      let is : get_or (on ++ b ∷ []) i false ≡ get_or on i false = get_or_append_left on (b ∷ []) false i (omega (arith, inside, each)) in
      (λ on_it. (h i inside).0 (sym is ∙ on_it), λ circle. is ∙ (h i inside).1 circle)
]
