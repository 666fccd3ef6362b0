-- A walk at its begin, and what its steps leave new.
use Rattle.std.proofs.Common.{◌≡◌, ◌∙◌, ◌+◌, ◌<◌, ◌≤◌, ◌⊎◌, inl, inr, ℕ, zero, suc, List, [], ◌∷◌, ◌++◌, length, get_or, map, set, reverse, refl, sym, ap, subst, arith}
use Rattle.std.proofs.lemmas.List.{get_or-map, length-map, reverse-append}
use Rattle.std.proofs.lemmas.List.Elements.{Contains-append_cases, Contains-append_left, Contains-append_right}
use Rattle.link_groups.specs.Groups.{AreGroups}
use Rattle.link_groups.specs.Walks.{AreBoth, ArePutIn, IsWalkOf, MeetsMore, group_at, place_at}
use Rattle.link_groups.specs.declared.walk.Knot.{Knot}
use Rattle.link_groups.specs.declared.walk.Place.{Place}
use Rattle.link_groups.specs.declared.walk.Place.TheVariants.{New, Open, Closed}
use Rattle.link_groups.proofs.Steps.{all_grouped, closed_new, closed_open, contains_or, new_closed, new_in, new_open, open_new, t_now, was}

pub reverse_push : (ks : List Knot) (k : Knot) → reverse (ks ++ k ∷ []) ≡ k ∷ reverse ks
reverse_push ks k = reverse-append ks (k ∷ [])

place_begun : {X : Type 0} (ls : List X) (i : ℕ) → (place_at (map (λ x. New) ls) i ≡ New) ⊎ ((length ls ≤ i) × (place_at (map (λ x. New) ls) i ≡ Closed 0))
place_begun [] i = inr (omega arith, refl)
place_begun (x ∷ ls) zero = inl refl
place_begun (x ∷ ls) (suc i) = elim (place_begun ls i) [ inl new ↦ inl new | inr past ↦ inr (let h = past.0 in omega (arith, h), past.1) ]

none_open : {X : Type 0} (ls : List X) (i m : ℕ) → place_at (map (λ x. New) ls) i ≡ Open m → ⊥
none_open ls i m is = elim (place_begun ls i) [ inl new ↦ new_open m (sym new ∙ is) | inr past ↦ closed_open 0 m (sym past.1 ∙ is) ]

none_closed : {X : Type 0} (ls : List X) (i g : ℕ) → i < length ls → place_at (map (λ x. New) ls) i ≡ Closed g → ⊥
none_closed ls i g inside is = elim (place_begun ls i) [ inl new ↦ new_closed g (sym new ∙ is) | inr past ↦ let h = past.0 in omega (arith, h, inside) ]

walk_of_new : {X : Type 0} (links : List (List ℕ)) (ls : List X) → length ls ≡ length links → IsWalkOf links (map (λ x. New) ls) [] 0 0
walk_of_new links ls each = record {
  each = length-map ls (λ x. New) ∙ each;
  are_open = λ i m is. absurd (none_open ls i m is);
  knots = λ i m is. absurd (none_open ls i m is);
  groups = record {
    below = λ i g inside is. absurd (none_closed ls i g (omega (arith, each, inside)) is);
    tied = λ i j g inside within is too. absurd (none_closed ls i g (omega (arith, each, inside)) is);
    led = λ i j g inside is link. absurd (none_closed ls i g (omega (arith, each, inside)) is);
  };
}

pub begun : {X : Type 0} (links : List (List ℕ)) (ls : List X) (ps : List Place) → ps ≡ map (λ x. New) ls → length ls ≡ length links → IsWalkOf links ps [] 0 0
begun links ls ps is each = subst (λ qs. IsWalkOf links qs [] 0 0) (sym is) (walk_of_new links ls each)

-- what is new after a step was new before it

pub opened_meets : (links : List (List ℕ)) (ps : List Place) (t number : ℕ) → place_at ps t ≡ New
    → MeetsMore ps (set ps t (Open number)) × (place_at (set ps t (Open number)) t ≡ New → ⊥)
opened_meets links ps t number new = (
  λ i is. elim (was links ps t number new i) [
    | inl same ↦ absurd (open_new number (sym (ap (place_at (set ps t (Open number))) same ∙ t_now links ps t number new) ∙ is))
    | inr before ↦ sym before ∙ is
  ],
  λ is. open_new number (sym (t_now links ps t number new) ∙ is),
)

pub put_meets : (ps now : List Place) (things : List ℕ) (group : ℕ) → ArePutIn ps things group now → MeetsMore ps now
put_meets ps now things group put i is = elim (contains_or things i) [
  | inl has ↦ absurd (closed_new group (sym (put.closed i (let inside = new_in now i is in let e = put.each in omega (arith, inside, e)) has) ∙ is))
  | inr none ↦ sym (put.others i none) ∙ is
]

pub meets_then : (old mid now : List Place) → MeetsMore old mid → MeetsMore mid now → MeetsMore old now
meets_then old mid now first second i is = first i (second i is)

-- a path without knots has no open thing
pub none_from : (links : List (List ℕ)) (ps : List Place) (opened closed : ℕ) → IsWalkOf links ps [] opened closed → (i m : ℕ) → place_at ps i ≡ Open m → ⊥
none_from links ps opened closed w i m is = let above = w.knots i m is in let below = w.are_open i m is in omega (arith, above, below)

-- the last knot is taken from the path, and one is put there
pub popped : (links : List (List ℕ)) (ps : List Place) (old now : List Knot) (k : Knot) (opened closed : ℕ) → old ≡ now ++ k ∷ []
    → IsWalkOf links ps (reverse old) opened closed → IsWalkOf links ps (k ∷ reverse now) opened closed
popped links ps old now k opened closed is w = subst (λ ks. IsWalkOf links ps ks opened closed) (ap reverse is ∙ reverse_push now k) w

pub pushed : (links : List (List ℕ)) (ps : List Place) (old now : List Knot) (k : Knot) (opened closed : ℕ) → now ≡ old ++ k ∷ []
    → IsWalkOf links ps (k ∷ reverse old) opened closed → IsWalkOf links ps (reverse now) opened closed
pushed links ps old now k opened closed is w = subst (λ ks. IsWalkOf links ps ks opened closed) (sym (ap reverse is ∙ reverse_push old k)) w

-- where all are in groups, these are the groups
pub grouped : (links : List (List ℕ)) (ps : List Place) (path : List Knot) (opened closed : ℕ) (gs : List ℕ) → path ≡ []
    → IsWalkOf links ps (reverse path) opened closed → ((i : ℕ) → i < length links → place_at ps i ≡ New → ⊥) → gs ≡ map group_at ps → AreGroups links gs
grouped links ps path opened closed gs empty w none is =
    let ended : IsWalkOf links ps [] opened closed = subst (λ ks. IsWalkOf links ps (reverse ks) opened closed) empty w in
    all_grouped links ps opened closed ended none gs
    (ap length is ∙ length-map ps group_at ∙ ended.each)
    (λ i inside. ap (λ xs. get_or xs i 0) is ∙ get_or-map group_at ps i (Closed 0) 0 (let e = ended.each in omega (arith, inside, e)))

-- what two lists together have
pub are_both : (xs ys : List ℕ) → AreBoth xs ys (xs ++ ys)
are_both xs ys x = (
  λ has. Contains-append_cases xs ys x has,
  λ has. elim has [ inl first ↦ Contains-append_left xs ys x first | inr second ↦ Contains-append_right xs ys x second ],
)

pub turned_both : (xs ys : List ℕ) → AreBoth xs ys (ys ++ xs)
turned_both xs ys x = (
  λ has. elim (Contains-append_cases ys xs x has) [ inl second ↦ inr second | inr first ↦ inl first ],
  λ has. elim has [ inl first ↦ Contains-append_right ys xs x first | inr second ↦ Contains-append_left ys xs x second ],
)
