-- Links are reversed one by one.
use Rattle.std.proofs.Common.{◌≡◌, ◌≢◌, ◌∙◌, ◌+◌, ◌<◌, ◌≤◌, ◌⊎◌, Vec, Global, inl, inr, ℕ, zero, suc, List, [], ◌∷◌, ◌++◌, length, get_or, map, set, take, refl, sym, ap, subst, arith}
use Rattle.std.specs.Prelude.{◌↔◌}
use Rattle.std.specs.List.{Contains}
use Rattle.std.proofs.lemmas.Bool.Decides.{eqb_tells, leb_tells}
use Rattle.std.proofs.lemmas.List.Elements.{Contains-append_left, Contains-push, Contains-push_cases}
use Rattle.std.proofs.lemmas.List.{get_or-map, get_or-set_same, get_or-set_other, length-map, length-set, map-set, set_past, take_more}
use Rattle.link_groups.specs.Ends.{AddsEnds}
use Rattle.link_groups.specs.Groups.{AreReversed, links_at}
use Rattle.link_groups.proofs.Steps.{contains_none}

-- ---- the ends of one thing

abbrev Links : Type 0
Links = Vec ℕ Global

abbrev all_items : List Links → List (List ℕ)
all_items vs = map (λ v. v.items) vs

pub end_pushed : (vs : List Links) (end thing : ℕ) (old new : Links) → old ≡ get_or vs end old → new.items ≡ old.items ++ thing ∷ []
    → all_items (set vs end new) ≡ set (all_items vs) end (links_at (all_items vs) end ++ thing ∷ [])
end_pushed vs end thing old new value more =
    map-set (λ v. v.items) vs end new ∙ elim (leb_tells (length vs) end) [
      | inl past ↦
          let beyond : length (all_items vs) ≤ end = (let l = length-map vs (λ v. v.items) in let p = past.1 in omega (arith, l, p)) in
          set_past (all_items vs) end new.items beyond ∙ sym (set_past (all_items vs) end (links_at (all_items vs) end ++ thing ∷ []) beyond)
      | inr inside ↦
          ap (set (all_items vs) end) (more ∙ ap (λ xs. xs ++ thing ∷ []) (ap (λ v. v.items) value ∙ sym (get_or-map (λ v. v.items) vs end old [] inside.1)))
    ]

pub no_ends : (old : List (List ℕ)) (thing : ℕ) → AddsEnds old [] thing old
no_ends old thing = record {
  each = refl;
  added = λ i j inside. (λ has. inl has, λ has. elim has [ inl before ↦ before | inr end ↦ absurd (contains_none i end.0) ]);
}

-- what is elsewhere, and at an end
elsewhere : (now : List (List ℕ)) (end thing i : ℕ) → i ≢ end → links_at (set now end (links_at now end ++ thing ∷ [])) i ≡ links_at now i
elsewhere now end thing i other = get_or-set_other now end i (links_at now end ++ thing ∷ []) [] other

module _ (now : List (List ℕ)) (end thing : ℕ) (inside : end < length now) where
  abbrev after : List (List ℕ)
  after = set now end (links_at now end ++ thing ∷ [])

  at_end : (i j : ℕ) → i ≡ end → Contains (links_at after i) j ↔ (Contains (links_at now i) j ⊎ (j ≡ thing))
  at_end i j same =
      let is : links_at after i ≡ links_at now i ++ thing ∷ [] =
      ap (links_at after) same ∙ get_or-set_same now end (links_at now end ++ thing ∷ []) [] inside ∙ ap (λ e. links_at now e ++ thing ∷ []) (sym same) in (
        λ has. elim (Contains-push_cases (links_at now i) thing j (subst (λ xs. Contains xs j) is has)) [ inl before ↦ inl before | inr new ↦ inr (sym new) ],
        λ has. subst (λ xs. Contains xs j) (sym is) (elim has [
          | inl before ↦ Contains-append_left (links_at now i) (thing ∷ []) j before
          | inr new ↦ subst (Contains (links_at now i ++ thing ∷ [])) (sym new) (Contains-push (links_at now i) thing)
        ]),
      )

-- one more
pub one_end : (old now next : List (List ℕ)) (ends : List ℕ) (at thing : ℕ) → at < length ends
    → next ≡ set now (get_or ends at 0) (links_at now (get_or ends at 0) ++ thing ∷ [])
    → AddsEnds old (take at ends) thing now → AddsEnds old (take (at + 1) ends) thing next
one_end old now next ends at thing within is h =
    let end = get_or ends at 0 in
    let more : take (at + 1) ends ≡ take at ends ++ end ∷ [] = take_more ends at 0 within in
    subst (λ xs. AddsEnds old xs thing next) (sym more) (subst (AddsEnds old (take at ends ++ end ∷ []) thing) (sym is) (record {
      each = length-set now end (links_at now end ++ thing ∷ []) ∙ h.each;
      added = λ i j inside. elim (eqb_tells i end) [
        | inl same ↦
            let here = at_end now end thing (let e = same.1 in let l = h.each in omega (arith, e, l, inside)) i j same.1 in (
              λ has. elim (here.0 has) [
                | inl before ↦ elim ((h.added i j inside).0 before) [ inl first ↦ inl first | inr added ↦ inr (Contains-append_left (take at ends) (end ∷ []) i added.0, added.1) ]
                | inr new ↦ inr (subst (Contains (take at ends ++ end ∷ [])) (sym same.1) (Contains-push (take at ends) end), new)
              ],
              λ has. here.1 (elim has [
                | inl first ↦ inl ((h.added i j inside).1 (inl first))
                | inr added ↦ inr added.1
              ]),
            )
        | inr other ↦
            let stays = elsewhere now end thing i other.1 in (
              λ has. elim ((h.added i j inside).0 (subst (λ xs. Contains xs j) stays has)) [
                | inl first ↦ inl first
                | inr added ↦ inr (Contains-append_left (take at ends) (end ∷ []) i added.0, added.1)
              ],
              λ has. subst (λ xs. Contains xs j) (sym stays) ((h.added i j inside).1 (elim has [
                | inl first ↦ inl first
                | inr added ↦ elim (Contains-push_cases (take at ends) end i added.0) [ inl before ↦ inr (before, added.1) | inr same ↦ absurd (other.1 (sym same)) ]
              ])),
            )
      ];
    }))

-- ---- all things

-- the links of so many things were reversed
pub record AreReversedTo (links : List (List ℕ)) (at : ℕ) (now : List (List ℕ)) : Type 0 where
  pub each : length now ≡ length links
  pub linked : (i j : ℕ) → i < length links → Contains (links_at now i) j ↔ ((j < at) × Contains (links_at links j) i)

none_at : {X : Type 0} (ls : List X) (i j : ℕ) → Contains (links_at (map (λ l. []) ls) i) j → ⊥
none_at [] i j has = contains_none j has
none_at (l ∷ ls) zero j has = contains_none j has
none_at (l ∷ ls) (suc i) j has = none_at ls i j has

pub none_reversed : {X : Type 0} (links : List (List ℕ)) (ls : List X) (now : List (List ℕ)) → length ls ≡ length links → now ≡ map (λ l. []) ls → AreReversedTo links 0 now
none_reversed links ls now each is = subst (AreReversedTo links 0) (sym is) (record {
  each = length-map ls (λ l. []) ∙ each;
  linked = λ i j inside. (λ has. absurd (none_at ls i j has), λ has. absurd (let below = has.0 in omega (arith, below)));
})

pub one_reversed : (links now next : List (List ℕ)) (at : ℕ) → AreReversedTo links at now → AddsEnds now (links_at links at) at next → AreReversedTo links (at + 1) next
one_reversed links now next at h step = record {
  each = step.each ∙ h.each;
  linked = λ i j inside.
      let here = step.added i j (let l = h.each in omega (arith, l, inside)) in (
        λ has. elim (here.0 has) [
          | inl before ↦ let (below, link) = (h.linked i j inside).0 before in (omega (arith, below), link)
          | inr added ↦ (let e = added.1 in omega (arith, e), subst (λ k. Contains (links_at links k) i) (sym added.1) added.0)
        ],
        λ has. here.1 (elim (eqb_tells j at) [
          | inl same ↦ inr (subst (λ k. Contains (links_at links k) i) same.1 has.1, same.1)
          | inr other ↦ inl ((h.linked i j inside).1 (let below = has.0 in let ne = other.1 in omega (arith, below, ne), has.1))
        ]),
      );
}

-- a thing that there is not has no link
linking : (links : List (List ℕ)) (i j : ℕ) → Contains (links_at links j) i → j < length links
linking [] i j has = absurd (contains_none i has)
linking (l ∷ ls) i zero has = omega arith
linking (l ∷ ls) i (suc j) has = let below = linking ls i j has in omega (arith, below)

pub all_reversed : (links now : List (List ℕ)) (at : ℕ) → at ≡ length links → AreReversedTo links at now → AreReversed links now
all_reversed links now at end h = record {
  each = h.each;
  linked = λ i j inside. (
    λ has. ((h.linked i j inside).0 has).1,
    λ link. (h.linked i j inside).1 (let below = linking links i j link in omega (arith, below, end), link),
  );
}
