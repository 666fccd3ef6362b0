-- What a binary search finds among things in the order of their names.
use Rattle.std.proofs.Common.{◌≡◌, ◌∙◌, ◌<◌, ◌+◌, ℕ, zero, suc, List, [], ◌∷◌, length, get_or, map, Bool, true, false, cond, None, Some, Result, Ok, Err, MatchResult, refl, sym, ap, inl, inr, arith}
use Rattle.std.proofs.lemmas.Bool.Decides.{leb_tells}
use Rattle.std.proofs.lemmas.Cmp.{nat_list_cmp_total}
use Rattle.std.proofs.lemmas.List.Sorted.{searchable_from_sorted}
use Rattle.std.proofs.lemmas.Map.Text.{is_eq-slice_cmp}
use Rattle.std.specs.Cmp.Lexicographic.{slice_cmp}
use Rattle.std.specs.List.{find}
use Rattle.std.specs.List.Sorted.{IsSearchInRange, IsBinarySearchResult, IsNonDecreasingBy, IsPartitionPoint, IsSortedBy}
use Rattle.std.specs.Ordering.{nat_cmp, is_eq, is_lt, ordering_index, ordering_reverse}
use Rattle.std.specs.Str.{bytes_eq}
use Rattle.std.specs.declared.cmp.Ordering.{Ordering}
use Rattle.std.specs.declared.cmp.Ordering.TheVariants.{Less, Equal, Greater}
use Rattle.tera_workspace.specs.Sources.{AreInOrder}
use Rattle.tera_workspace.proofs.OrderLemmas.{IsBefore, equal_texts}

-- the first that passes a test is where those before it do not, and there is none where none does
found_at : {X : Type 0} (test : X → Bool) (xs : List X) (k : ℕ) (d : X) → k < length xs → test (get_or xs k d) ≡ true → ((m : ℕ) → m < k → test (get_or xs m d) ≡ false) → find test xs ≡ Some (get_or xs k d)
found_at test [] k d within is first = absurd (omega arith)
found_at test (x ∷ xs) zero d within is first = ap (λ b. cond b (Some x) (find test xs)) is
found_at test (x ∷ xs) (suc k) d within is first =
    ap (λ b. cond b (Some x) (find test xs)) (first 0 (omega arith)) ∙ found_at test xs k d (omega arith) is (λ m before. first (suc m) (omega arith))

found_nowhere : {X : Type 0} (test : X → Bool) (xs : List X) → ((m : ℕ) (d : X) → m < length xs → test (get_or xs m d) ≡ false) → find test xs ≡ None
found_nowhere test [] none = refl
found_nowhere test (x ∷ xs) none =
    ap (λ b. cond b (Some x) (find test xs)) (none 0 x (omega arith)) ∙ found_nowhere test xs (λ m d within. none (suc m) d (omega arith))

module _ {X : Type 0} (f : X → List ℕ) where
  name_at : (n : List ℕ) (xs : List X) (k : ℕ) (d : X) → IsBefore n (map f xs) → k < length xs → slice_cmp nat_cmp n (f (get_or xs k d)) ≡ Less
  name_at n [] k d before within = absurd (omega arith)
  name_at n (x ∷ xs) zero d before within = before.0
  name_at n (x ∷ xs) (suc k) d before within = name_at n xs k d before.1 (omega arith)

  earlier : (xs : List X) (i k : ℕ) (d : X) → AreInOrder (map f xs) → i < k → k < length xs → slice_cmp nat_cmp (f (get_or xs i d)) (f (get_or xs k d)) ≡ Less
  earlier [] i k d o before within = absurd (omega arith)
  earlier (x ∷ xs) i zero d o before within = absurd (omega arith)
  earlier (x ∷ xs) zero (suc k) d o before within = name_at (f x) xs k d o.0 (omega arith)
  earlier (x ∷ xs) (suc i) (suc k) d o before within = earlier xs i k d o.1 (omega arith) (omega arith)

module _ {X : Type 0} (f : X → List ℕ) (name : List ℕ) (xs : List X) (o : AreInOrder (map f xs)) where
  are_sorted : IsSortedBy (λ a b. is_lt (slice_cmp nat_cmp (f a) (f b))) xs
  are_sorted k d low high =
      ap is_lt (nat_list_cmp_total.antisymm (f (get_or xs (k + 1) d)) (f (get_or xs k d)) ∙ ap ordering_reverse (earlier f xs k (k + 1) d o (omega arith) high))

  rises : IsNonDecreasingBy (λ x. ordering_index (slice_cmp nat_cmp (f x) name)) xs
  rises = searchable_from_sorted nat_list_cmp_total f xs name are_sorted

  by_order : (x : X) (r : Ordering) → slice_cmp nat_cmp (f x) name ≡ r → bytes_eq (f x) name ≡ is_eq r
  by_order x r e = sym (is_eq-slice_cmp (f x) name) ∙ ap is_eq e

  pub search_found : (r : Result ℕ ℕ) → IsSearchInRange r (length xs) → IsBinarySearchResult (λ x. slice_cmp nat_cmp (f x) name) xs r
      → MatchResult r (λ k. (k < length xs) × ((d : X) → find (λ x. bytes_eq (f x) name) xs ≡ Some (get_or xs k d))) (λ k. find (λ x. bytes_eq (f x) name) xs ≡ None)
  search_found (Ok k) within at = (
    within,
    λ d.
        let same : f (get_or xs k d) ≡ name = equal_texts (f (get_or xs k d)) name (at d) in
        found_at (λ x. bytes_eq (f x) name) xs k d within (by_order (get_or xs k d) Equal (at d))
        (λ m before. by_order (get_or xs m d) Less (sym (ap (slice_cmp nat_cmp (f (get_or xs m d))) same) ∙ earlier f xs m k d o before within)),
  )
  search_found (Err k) within parted = by (parted rises)
    where
      by : IsPartitionPoint (λ x. slice_cmp nat_cmp (f x) name ≡ Less) (λ x. slice_cmp nat_cmp (f x) name ≡ Greater) xs k → find (λ x. bytes_eq (f x) name) xs ≡ None
      by (below, above) = found_nowhere (λ x. bytes_eq (f x) name) xs (λ m d h. elim (leb_tells (suc m) k) [
        | inl w ↦ by_order (get_or xs m d) Less (below m d (omega arith) (omega (arith, w.1)))
        | inr w ↦ by_order (get_or xs m d) Greater (above m d (omega (arith, w.1)) h)
      ])
