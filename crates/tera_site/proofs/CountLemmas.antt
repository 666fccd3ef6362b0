-- Counts of blocks by their names, and the blocks that are counted.
use Rattle.std.proofs.Common.{◌≡◌, ◌∙◌, ◌+◌, ◌-◌, ◌<◌, ◌⊎◌, inl, inr, ℕ, Bool, true, false, cond, List, [], ◌∷◌, ◌++◌, Option, Some, Bor, append-nil, length, get_or, take, refl, sym, ap, arith}
use Rattle.std.specs.Prelude.{◌||◌, ◌&&◌, nat_lt, unwrap_or}
use Rattle.std.specs.BTreeSet.{BTreeSet, UpdatesBy}
use Rattle.std.specs.Cmp.Lexicographic.{slice_cmp}
use Rattle.std.specs.List.{count_by, list_any}
use Rattle.std.specs.Ordering.{nat_cmp}
use Rattle.std.specs.Str.{bytes_eq}
use Rattle.std.proofs.lemmas.List.{map_push, take_more}
use Rattle.std.proofs.lemmas.List.Concat.{flat_map-append}
use Rattle.std.proofs.lemmas.List.Folds.{list_any-append}
use Rattle.std.proofs.lemmas.List.Sums.{sum_by-append}
use Rattle.std.proofs.lemmas.Map.Text.{is_eq-slice_cmp}
use Rattle.std.proofs.lemmas.Slice.Eq.{bytes_eq-Decides}
use Rattle.tera_site.specs.Sites.{if_any, numbers_by}
use Rattle.tera_site.specs.Views.{has_name, names_of}
use Rattle.tera_site.proofs.TourLemmas.{lt_more, no_way}

-- ---- tests

is_or_not : (b : Bool) → (b ≡ true) ⊎ (b ≡ false)
is_or_not true = inl refl
is_or_not false = inr refl

-- two names are the same, or they are not
pub same_name : (n m : List ℕ) → ((n ≡ m) × (bytes_eq n m ≡ true) × (bytes_eq m n ≡ true)) ⊎ ((bytes_eq n m ≡ false) × (bytes_eq m n ≡ false))
same_name n m = elim (is_or_not (bytes_eq n m)) [
  | inl is ↦ let same = (bytes_eq-Decides n m).0 is in inl (same, is, (bytes_eq-Decides m n).1 (sym same))
  | inr other ↦ inr (
    other,
    elim (is_or_not (bytes_eq m n)) [
      | inl is ↦ absurd (no_way (sym other ∙ (bytes_eq-Decides n m).1 (sym ((bytes_eq-Decides m n).0 is))))
      | inr none ↦ none
    ],
  )
]

pub or_true : (b : Bool) → (b || true) ≡ true
or_true true = refl
or_true false = refl

pub or_false : (b : Bool) → (b || false) ≡ b
or_false true = refl
or_false false = refl

either_and : (a b c : Bool) → ((a && c) || (b && c)) ≡ ((a || b) && c)
either_and true b true = refl
either_and true true false = refl
either_and true false false = refl
either_and false b c = refl

-- names so far
pub names_more : (bs : List (Bor (List ℕ))) (at : ℕ) (b : Bor (List ℕ)) → at < length bs → get_or bs at b ≡ b
    → names_of (take (at + 1) bs) ≡ names_of (take at bs) ++ b.now ∷ []
names_more bs at b inside is =
    ap names_of (take_more bs at b inside ∙ ap (λ x. take at bs ++ x ∷ []) is) ∙ map_push (λ n. n.now) (take at bs) b

-- the numbers of one more name
pub numbers_push : (named : List ℕ → Option ℕ) (ns : List (List ℕ)) (n : List ℕ) → numbers_by named (ns ++ n ∷ []) ≡ numbers_by named ns ++ if_any (named n)
numbers_push named ns n = flat_map-append (λ m. if_any (named m)) ns (n ∷ []) ∙ ap (λ xs. numbers_by named ns ++ xs) (append-nil (if_any (named n)))

-- ---- the blocks that are counted

pub set_now : (key : Bor (List ℕ)) (s t : BTreeSet (Bor (List ℕ))) → UpdatesBy (λ x y. slice_cmp nat_cmp x.now y.now) (λ k. slice_cmp nat_cmp key.now k.now) s t true
    → (n : List ℕ) → has_name t n ≡ cond (bytes_eq key.now n) true (has_name s n)
set_now key s t h n = h.0 (record { ref_ptr = (0, 0); now = n }) ∙ ap (λ b. cond b true (has_name s n)) (is_eq-slice_cmp key.now n)

pub put_added : (old now : Bool) (block n : List ℕ) (count : List ℕ → ℕ) → now ≡ cond (bytes_eq block n) true old → 0 < count block
    → now ≡ (old || (bytes_eq n block && nat_lt 0 (count n)))
put_added old now block n count is more = is ∙ elim (same_name n block) [
  | inl yes_is ↦ let (same, here, back) = yes_is in
      (λ i. cond (back i) true old)
      ∙ sym ((λ i. old || (here i && nat_lt 0 (count (same i)))) ∙ ap (λ b. old || b) (lt_more (count block) more) ∙ or_true old)
  | inr no_is ↦ let (not_here, not_back) = no_is in
      (λ i. cond (not_back i) true old) ∙ sym ((λ i. old || (not_here i && nat_lt 0 (count n))) ∙ or_false old)
]

pub own_more : (old now : Bool) (ns : List (List ℕ)) (n m : List ℕ) (c : Bool) → old ≡ (list_any (bytes_eq n) ns && c) → now ≡ (old || (bytes_eq n m && c))
    → now ≡ (list_any (bytes_eq n) (ns ++ m ∷ []) && c)
own_more old now ns n m c was is =
    is ∙ ap (λ b. b || (bytes_eq n m && c)) was ∙ either_and (list_any (bytes_eq n) ns) (bytes_eq n m) c
    ∙ ap (λ b. b && c) (sym (list_any-append (bytes_eq n) ns (m ∷ []) ∙ ap (λ b. list_any (bytes_eq n) ns || b) (or_false (bytes_eq n m))))

-- ---- counts

count_push : (n : List ℕ) (ns : List (List ℕ)) (m : List ℕ) → count_by (bytes_eq n) (ns ++ m ∷ []) ≡ count_by (bytes_eq n) ns + cond (bytes_eq n m) 1 0
count_push n ns m =
    let alone : count_by (bytes_eq n) (m ∷ []) ≡ cond (bytes_eq n m) 1 0 = omega arith in
    sum_by-append (λ x. cond (bytes_eq n x) 1 0) ns (m ∷ []) ∙ ap (λ k. count_by (bytes_eq n) ns + k) alone

pub one_more : (old next : List ℕ → Option ℕ) (block n : List ℕ) (k : ℕ) → next n ≡ cond (bytes_eq block n) (Some k) (old n) → k ≡ unwrap_or (old block) 0 + 1
    → unwrap_or (next n) 0 ≡ unwrap_or (old n) 0 + cond (bytes_eq n block) 1 0
one_more old next block n k is more = ap (λ o. unwrap_or o 0) is ∙ elim (same_name n block) [
  | inl yes_is ↦ let (same, here, back) = yes_is in
      (λ i. unwrap_or (cond (back i) (Some k) (old n)) 0) ∙ more ∙ sym (λ i. unwrap_or (old (same i)) 0 + cond (here i) 1 0)
  | inr no_is ↦ let (not_here, not_back) = no_is in
      (λ i. unwrap_or (cond (not_back i) (Some k) (old n)) 0) ∙ sym ((λ i. unwrap_or (old n) 0 + cond (not_here i) 1 0) ∙ omega arith)
]

pub one_less : (old next : List ℕ → Option ℕ) (block n : List ℕ) (k : ℕ) → next n ≡ cond (bytes_eq block n) (Some k) (old n) → k ≡ unwrap_or (old block) 0 - 1
    → unwrap_or (next n) 0 ≡ unwrap_or (old n) 0 - cond (bytes_eq n block) 1 0
one_less old next block n k is less = ap (λ o. unwrap_or o 0) is ∙ elim (same_name n block) [
  | inl yes_is ↦ let (same, here, back) = yes_is in
      (λ i. unwrap_or (cond (back i) (Some k) (old n)) 0) ∙ less ∙ sym (λ i. unwrap_or (old (same i)) 0 - cond (here i) 1 0)
  | inr no_is ↦ let (not_here, not_back) = no_is in
      (λ i. unwrap_or (cond (not_back i) (Some k) (old n)) 0) ∙ sym ((λ i. unwrap_or (old n) 0 - cond (not_here i) 1 0) ∙ omega arith)
]

pub counted_more : (n m : List ℕ) (ns : List (List ℕ)) (start before after : ℕ) → before ≡ count_by (bytes_eq n) ns + start → after ≡ before + cond (bytes_eq n m) 1 0
    → after ≡ count_by (bytes_eq n) (ns ++ m ∷ []) + start
counted_more n m ns start before after was is = let e = count_push n ns m in omega (arith, e, was, is)

pub counted_less : (n m : List ℕ) (ns : List (List ℕ)) (start before after : ℕ) → before ≡ start - count_by (bytes_eq n) ns → after ≡ before - cond (bytes_eq n m) 1 0
    → after ≡ start - count_by (bytes_eq n) (ns ++ m ∷ [])
counted_less n m ns start before after was is = let e = count_push n ns m in omega (arith, e, was, is)
