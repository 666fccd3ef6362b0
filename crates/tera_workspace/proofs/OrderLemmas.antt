-- Names in their order, and those among them that pass a test.
use Rattle.std.proofs.Common.{◌≡◌, ◌∙◌, ℕ, List, [], ◌∷◌, map, Bool, true, false, cond, refl, sym, ap}
use Rattle.std.specs.Cmp.Lexicographic.{slice_cmp, nat_list_cmp_total}
use Rattle.std.specs.List.{AllByRecursion, filter}
use Rattle.std.specs.Ordering.{nat_cmp, is_eq}
use Rattle.std.specs.Str.{bytes_eq}
use Rattle.std.specs.declared.cmp.Ordering.TheVariants.{Less, Equal}
use Rattle.std.proofs.lemmas.Map.Text.{is_eq-slice_cmp}
use Rattle.std.proofs.lemmas.Slice.Eq.{bytes_eq-Decides}
use Rattle.tera_workspace.specs.Sources.{AreInOrder}
use Rattle.tera_workspace.proofs.PlaceLemmas.{false_true, differ}

-- a name before all of these
abbrev pub IsBefore : List ℕ → List (List ℕ) → Type 0
IsBefore n ns = AllByRecursion (λ m. slice_cmp nat_cmp n m ≡ Less) ns

pub all_above : (a b : List ℕ) → slice_cmp nat_cmp a b ≡ Less → (ns : List (List ℕ)) → IsBefore b ns → IsBefore a ns
all_above a b h [] all = tt
all_above a b h (n ∷ ns) all = (nat_list_cmp_total.trans a b n h all.0, all_above a b h ns all.1)

-- ---- two names

pub same_text : (a : List ℕ) → bytes_eq a a ≡ true
same_text a = (bytes_eq-Decides a a).1 refl

pub less_apart : (a b : List ℕ) → slice_cmp nat_cmp a b ≡ Less → bytes_eq a b ≡ false
less_apart a b less = sym (is_eq-slice_cmp a b) ∙ ap is_eq less

pub apart_back : (a b : List ℕ) → slice_cmp nat_cmp a b ≡ Less → bytes_eq b a ≡ false
apart_back a b less = differ b a (λ same. false_true (sym (less_apart a b less) ∙ (bytes_eq-Decides a b).1 (sym same)))

pub equal_texts : (a b : List ℕ) → slice_cmp nat_cmp a b ≡ Equal → a ≡ b
equal_texts a b equal = (bytes_eq-Decides a b).0 (sym (is_eq-slice_cmp a b) ∙ ap is_eq equal)

-- ---- of those that pass a test

module _ {X : Type 0} (f : X → List ℕ) (test : X → Bool) where
  before_filter : (n : List ℕ) (xs : List X) → IsBefore n (map f xs) → IsBefore n (map f (filter test xs))
  before_filter n [] h = tt
  before_filter n (x ∷ xs) h = by (test x) (before_filter n xs h.1)
    where
      by : (b : Bool) → IsBefore n (map f (filter test xs)) → IsBefore n (map f (cond b (x ∷ filter test xs) (filter test xs)))
      by true rest = (h.0, rest)
      by false rest = rest

  pub in_order_filter : (xs : List X) → AreInOrder (map f xs) → AreInOrder (map f (filter test xs))
  in_order_filter [] h = tt
  in_order_filter (x ∷ xs) h = by (test x) (in_order_filter xs h.1)
    where
      by : (b : Bool) → AreInOrder (map f (filter test xs)) → AreInOrder (map f (cond b (x ∷ filter test xs) (filter test xs)))
      by true rest = (before_filter (f x) xs h.0, rest)
      by false rest = rest
