-- What is among others.
use Rattle.std.proofs.Common.{◌≡◌, ◌∙◌, ◌<◌, ◌⊎◌, ℕ, zero, suc, List, [], ◌∷◌, ◌++◌, length, map, filter, cond, Bool, true, false, true≢false, Option, None, Some, inl, inr, refl, sym, ap, arith}
use Rattle.std.specs.List.{All, Contains, cons_option, filter_map}

pub first_in : {X : Type 0} (x : X) (xs : List X) → Contains (x ∷ xs) x
first_in x xs = (0, omega arith, refl)

pub later_in : {X : Type 0} (x : X) (xs : List X) (y : X) → Contains xs y → Contains (x ∷ xs) y
later_in x xs y (k, within, is) = (suc k, omega (arith, within), is)

pub none_in : {X : Type 0} (y : X) → Contains [] y → ⊥
none_in y (k, within, is) = omega (arith, within)

pub in_turn : {X : Type 0} (x : X) (xs : List X) (y : X) → Contains (x ∷ xs) y → (x ≡ y) ⊎ Contains xs y
in_turn x xs y (zero, within, is) = inl is
in_turn x xs y (suc k, within, is) = inr (k, omega (arith, within), is)

pub all_first : {X : Type 0} (P : X → Type 0) (x : X) (xs : List X) → P x → All P xs → All P (x ∷ xs)
all_first P x xs one rest zero d within = one
all_first P x xs one rest (suc k) d within = rest k d (omega (arith, within))

pub map_in : {X Y : Type 0} (f : X → Y) (xs : List X) (x : X) → Contains xs x → Contains (map f xs) (f x)
map_in f [] x h = absurd (none_in x h)
map_in f (y ∷ ys) x h = elim (in_turn y ys x h) [
  | inl same ↦ (0, omega arith, ap f same)
  | inr more ↦ later_in (f y) (map f ys) (f x) (map_in f ys x more)
]

pub in_map : {X Y : Type 0} (f : X → Y) (xs : List X) (y : Y) → Contains (map f xs) y → (x : X) × Contains xs x × (f x ≡ y)
in_map f [] y h = absurd (none_in y h)
in_map f (x ∷ xs) y h = elim (in_turn (f x) (map f xs) y h) [
  | inl same ↦ (x, first_in x xs, same)
  | inr more ↦ let (z, there, is) = in_map f xs y more in (z, later_in x xs z there, is)
]

pub in_filter_map : {X Y : Type 0} (h : X → Option Y) (xs : List X) (y : Y) → Contains (filter_map h xs) y → (x : X) × Contains xs x × (h x ≡ Some y)
in_filter_map h [] y c = absurd (none_in y c)
in_filter_map {X} {Y} h (x ∷ xs) y c = by (in_filter_map h xs y) (h x) refl c
  where
    by : (Contains (filter_map h xs) y → (z : X) × Contains xs z × (h z ≡ Some y)) → (o : Option Y) → h x ≡ o → Contains (cons_option o (filter_map h xs)) y → (z : X) × Contains (x ∷ xs) z × (h z ≡ Some y)
    by more None is c = let (z, there, e) = more c in (z, later_in x xs z there, e)
    by more (Some one) is c = elim (in_turn one (filter_map h xs) y c) [
      | inl same ↦ (x, first_in x xs, rw (← same) is)
      | inr c ↦ let (z, there, e) = more c in (z, later_in x xs z there, e)
    ]

pub in_filter : {X : Type 0} (test : X → Bool) (xs : List X) (y : X) → Contains (filter test xs) y → Contains xs y × (test y ≡ true)
in_filter test [] y c = absurd (none_in y c)
in_filter {X} test (x ∷ xs) y c = by (in_filter test xs y) (test x) refl c
  where
    by : (Contains (filter test xs) y → Contains xs y × (test y ≡ true)) → (b : Bool) → test x ≡ b → Contains (cond b (x ∷ filter test xs) (filter test xs)) y → Contains (x ∷ xs) y × (test y ≡ true)
    by more false is c = let (there, e) = more c in (later_in x xs y there, e)
    by more true is c = elim (in_turn x (filter test xs) y c) [
      | inl same ↦ ((0, omega arith, same), ap test (sym same) ∙ is)
      | inr c ↦ let (there, e) = more c in (later_in x xs y there, e)
    ]

pub filter_in : {X : Type 0} (test : X → Bool) (xs : List X) (y : X) → Contains xs y → test y ≡ true → Contains (filter test xs) y
filter_in test [] y c e = absurd (none_in y c)
filter_in {X} test (x ∷ xs) y c e = by (λ there. filter_in test xs y there e) (test x) refl
  where
    by : (Contains xs y → Contains (filter test xs) y) → (b : Bool) → test x ≡ b → Contains (cond b (x ∷ filter test xs) (filter test xs)) y
    by more true is = elim (in_turn x xs y c) [
      | inl same ↦ (0, omega arith, same)
      | inr there ↦ later_in x (filter test xs) y (more there)
    ]
    by more false is = elim (in_turn x xs y c) [
      | inl same ↦ absurd (true≢false (sym e ∙ (ap test (sym same) ∙ is)))
      | inr there ↦ more there
    ]
