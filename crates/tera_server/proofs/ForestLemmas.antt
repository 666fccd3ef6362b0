-- Symbols in the order of their starts, and the forest in which they are.
use Rattle.std.proofs.Common.{◌≡◌, ◌∙◌, ◌<◌, ◌≤◌, ◌⊎◌, ◌++◌, ◌∷◌, [], ℕ, suc, List, length, get_or, Bool, true, false, nat_lt, refl, sym, ap, subst, append_assoc, arith}
use Rattle.std.specs.List.{AllByRecursion}
use Rattle.tera_outline.specs.Symbols.{Outlined, AreNested}
use Rattle.tera_answers.specs.Outlines.{Forest, nothing, symbol, before, from, nested, in_order, AreWithin}

-- ---- each is there once

divided : (k : ℕ) (f : Forest) → in_order (before k f) ++ in_order (from k f) ≡ in_order f
divided k nothing = refl
divided k (symbol s inner following) = by (nat_lt s.start k) refl (divided k following)
  where
    by : (b : Bool) → nat_lt s.start k ≡ b → in_order (before k following) ++ in_order (from k following) ≡ in_order following
        → in_order (before k (symbol s inner following)) ++ in_order (from k (symbol s inner following)) ≡ in_order (symbol s inner following)
    by true t h = rw t (ap (λ ss. s ∷ ss) (append_assoc (in_order inner) (in_order (before k following)) (in_order (from k following)) ∙ ap (λ ss. in_order inner ++ ss) h))
    by false t h = rw t refl

pub all_there : (ss : List Outlined) → in_order (nested ss) ≡ ss
all_there [] = refl
all_there (s ∷ ss) = ap (λ xs. s ∷ xs) (divided s.end (nested ss) ∙ all_there ss)

-- ---- each is within the one in which it is

-- of two, the later begins after the start of the earlier, and after its end or ends no later
abbrev Follows : Outlined → Outlined → Type 0
Follows a b = (a.start < b.start) × ((a.end ≤ b.start) ⊎ (b.end ≤ a.end))

abbrev pub Nests : List Outlined → Type 0
Nests [] = Unit {0}
Nests (s ∷ ss) = AllByRecursion (Follows s) ss × Nests ss

module _ (P : Outlined → Type 0) where
  all_append : (xs ys : List Outlined) → AllByRecursion P (xs ++ ys) → AllByRecursion P xs × AllByRecursion P ys
  all_append [] ys h = (tt, h)
  all_append (x ∷ xs) ys h = let (a, b) = all_append xs ys h.1 in ((h.0, a), b)

  all_both : (xs ys : List Outlined) → AllByRecursion P xs → AllByRecursion P ys → AllByRecursion P (xs ++ ys)
  all_both [] ys h g = g
  all_both (x ∷ xs) ys h g = (h.0, all_both xs ys h.1 g)

  all_before : (k : ℕ) (f : Forest) → AllByRecursion P (in_order f) → AllByRecursion P (in_order (before k f))
  all_before k f h = (all_append (in_order (before k f)) (in_order (from k f)) (subst (AllByRecursion P) (sym (divided k f)) h)).0

all_by : (P Q : Outlined → Type 0) → ((x : Outlined) → P x → Q x) → (xs : List Outlined) → AllByRecursion P xs → AllByRecursion Q xs
all_by P Q f [] h = tt
all_by P Q f (x ∷ xs) h = (f x h.0, all_by P Q f xs h.1)

nests_after : (xs ys : List Outlined) → Nests (xs ++ ys) → Nests ys
nests_after [] ys h = h
nests_after (x ∷ xs) ys h = nests_after xs ys h.1

-- one symbol begins after the start of another, and ends no later than it
abbrev IsIn : Outlined → Outlined → Type 0
IsIn s i = (s.start < i.start) × (i.end ≤ s.end)

-- those before the end of a symbol are in it
before_within : (s : Outlined) (f : Forest) → AllByRecursion (Follows s) (in_order f) → AreWithin f → AllByRecursion (IsIn s) (in_order (before s.end f))
before_within s nothing h w = tt
before_within s (symbol t inner following) h w = by (nat_lt t.start s.end) refl (before_within s following (all_append (Follows s) (in_order inner) (in_order following) h.1).1 w.3)
  where
    by : (b : Bool) → nat_lt t.start s.end ≡ b → AllByRecursion (IsIn s) (in_order (before s.end following))
        → AllByRecursion (IsIn s) (in_order (before s.end (symbol t inner following)))
    by false e g = rw e tt
    by true e g =
        let begins : s.start < t.start = h.0.0 in
        let ends : t.end ≤ s.end = grind (arith, e, h.0) in
        rw e (
          (begins, ends),
          all_both (IsIn s) (in_order inner) (in_order (before s.end following))
              (all_by (IsIn t) (IsIn s) (λ x g. (omega (arith, g.0, begins), omega (arith, g.1, ends))) (in_order inner) w.0) g,
        )

-- those from a byte on begin no earlier
from_begins : (k : ℕ) (f : Forest) → Nests (in_order f) → AllByRecursion (λ (b : Outlined). k ≤ b.start) (in_order (from k f))
from_begins k nothing h = tt
from_begins k (symbol t inner following) h = by (nat_lt t.start k) refl (from_begins k following (nests_after (in_order inner) (in_order following) h.1))
  where
    by : (b : Bool) → nat_lt t.start k ≡ b → AllByRecursion (λ (b : Outlined). k ≤ b.start) (in_order (from k following))
        → AllByRecursion (λ (b : Outlined). k ≤ b.start) (in_order (from k (symbol t inner following)))
    by true e g = rw e g
    by false e g =
        let begins : k ≤ t.start = grind (arith, e) in
        rw e (begins, all_by (Follows t) (λ (b : Outlined). k ≤ b.start) (λ x g. omega (arith, g.0, begins)) (in_order inner ++ in_order following) h.0)

within_before : (k : ℕ) (f : Forest) → AreWithin f → AreWithin (before k f)
within_before k nothing w = tt
within_before k (symbol t inner following) w = by (nat_lt t.start k) refl (within_before k following w.3)
  where
    by : (b : Bool) → nat_lt t.start k ≡ b → AreWithin (before k following) → AreWithin (before k (symbol t inner following))
    by true e g = rw e (w.0, all_before (λ (b : Outlined). t.end ≤ b.start) k following w.1, w.2, g)
    by false e g = rw e tt

within_from : (k : ℕ) (f : Forest) → AreWithin f → AreWithin (from k f)
within_from k nothing w = tt
within_from k (symbol t inner following) w = by (nat_lt t.start k) refl (within_from k following w.3)
  where
    by : (b : Bool) → nat_lt t.start k ≡ b → AreWithin (from k following) → AreWithin (from k (symbol t inner following))
    by true e g = rw e g
    by false e g = rw e w

pub all_within : (ss : List Outlined) → Nests ss → AreWithin (nested ss)
all_within [] h = tt
all_within (s ∷ ss) h =
    let f = nested ss in
    let w = all_within ss h.1 in
    let follow : AllByRecursion (Follows s) (in_order f) = subst (AllByRecursion (Follows s)) (sym (all_there ss)) h.0 in
    let nests : Nests (in_order f) = subst Nests (sym (all_there ss)) h.1 in
    (before_within s f follow w, from_begins s.end f nests, within_before s.end f w, within_from s.end f w)

-- the same by numbers
first_follows : (s : Outlined) (xs : List Outlined) → ((k : ℕ) (d : Outlined) → k < length xs → Follows s (get_or xs k d)) → AllByRecursion (Follows s) xs
first_follows s [] g = tt
first_follows s (x ∷ xs) g = (g 0 x (omega arith), first_follows s xs (λ k d within. g (suc k) d (omega (arith, within))))

pub nests : (ss : List Outlined) → AreNested ss → Nests ss
nests [] h = tt
nests (s ∷ ss) h = (first_follows s ss (λ k d within. h 0 (suc k) d (omega arith) (omega (arith, within))), nests ss (λ i j d up within. h (suc i) (suc j) d (omega (arith, up)) (omega (arith, within))))
