-- What is reported for each member of a list in turn, from one of its places on.
use Rattle.std.proofs.Common.{◌≡◌, ◌∙◌, ◌<◌, ◌+◌, ℕ, zero, suc, List, [], ◌∷◌, ◌++◌, length, drop, get_or, slice_get, map, Option, None, Some, Bor, option_map, refl, sym, ap, subst, append_assoc, arith}
use Rattle.std.proofs.lemmas.List.{drop_more}
use Rattle.std.proofs.lemmas.Option.{slice_get_past, slice_get_read}
use Rattle.std.specs.List.{flat_map}
use Rattle.std.specs.Slice.{IsItemAt}
use Rattle.tera_findings.specs.Findings.{FindingVal}
use Rattle.tera_check.specs.Found.{FoundVal}
use Rattle.tera_jobs.specs.Forms.{all_from, each_from}

pub drop_next : {X : Type 0} (xs : List X) (i : ℕ) (x : X) → i < length xs → x ≡ get_or xs i x → drop i xs ≡ x ∷ drop (i + 1) xs
drop_next xs i x h is = drop_more xs i x h ∙ ap (λ y. y ∷ drop (i + 1) xs) (sym is)

-- what is reported for one more
pub reported_more : {X V Y : Type 0} (view : X → V) (text : V → List Y) (all before after : List Y) (xs : List X) (i : ℕ) (x : X) → i < length xs
    → x ≡ get_or xs i x → all ≡ before ++ flat_map text (map view (drop i xs)) → after ≡ before ++ text (view x)
    → all ≡ after ++ flat_map text (map view (drop (i + 1) xs))
reported_more view text all before after xs i x h is held step =
    held ∙ ap (λ ys. before ++ flat_map text (map view ys)) (drop_next xs i x h is)
    ∙ sym (append_assoc before (text (view x)) (flat_map text (map view (drop (i + 1) xs))))
    ∙ ap (λ b. b ++ flat_map text (map view (drop (i + 1) xs))) (sym step)

-- .. with what is suggested for it
module _ {X : Type 0} (all before after : List ℕ) (xs : List X) (i : ℕ) (x : X) (within : i < length xs) (is : x ≡ get_or xs i x) where
  next : suc i ≡ i + 1
  next = omega arith

  pub each_more : (view : X → FindingVal) (of_one : Option (List ℕ) → FindingVal → List ℕ) (help : ℕ → Option (List ℕ))
      → all ≡ before ++ each_from of_one help i (map view (drop i xs)) → after ≡ before ++ of_one (help i) (view x)
      → all ≡ after ++ each_from of_one help (i + 1) (map view (drop (i + 1) xs))
  each_more view of_one help held step =
      let rest = map view (drop (i + 1) xs) in
      let one = of_one (help i) (view x) in
      held ∙ ap (λ ys. before ++ each_from of_one help i (map view ys)) (drop_next xs i x within is)
      ∙ ap (λ (k : ℕ). before ++ (one ++ each_from of_one help k rest)) next
      ∙ sym (append_assoc before one (each_from of_one help (i + 1) rest))
      ∙ ap (λ b. b ++ each_from of_one help (i + 1) rest) (sym step)

  pub all_more : (view : X → FoundVal) (of_one : List ℕ → Option (List ℕ) → FindingVal → List ℕ) (help : ℕ → ℕ → Option (List ℕ))
      → all ≡ before ++ all_from of_one help i (map view (drop i xs)) → after ≡ before ++ each_from (of_one (view x).0) (help i) 0 (view x).1
      → all ≡ after ++ all_from of_one help (i + 1) (map view (drop (i + 1) xs))
  all_more view of_one help held step =
      let rest = map view (drop (i + 1) xs) in
      let one = each_from (of_one (view x).0) (help i) 0 (view x).1 in
      held ∙ ap (λ ys. before ++ all_from of_one help i (map view ys)) (drop_next xs i x within is)
      ∙ ap (λ (k : ℕ). before ++ (one ++ all_from of_one help k rest)) next
      ∙ sym (append_assoc before one (all_from of_one help (i + 1) rest))
      ∙ ap (λ b. b ++ all_from of_one help (i + 1) rest) (sym step)

-- what is so of each member of a list by its number, with one more at its end
some_is : {X : Type 0} (x y : X) → Some x ≡ Some y → x ≡ y
some_is x y e = cc

pub each_pushed : {X : Type 0} (P : ℕ → X → Type 0) (xs : List X) (x : X) → ((i : ℕ) (y : X) → slice_get xs i ≡ Some y → P i y) → P (length xs) x
    → (i : ℕ) (y : X) → slice_get (xs ++ x ∷ []) i ≡ Some y → P i y
each_pushed P [] x h last zero y is = subst (P 0) (some_is x y is) last
each_pushed P [] x h last (suc i) y is = cc
each_pushed P (z ∷ xs) x h last zero y is = h 0 y is
each_pushed P (z ∷ xs) x h last (suc i) y is = each_pushed (λ k. P (suc k)) xs x (λ k w. h (suc k) w) last i y is

-- what `get` gives is the member of that number
pub item_got : {X : Type 0} (xs : List X) (i : ℕ) (r : Option (Bor X)) → IsItemAt xs i r → option_map (λ (t : Bor X). t.now) r ≡ slice_get xs i
item_got xs i None (a, b, c, past, e) = sym (slice_get_past xs i past)
item_got xs i (Some t) (a, b, c, held, e) = sym (slice_get_read xs (length xs) i t.now refl held.0 b)

-- nothing is a member of no list
pub none_held : {X : Type 0} (P : ℕ → X → Type 0) (xs : List X) → xs ≡ [] → (i : ℕ) (y : X) → slice_get xs i ≡ Some y → P i y
none_held P [] none zero y is = cc
none_held P [] none (suc i) y is = cc
none_held P (x ∷ xs) none i y is = cc
