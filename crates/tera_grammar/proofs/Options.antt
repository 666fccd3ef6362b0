-- The parts of readings that succeed, and tests on texts.
use Rattle.std.proofs.Common.{◌≡◌, ◌≢◌, ℕ, Bool, true, false, not, ◌&&◌, ◌||◌, List, Option, Some, None, refl}
use Rattle.std.specs.Str.{bytes_eq}
use Rattle.std.proofs.lemmas.Slice.Eq.{bytes_eq-Decides}
use Rattle.tera_grammar.specs.Options.{◌>>=◌, guard}

-- the parts of a reading that succeeds, as a step of a proof
pub bound : {A B : Type 0} {G : Type 0} (o : Option A) (f : A → Option B) (y : B) → (o >>= f) ≡ Some y → ((x : A) → o ≡ Some x → f x ≡ Some y → G) → G
bound None f y h then = cc
bound (Some x) f y h then = then x refl h

-- steps that agree on what is read
pub bind_both : {A B : Type 0} (o : Option A) (f g : A → Option B) → ((x : A) → o ≡ Some x → f x ≡ g x) → (o >>= f) ≡ (o >>= g)
bind_both None f g same = refl
bind_both (Some x) f g same = same x refl

pub none_some : {A : Type 0} {a : A} → None ≡ Some a → ⊥
none_some e = cc

pub guard_ok : (b : Bool) (u : Unit {0}) → guard b ≡ Some u → b ≡ true
guard_ok true u h = refl
guard_ok false u h = cc

pub not_ok : (b : Bool) → not b ≡ true → b ≡ false
not_ok true h = cc
not_ok false h = refl

pub guard_not : (b : Bool) (u : Unit {0}) → guard (not b) ≡ Some u → b ≡ false
guard_not b u h = not_ok b (guard_ok (not b) u h)

pub or_false : (a b : Bool) → (a || b) ≡ false → (a ≡ false) × (b ≡ false)
or_false true b h = cc
or_false false b h = (refl, h)

pub and_ok : (a b : Bool) → (a && b) ≡ true → (a ≡ true) × (b ≡ true)
and_ok true b h = (refl, h)
and_ok false b h = cc

pub bytes_same : (a b : List ℕ) → bytes_eq a b ≡ true → a ≡ b
bytes_same a b h = (bytes_eq-Decides a b).0 h

bool_apart : (b : Bool) → (b ≡ true → ⊥) → b ≡ false
bool_apart true h = absurd (h refl)
bool_apart false h = refl

pub bytes_apart : (a b : List ℕ) → a ≢ b → bytes_eq a b ≡ false
bytes_apart a b h = bool_apart (bytes_eq a b) (λ e. h (bytes_same a b e))

pub bytes_differ : (a b : List ℕ) → bytes_eq a b ≡ false → a ≢ b
bytes_differ a b h = λ e. differ_true (bytes_eq a b) h ((bytes_eq-Decides a b).1 e)
  where
    differ_true : (c : Bool) → c ≡ false → c ≡ true → ⊥
    differ_true true h k = cc
    differ_true false h k = cc
