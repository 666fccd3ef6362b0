-- Steps that may fail, one after another.
use Rattle.std.specs.Prelude.{Bool, true, false, Option, Some, None}

infixl 10 ◌>>=◌
abbrev pub ◌>>=◌ : {A B : Type 0} → Option A → (A → Option B) → Option B
None >>= f = None
(Some x) >>= f = f x

-- a test that has to hold
abbrev pub guard : Bool → Option (Unit {0})
guard true = Some tt
guard false = None
