-- What is read, or the tokens before which reading stopped. Steps that may stop, one after another.
use Rattle.std.specs.Prelude.{◌≡◌, ◌⊎◌, ℕ, Bool, true, false, List, Option, Some, None}
use Rattle.tera_base.specs.Errors.{IsMemory}
use Rattle.tera_base.specs.declared.errors.Error.{Error}
use Rattle.tera_base.specs.declared.utils.Span.{Span}
use Rattle.tera_lexer.specs.grammar.Tokens.{Tok, Items, Ended, Failed, Token}

-- Reading stops before the token that it refuses.
pub data Read (A : Type 0) : Type 0 where
  found : A → Read A
  stopped : Items → Read A

infixl 10 ◌>>=◌
abbrev pub ◌>>=◌ : {A B : Type 0} → Read A → (A → Read B) → Read B
(stopped z) >>= f = stopped z
(found x) >>= f = f x

-- a test that has to hold, where reading is here
abbrev pub holds : Items → Bool → Read (Unit {0})
holds z true = found tt
holds z false = stopped z

-- a value that there has to be
abbrev pub given : {A : Type 0} → Items → Option A → Read A
given z None = stopped z
given z (Some x) = found x

-- what is read, and the tokens after it
abbrev pub Takes : Type 0 → Type 0
Takes A = Read (A × Items)

-- the first token, where it is of some kind
abbrev pub first_as : {A : Type 0} → (Tok → Span → Option A) → Items → Takes A
first_as kind (Token t s us) = given (Token t s us) (kind t s) >>= λ x. found (x, us)
first_as kind z = stopped z

-- what is read, if it is
abbrev pub forget : {A : Type 0} → Read A → Option A
forget (found x) = Some x
forget (stopped z) = None

-- one step after another, as the operator
abbrev pub bind : {A B : Type 0} → Read A → (A → Read B) → Read B
bind o f = o >>= f

-- Reading stopped, and these tokens are left: those from the token that it refuses on, or those after it. Where it
-- stopped at the lexical fault in which the tokens end, none are left.
abbrev pub StopsAt : {A : Type 0} → Read A → Items → Type 0
StopsAt read left =
    (read ≡ stopped left) ⊎ ((t : Tok) × (s : Span) × (read ≡ stopped (Token t s left)))
    ⊎ ((text : List ℕ) × (s : Span) × (read ≡ stopped (Failed text s)) × (left ≡ Ended))

-- An allocation failed, or reading stopped where these tokens are left.
abbrev pub Fails : {A : Type 0} → Read A → Items → Error → Type 0
Fails read left e = IsMemory e ⊎ StopsAt read left
