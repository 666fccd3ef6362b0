-- How much may still open inside of an expression.
use Rattle.std.specs.Prelude.{ℕ, Bool, Option, Some}
use Rattle.tera_grammar.specs.Options.{◌>>=◌}
use Rattle.tera_grammar.specs.expressions.Reading.Front.{lowered}

-- whether the expression is in a loop, and how many subscripts and arrays may still open
pub record Room : Type 0 where
  pub in_loop : Bool
  pub subscripts : ℕ
  pub arrays : ℕ

abbrev pub room : Bool → ℕ → ℕ → Room
room l s a = record { in_loop = l; subscripts = s; arrays = a }

-- the room inside of a subscript, and inside of an array
unfoldable pub inside_subscript : Room → Option Room
inside_subscript w = lowered w.subscripts >>= λ s. Some (room w.in_loop s w.arrays)

unfoldable pub inside_array : Room → Option Room
inside_array w = lowered w.arrays >>= λ a. Some (room w.in_loop w.subscripts a)
