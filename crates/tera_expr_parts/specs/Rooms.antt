-- What may still open inside of an expression.
use Rattle.std.specs.Prelude.{ℕ, Bool, true, false, Option}
use Rattle.tera_grammar.specs.expressions.Reading.Front as front
use Rattle.tera_grammar.specs.expressions.Reading.Rooms as parts
use Rattle.tera_expr_parts.specs.declared.limits.Room.{Room}

-- a test says whether something holds
abbrev pub Decides : Bool → Type 0 → Type 0
Decides true P = P
Decides false P = P → ⊥

abbrev pub room_of : Room → parts.Room
room_of r = parts.room r.scope.in_loop r.subscripts r.arrays

-- one less of what may still come
abbrev pub lowered : ℕ → Option ℕ
lowered n = front.lowered n
