-- The powers of the operators, what is on the spines of an expression, and what the powers ask of operands. The left
-- spine is reached by left operands, the right spine by right operands, neither enters parentheses.
use Rattle.std.specs.Prelude.{◌≡◌, ℕ, suc, ◌<◌, ◌≤◌, List, [], ◌∷◌}
use Rattle.std.specs.List.{AllByRecursion}
use Rattle.tera_grammar.specs.expressions.Operators.{BinaryOperator, Mul, Div, Mod, Plus, Minus, FloorDiv, Power, LessThan, GreaterThan, LessThanOrEqual, GreaterThanOrEqual, Equal, NotEqual, And, Or, StrConcat, In}
use Rattle.tera_grammar.specs.expressions.Concrete.{Sign, Negative, Negates, Op, Single, NotIn, Tree, Atomic, Prefix, Suffixed, Infix, Chain, Suffix, Test, Filter, Subscript, Operator, Binary, Condition}

-- How strongly a binary operator holds its left operand, and its right one. A chain of one operator goes to the left,
-- and one of powers to the right.
abbrev pub left_of : BinaryOperator → ℕ
left_of Or = 1
left_of And = 3
left_of In = 5
left_of Equal = 7
left_of NotEqual = 7
left_of LessThan = 7
left_of LessThanOrEqual = 7
left_of GreaterThan = 7
left_of GreaterThanOrEqual = 7
left_of Plus = 11
left_of Minus = 11
left_of Mul = 13
left_of Div = 13
left_of Mod = 13
left_of StrConcat = 13
left_of FloorDiv = 13
left_of Power = 16

abbrev pub right_of : BinaryOperator → ℕ
right_of Power = 15
right_of o = suc (left_of o)

abbrev pub op_left : Op → ℕ
op_left (Single o s) = left_of o
op_left (NotIn s t) = left_of In

abbrev pub op_right : Op → ℕ
op_right (Single o s) = right_of o
op_right (NotIn s t) = right_of In

abbrev pub left_power : Operator → ℕ
left_power (Binary o) = op_left o
left_power (Condition s c t) = 0

abbrev pub right_power : Operator → ℕ
right_power (Binary o) = op_right o
right_power (Condition s c t) = 0

-- how strongly a test and a filter hold their operand; they are closed on the right, as a subscript is, which
-- has no power
abbrev pub test_power : ℕ
test_power = 5

abbrev pub filter_power : ℕ
filter_power = 17

-- how strongly a prefix holds its operand
abbrev pub sign_power : Sign → ℕ
sign_power (Negative s) = 20
sign_power (Negates s) = 5

-- The left powers on the left spine, from the root down. The spine passes through a subscript.
abbrev pub left_spine : Tree → List ℕ
left_spine (Atomic a) = []
left_spine (Prefix s e) = []
left_spine (Suffixed a (Test s n w g)) = test_power ∷ left_spine a
left_spine (Suffixed a (Filter s w g)) = filter_power ∷ left_spine a
left_spine (Suffixed a (Subscript s b)) = left_spine a
left_spine (Infix a o b) = left_power o ∷ left_spine a

-- The right powers on the right spine, from the root down: those of the nodes that are open on their right.
abbrev pub right_spine : Tree → List ℕ
right_spine (Atomic a) = []
right_spine (Prefix s e) = sign_power s ∷ right_spine e
right_spine (Suffixed a s) = []
right_spine (Infix a o b) = right_power o ∷ right_spine b

-- Of a right operand: each operator on its left spine has a left power of at least m.
abbrev pub AtLeast : ℕ → Tree → Type 0
AtLeast m t = AllByRecursion (λ p. m ≤ p) (left_spine t)

-- Of a left operand: each node on its right spine has a right power above p.
abbrev pub Above : ℕ → Tree → Type 0
Above p t = AllByRecursion (λ r. p < r) (right_spine t)

-- it is not a name with its links, whose subscripts are links
abbrev pub NoChain : Tree → Type 0
NoChain (Atomic (Chain n ls)) = ⊥
NoChain _ = Unit {0}

-- The operand may be before this suffix. Before a subscript it has to be closed on its right.
abbrev pub Carries : Tree → Suffix → Type 0
Carries a (Test s n w g) = Above test_power a
Carries a (Filter s w g) = Above filter_power a
Carries a (Subscript s b) = (right_spine a ≡ []) × NoChain a

-- it does not begin with a prefix
abbrev pub BeginsPlain : Tree → Type 0
BeginsPlain (Atomic a) = Unit {0}
BeginsPlain (Prefix s e) = ⊥
BeginsPlain (Suffixed a s) = BeginsPlain a
BeginsPlain (Infix a o b) = BeginsPlain a
