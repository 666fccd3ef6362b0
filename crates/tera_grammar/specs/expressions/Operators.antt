-- The operators between two operands, as they are written, and what each is in the tree.
use Rattle.tera_ast.specs.declared.ast.BinaryOperator as declared
use Rattle.tera_ast.specs.declared.ast.BinaryOperator.TheVariants as binary

-- a test and a filter are forms of their own
pub data BinaryOperator : Type 0 where
  Mul Div Mod Plus Minus FloorDiv Power : BinaryOperator
  LessThan GreaterThan LessThanOrEqual GreaterThanOrEqual Equal NotEqual : BinaryOperator
  And Or StrConcat In : BinaryOperator

abbrev pub operator_made : BinaryOperator → declared.BinaryOperator
operator_made Mul = binary.Mul
operator_made Div = binary.Div
operator_made Mod = binary.Mod
operator_made Plus = binary.Plus
operator_made Minus = binary.Minus
operator_made FloorDiv = binary.FloorDiv
operator_made Power = binary.Power
operator_made LessThan = binary.LessThan
operator_made GreaterThan = binary.GreaterThan
operator_made LessThanOrEqual = binary.LessThanOrEqual
operator_made GreaterThanOrEqual = binary.GreaterThanOrEqual
operator_made Equal = binary.Equal
operator_made NotEqual = binary.NotEqual
operator_made And = binary.And
operator_made Or = binary.Or
operator_made StrConcat = binary.StrConcat
operator_made In = binary.In
