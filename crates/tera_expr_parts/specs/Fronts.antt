-- What comes after an operand, without where it is.
use Rattle.std.specs.Prelude.{◌≡◌, ℕ, Bool, true, false, ltb, List, codes, if◌then◌else◌, is_some}
use Rattle.std.specs.Str.{bytes_eq}
use Rattle.tera_base.specs.declared.utils.Span.{Span}
use Rattle.tera_lexer.specs.grammar.Tokens.{Tok, Items, Token, Ident}
use Rattle.tera_ast.specs.declared.ast.UnaryOperator.{UnaryOperator}
use Rattle.tera_ast.specs.declared.ast.UnaryOperator.TheVariants as unary
use Rattle.tera_grammar.specs.Words.{is_not}
use Rattle.tera_grammar.specs.expressions.Operators as operators
use Rattle.tera_grammar.specs.expressions.Operators.{BinaryOperator}
use Rattle.tera_grammar.specs.expressions.Marks.{Operation}
use Rattle.tera_grammar.specs.expressions.Concrete.{Sign, Negative, Negates, Op}
use Rattle.tera_grammar.specs.expressions.Powers.{left_of, test_power, filter_power}
use Rattle.tera_grammar.specs.Reads.{forget}
use Rattle.tera_grammar.specs.expressions.Reading.Front as reading
use Rattle.tera_grammar.specs.expressions.Reading.Front.{takes}
use Rattle.tera_grammar.specs.expressions.Stack.{operator_in, is_negated}
use Rattle.tera_expr_parts.specs.declared.operators.Operator.{Operator}
use Rattle.tera_expr_parts.specs.declared.operators.Operator.TheVariants.{Mul, Div, Mod, Plus, Minus, FloorDiv, Power, LessThan, GreaterThan, LessThanOrEqual, GreaterThanOrEqual, Equal, NotEqual, And, Or, StrConcat, In}
use Rattle.tera_expr_parts.specs.declared.front.Ending.{Ending}
use Rattle.tera_expr_parts.specs.declared.front.Ending.TheVariants.{Test, Filter, Subscript}
use Rattle.tera_expr_parts.specs.declared.front.Front.{Front}
use Rattle.tera_expr_parts.specs.declared.front.Front.TheVariants.{Nothing, Joins, Chooses, Closes, Misplaced}

abbrev pub operator_of : Operator → BinaryOperator
operator_of Mul = operators.Mul
operator_of Div = operators.Div
operator_of Mod = operators.Mod
operator_of Plus = operators.Plus
operator_of Minus = operators.Minus
operator_of FloorDiv = operators.FloorDiv
operator_of Power = operators.Power
operator_of LessThan = operators.LessThan
operator_of GreaterThan = operators.GreaterThan
operator_of LessThanOrEqual = operators.LessThanOrEqual
operator_of GreaterThanOrEqual = operators.GreaterThanOrEqual
operator_of Equal = operators.Equal
operator_of NotEqual = operators.NotEqual
operator_of And = operators.And
operator_of Or = operators.Or
operator_of StrConcat = operators.StrConcat
operator_of In = operators.In

abbrev pub sign_of : UnaryOperator → Span → Sign
sign_of unary.Minus span = Negative span
sign_of unary.Not span = Negates span

-- an operator and whether it is negated; the `if` of a ternary; a test, a filter, a subscript; a `not` without `in`
pub data Kind : Type 0 where
  no_kind : Kind
  joined_by : BinaryOperator → Bool → Kind
  chosen : Kind
  tested filtered subscripted : Kind
  misplaced : Kind

abbrev pub kind_of : reading.Front → Kind
kind_of reading.nothing = no_kind
kind_of (reading.joins (reading.leads_binary o) ts) = joined_by (operator_in o) (is_negated o)
kind_of (reading.joins (reading.leads_condition s) ts) = chosen
kind_of (reading.closes (reading.ends_test s) ts) = tested
kind_of (reading.closes (reading.ends_filter s) ts) = filtered
kind_of (reading.closes (reading.ends_subscript s) ts) = subscripted
kind_of (reading.misplaced ts) = misplaced

abbrev pub ending_kind : Ending → Kind
ending_kind Test = tested
ending_kind Filter = filtered
ending_kind Subscript = subscripted

abbrev pub front_kind : Front → Kind
front_kind Nothing = no_kind
front_kind (Joins o n) = joined_by (operator_of o) n
front_kind Chooses = chosen
front_kind (Closes e) = ending_kind e
front_kind Misplaced = misplaced

-- how a test, a filter or a subscript begins whose first token is there
abbrev pub ending_of : Ending → Span → reading.Ending
ending_of Test span = reading.ends_test span
ending_of Filter span = reading.ends_filter span
ending_of Subscript span = reading.ends_subscript span

-- what does not go on with an operand, at a least power
abbrev pub keeps_off : ℕ → Kind → Bool
keeps_off m no_kind = true
keeps_off m (joined_by o n) = ltb (left_of o) m
keeps_off m chosen = ltb 0 m
keeps_off m tested = ltb test_power m
keeps_off m filtered = ltb filter_power m
keeps_off m subscripted = false
keeps_off m misplaced = ltb test_power m

abbrev pub IsName : Tok → Type 0
IsName (Ident name) = Unit {0}
IsName _ = ⊥

-- the tokens after an operator, and after the first token of what else goes on with an operand
abbrev pub IsOperatorBefore : reading.Front → BinaryOperator → Bool → Items → Type 0
IsOperatorBefore front o n following =
    (op : Op) × (front ≡ reading.joins (reading.leads_binary op) following) × (operator_in op ≡ o) × (is_negated op ≡ n)

abbrev pub second_is_in : Items → Bool
second_is_in (Token u s ts) = is_some (forget (takes (Operation operators.In) ts))
second_is_in _ = false

-- what a word is, where `in` comes after it or not
abbrev pub word_kind : List ℕ → Bool → Kind
word_kind text before_in =
    if bytes_eq text (codes "or") then joined_by operators.Or false
    else (if bytes_eq text (codes "and") then joined_by operators.And false
    else (if bytes_eq text (codes "in") then joined_by operators.In false
    else (if is_not text then (if before_in then joined_by operators.In true else misplaced)
    else (if bytes_eq text (codes "is") then tested
    else (if bytes_eq text (codes "if") then chosen
    else no_kind)))))
