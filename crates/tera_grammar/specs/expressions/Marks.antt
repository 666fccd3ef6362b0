-- The tokens that are always the same, by name: marks, operators and words.
use Rattle.std.specs.Prelude.{codes, []}
use Rattle.tera_base.specs.declared.utils.Span.{Span}
use Rattle.tera_lexer.specs.grammar.Tokens.{Tok, Items, Token, Content, Ident, Symbol}
use Rattle.tera_grammar.specs.expressions.Operators.{BinaryOperator, Mul, Div, Mod, Plus, Minus, FloorDiv, Power, LessThan, GreaterThan, LessThanOrEqual, GreaterThanOrEqual, Equal, NotEqual, And, Or, StrConcat, In}

pub data Mark : Type 0 where
  LeftParen RightParen LeftBracket RightBracket QuestionBracket LeftBrace RightBrace : Mark
  Comma Colon Dot QuestionDot Spread Assign Bar At : Mark
  Not Is If Else For : Mark
  Operation : BinaryOperator → Mark
  Other : Mark

-- the token of a binary operator
abbrev pub operator_token : BinaryOperator → Tok
operator_token Mul = Symbol (codes "*")
operator_token Div = Symbol (codes "/")
operator_token Mod = Symbol (codes "%")
operator_token Plus = Symbol (codes "+")
operator_token Minus = Symbol (codes "-")
operator_token FloorDiv = Symbol (codes "//")
operator_token Power = Symbol (codes "**")
operator_token LessThan = Symbol (codes "<")
operator_token GreaterThan = Symbol (codes ">")
operator_token LessThanOrEqual = Symbol (codes "<=")
operator_token GreaterThanOrEqual = Symbol (codes ">=")
operator_token Equal = Symbol (codes "==")
operator_token NotEqual = Symbol (codes "!=")
operator_token And = Ident (codes "and")
operator_token Or = Ident (codes "or")
operator_token StrConcat = Symbol (codes "~")
operator_token In = Ident (codes "in")

-- the token of a mark; `Other` stands for the tokens that are none of these
abbrev pub mark_token : Mark → Tok
mark_token LeftParen = Symbol (codes "(")
mark_token RightParen = Symbol (codes ")")
mark_token LeftBracket = Symbol (codes "[")
mark_token RightBracket = Symbol (codes "]")
mark_token QuestionBracket = Symbol (codes "?[")
mark_token LeftBrace = Symbol (codes "{")
mark_token RightBrace = Symbol (codes "}")
mark_token Comma = Symbol (codes ",")
mark_token Colon = Symbol (codes ":")
mark_token Dot = Symbol (codes ".")
mark_token QuestionDot = Symbol (codes "?.")
mark_token Spread = Symbol (codes "...")
mark_token Assign = Symbol (codes "=")
mark_token Bar = Symbol (codes "|")
mark_token At = Symbol (codes "@")
mark_token Not = Ident (codes "not")
mark_token Is = Ident (codes "is")
mark_token If = Ident (codes "if")
mark_token Else = Ident (codes "else")
mark_token For = Ident (codes "for")
mark_token (Operation o) = operator_token o
mark_token Other = Content []

-- a mark in front of other tokens
abbrev pub mark : Mark → Span → Items → Items
mark m span items = Token (mark_token m) span items
