-- Words of a law: something holds of each whole number among tokens, and of each among the constants of an
-- expression.
use Rattle.std.specs.Prelude.{◌≤◌, ℤ, nat_abs}
use Rattle.tera_base.specs.Values as values
use Rattle.tera_base.specs.Values.{Val, Vals, Pairs}
use Rattle.tera_ast.specs.Tree as tree
use Rattle.tera_ast.specs.Tree.{Expr}
pub use Rattle.tera_lexer.specs.grammar.Lexed.{EachNumber}

-- a number that a literal may be, with either sign: at most the greatest `i64`, greater than the least
abbrev pub IsLiteralNumber : ℤ → Type 0
IsLiteralNumber n = nat_abs n ≤ 9223372036854775807

-- it holds of the expression, where that is a number
abbrev pub HoldsOf : (ℤ → Type 0) → Expr → Type 0
HoldsOf P (tree.Const (values.I64 n) span) = P n
HoldsOf P _ = Unit {0}

-- it holds of each number in a value
abbrev mutual
  pub EachOfValue : (ℤ → Type 0) → Val → Type 0
  EachOfValue P (values.I64 n) = P n
  EachOfValue P (values.Array vs) = EachOfValues P vs
  EachOfValue P (values.Map ps) = EachOfPairs P ps
  EachOfValue P _ = Unit {0}

  pub EachOfValues : (ℤ → Type 0) → Vals → Type 0
  EachOfValues P values.NoVals = Unit {0}
  EachOfValues P (values.OneVal v vs) = EachOfValue P v × EachOfValues P vs

  pub EachOfPairs : (ℤ → Type 0) → Pairs → Type 0
  EachOfPairs P values.NoPairs = Unit {0}
  EachOfPairs P (values.OnePair k v ps) = EachOfValue P v × EachOfPairs P ps

-- it holds of each number in the constants of an expression; an expression of a source holds no nodes
abbrev mutual
  pub EachConstant : (ℤ → Type 0) → Expr → Type 0
  EachConstant P (tree.Const v span) = EachOfValue P v
  EachConstant P (tree.Array is span) = EachOfItems P is
  EachConstant P (tree.Map es span) = EachOfEntries P es
  EachConstant P (tree.Var n span) = Unit {0}
  EachConstant P (tree.GetAttr e n o span) = EachConstant P e
  EachConstant P (tree.GetItem e i o span) = EachConstant P e × EachConstant P i
  EachConstant P (tree.Slice e a b c o span) = EachConstant P e × EachOfMaybe P a × EachOfMaybe P b × EachOfMaybe P c
  EachConstant P (tree.Filter e n g span) = EachConstant P e × EachOfArgs P g
  EachConstant P (tree.Test e n g span) = EachConstant P e × EachOfArgs P g
  EachConstant P (tree.Ternary c a b span) = EachConstant P c × EachConstant P a × EachConstant P b
  EachConstant P (tree.ListComprehension e k v t c span) = EachConstant P e × EachConstant P t × EachOfMaybe P c
  EachConstant P (tree.ComponentCall n es b o span) = EachOfEntries P es
  EachConstant P (tree.FunctionCall n g span) = EachOfArgs P g
  EachConstant P (tree.UnaryOperation o e span) = EachConstant P e
  EachConstant P (tree.BinaryOperation o a b span) = EachConstant P a × EachConstant P b

  pub EachOfMaybe : (ℤ → Type 0) → tree.MaybeExpr → Type 0
  EachOfMaybe P tree.NoExpr = Unit {0}
  EachOfMaybe P (tree.OneExpr e) = EachConstant P e

  pub EachOfArgs : (ℤ → Type 0) → tree.Args → Type 0
  EachOfArgs P tree.NoArgs = Unit {0}
  EachOfArgs P (tree.Arg n e g) = EachConstant P e × EachOfArgs P g

  pub EachOfItems : (ℤ → Type 0) → tree.Items → Type 0
  EachOfItems P tree.NoItems = Unit {0}
  EachOfItems P (tree.Item e is) = EachConstant P e × EachOfItems P is
  EachOfItems P (tree.SpreadItem e is) = EachConstant P e × EachOfItems P is

  pub EachOfEntries : (ℤ → Type 0) → tree.Entries → Type 0
  EachOfEntries P tree.NoEntries = Unit {0}
  EachOfEntries P (tree.Entry k e es) = EachConstant P e × EachOfEntries P es
  EachOfEntries P (tree.SpreadEntry e es) = EachConstant P e × EachOfEntries P es
