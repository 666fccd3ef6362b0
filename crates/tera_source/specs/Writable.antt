-- Which expressions have a source text: those whose parts all have a form in the grammar. What is read of a source
-- is one of them.
use Rattle.std.specs.Prelude.{◌≡◌, Bool, true, false}
use Rattle.tera_base.specs.Values as values
use Rattle.tera_base.specs.Values.{KeyVal, TextKey, I64Key, TruthKey, Val, Vals, Pairs}
use Rattle.tera_ast.specs.declared.ast.BinaryOperator.{BinaryOperator}
use Rattle.tera_ast.specs.declared.ast.BinaryOperator.TheVariants as binary
use Rattle.tera_ast.specs.Tree.{Expr, Const, Array, Map, Var, GetAttr, GetItem, Slice, Filter, Test, Ternary, ListComprehension, ComponentCall, FunctionCall, UnaryOperation, BinaryOperation, MaybeExpr, NoExpr, OneExpr, Args, NoArgs, Arg, Items, NoItems, Item, SpreadItem, Entries, NoEntries, Entry, SpreadEntry}

-- a variable with its links
abbrev pub IsChain : Expr → Type 0
IsChain (Var name s) = Unit {0}
IsChain (GetAttr e name optional s) = IsChain e
IsChain (GetItem e sub optional s) = IsChain e
IsChain (Slice e start end step optional s) = IsChain e
IsChain _ = ⊥

-- only a variable with its links has optional subscripts
abbrev pub MayLink : Bool → Expr → Type 0
MayLink true e = IsChain e
MayLink false e = Unit {0}

-- a test and a filter are forms of their own
abbrev pub IsOperator : BinaryOperator → Type 0
IsOperator binary.Is = ⊥
IsOperator binary.Pipe = ⊥
IsOperator _ = Unit {0}

-- literals, and arrays and maps of them
abbrev mutual
  pub IsConstant : Val → Type 0
  IsConstant values.Nothing = Unit {0}
  IsConstant (values.Truth b) = Unit {0}
  IsConstant (values.I64 n) = Unit {0}
  IsConstant (values.Text text) = Unit {0}
  IsConstant (values.Array vs) = AreConstants vs
  IsConstant (values.Map ps) = AreConstantPairs ps
  IsConstant _ = ⊥

  pub AreConstants : Vals → Type 0
  AreConstants values.NoVals = Unit {0}
  AreConstants (values.OneVal v vs) = IsConstant v × AreConstants vs

  pub AreConstantPairs : Pairs → Type 0
  AreConstantPairs values.NoPairs = Unit {0}
  AreConstantPairs (values.OnePair k v ps) = IsConstant v × AreConstantPairs ps

-- the name of an attribute is a text
abbrev pub IsName : KeyVal → Type 0
IsName (TextKey text) = Unit {0}
IsName (I64Key n) = ⊥
IsName (TruthKey b) = ⊥

abbrev mutual
  pub IsWritable : Expr → Type 0
  IsWritable (Const v s) = IsConstant v
  IsWritable (Array es s) = AreWritableItems es
  IsWritable (Map es s) = AreWritableEntries es
  IsWritable (Var name s) = Unit {0}
  IsWritable (GetAttr e name optional s) = IsWritable e × IsChain e
  IsWritable (GetItem e sub optional s) = IsWritable e × IsWritable sub × MayLink optional e
  IsWritable (Slice e start end step optional s) = IsWritable e × MaybeWritable start × MaybeWritable end × MaybeWritable step × MayLink optional e
  IsWritable (Filter e name args s) = IsWritable e × AreWritableArgs args
  IsWritable (Test e name args s) = IsWritable e × AreWritableArgs args
  IsWritable (Ternary e given other s) = IsWritable e × IsWritable given × IsWritable other
  IsWritable (ListComprehension e key value target condition s) = IsWritable e × IsWritable target × MaybeWritable condition
  IsWritable (ComponentCall name es body closed s) = AreWritableAttributes es × (closed ≡ true)
  IsWritable (FunctionCall name args s) = AreWritableArgs args
  IsWritable (UnaryOperation o e s) = IsWritable e
  IsWritable (BinaryOperation o l r s) = IsWritable l × IsWritable r × IsOperator o

  pub MaybeWritable : MaybeExpr → Type 0
  MaybeWritable NoExpr = Unit {0}
  MaybeWritable (OneExpr e) = IsWritable e

  pub AreWritableArgs : Args → Type 0
  AreWritableArgs NoArgs = Unit {0}
  AreWritableArgs (Arg name e more) = IsWritable e × AreWritableArgs more

  pub AreWritableItems : Items → Type 0
  AreWritableItems NoItems = Unit {0}
  AreWritableItems (Item e es) = IsWritable e × AreWritableItems es
  AreWritableItems (SpreadItem e es) = IsWritable e × AreWritableItems es

  pub AreWritableEntries : Entries → Type 0
  AreWritableEntries NoEntries = Unit {0}
  AreWritableEntries (Entry k e es) = IsWritable e × AreWritableEntries es
  AreWritableEntries (SpreadEntry e es) = IsWritable e × AreWritableEntries es

  pub AreWritableAttributes : Entries → Type 0
  AreWritableAttributes NoEntries = Unit {0}
  AreWritableAttributes (Entry k e es) = IsName k × IsWritable e × AreWritableAttributes es
  AreWritableAttributes (SpreadEntry e es) = IsWritable e × AreWritableAttributes es
