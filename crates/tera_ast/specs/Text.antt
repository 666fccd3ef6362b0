-- The printed text of an expression.
use Rattle.std.specs.Prelude.{ℕ, suc, List, [], ◌++◌, Bool, true, false, Option, None, Some, codes, if◌then◌else◌}
use Rattle.std.specs.Fmt.{decimal}
use Rattle.tera_base.specs.Text.{key_text, comma_text, const_text}
use Rattle.tera_ast.specs.Tree.{Nodes, NoNodes, OneNode, Expr, Const, Array, Map, Var, GetAttr, GetItem, Slice, Filter, Test, Ternary, ListComprehension, ComponentCall, FunctionCall, UnaryOperation, BinaryOperation, MaybeExpr, NoExpr, OneExpr, Args, NoArgs, Arg, Items, NoItems, Item, SpreadItem, Entries, NoEntries, Entry, SpreadEntry}
use Rattle.tera_base.specs.ValueView.{key_view}
use Rattle.tera_ast.specs.declared.ast.ArrayEntryOf.{ArrayEntryOf}
use Rattle.tera_ast.specs.declared.ast.ArrayEntryOf.TheVariants as items
use Rattle.tera_ast.specs.declared.ast.MapEntryOf.{MapEntryOf}
use Rattle.tera_ast.specs.declared.ast.MapEntryOf.TheVariants as entries
use Rattle.tera_ast.specs.declared.ast.UnaryOperator.{UnaryOperator}
use Rattle.tera_ast.specs.declared.ast.UnaryOperator.TheVariants as unary
use Rattle.tera_ast.specs.declared.ast.BinaryOperator.{BinaryOperator}
use Rattle.tera_ast.specs.declared.ast.BinaryOperator.TheVariants as binary

abbrev pub unary_text : UnaryOperator → List ℕ
unary_text unary.Not = codes "not"
unary_text unary.Minus = codes "-"

abbrev pub binary_text : BinaryOperator → List ℕ
binary_text binary.Mul = codes "*"
binary_text binary.Div = codes "/"
binary_text binary.Mod = codes "%"
binary_text binary.Plus = codes "+"
binary_text binary.Minus = codes "-"
binary_text binary.FloorDiv = codes "//"
binary_text binary.Power = codes "**"
binary_text binary.LessThan = codes "<"
binary_text binary.GreaterThan = codes ">"
binary_text binary.LessThanOrEqual = codes "<="
binary_text binary.GreaterThanOrEqual = codes ">="
binary_text binary.Equal = codes "=="
binary_text binary.NotEqual = codes "!="
binary_text binary.And = codes "and"
binary_text binary.Or = codes "or"
binary_text binary.StrConcat = codes "~"
binary_text binary.In = codes "in"
binary_text binary.Is = codes "is"
binary_text binary.Pipe = codes "|"

-- what opens a field, and whether it is optional
abbrev pub dot_text : Bool → List ℕ
dot_text optional = if optional then codes "?." else codes "."

abbrev pub bracket_text : Bool → List ℕ
bracket_text optional = if optional then codes "?[" else codes "["

-- a name with its arguments
abbrev pub call_text : List ℕ → List ℕ → List ℕ
call_text name args = name ++ (codes "{" ++ (args ++ codes "}"))

-- the names of a comprehension
abbrev pub names_text : Option (List ℕ) → List ℕ → List ℕ
names_text None value = value
names_text (Some key) value = key ++ (codes ", " ++ value)

abbrev pub count_of : Nodes → ℕ
count_of NoNodes = 0
count_of (OneNode n ns) = suc (count_of ns)

-- what comes after the attributes of a component call: a body is given by the number of its nodes
abbrev pub closing_text : List ℕ → Bool → ℕ → List ℕ
closing_text name closed n = if closed then codes "/>" else (codes ">[nodes: " ++ (decimal n ++ (codes "]<" ++ (name ++ codes "/>"))))

abbrev mutual
  pub text : Expr → List ℕ
  text (Const v span) = const_text v
  text (Array es span) = codes "[" ++ (items_text false es ++ codes "]")
  text (Map es span) = codes "{" ++ (entries_text false es ++ codes "}")
  text (Var name span) = name
  text (GetAttr e name optional span) = text e ++ (dot_text optional ++ name)
  text (GetItem e sub optional span) = text e ++ (bracket_text optional ++ (text sub ++ codes "]"))
  text (Slice e start end step optional span) =
      text e ++ (bracket_text optional ++ (maybe_text [] start ++ (maybe_text (codes ":") end ++ (maybe_text (codes ":") step ++ codes "]"))))
  text (Filter e name args span) = codes "(| " ++ (text e ++ (codes " " ++ (call_text name (args_text false args) ++ codes ")")))
  text (Test e name args span) = codes "(is " ++ (text e ++ (codes " " ++ (call_text name (args_text false args) ++ codes ")")))
  text (Ternary e given other span) = text given ++ (codes " if " ++ (text e ++ (codes " else " ++ text other)))
  text (ListComprehension e key value target condition span) =
      codes "[" ++ (text e ++ (codes " for " ++ (names_text key value ++ (codes " in " ++ (text target ++ (maybe_text (codes " if ") condition ++ codes "]"))))))
  text (ComponentCall name es body closed span) = codes "<" ++ (call_text name (entries_text false es) ++ closing_text name closed (count_of body))
  text (FunctionCall name args span) = call_text name (args_text false args)
  text (UnaryOperation op e span) = codes "(" ++ (unary_text op ++ (codes " " ++ (text e ++ codes ")")))
  text (BinaryOperation op l r span) = codes "(" ++ (binary_text op ++ (codes " " ++ (text l ++ (codes " " ++ (text r ++ codes ")")))))

  -- an expression that may be there, after what is before it
  pub maybe_text : List ℕ → MaybeExpr → List ℕ
  maybe_text before NoExpr = []
  maybe_text before (OneExpr e) = before ++ text e

  pub args_text : Bool → Args → List ℕ
  args_text later NoArgs = []
  args_text later (Arg name e more) = comma_text later ++ ((name ++ (codes "=" ++ text e)) ++ args_text true more)

  pub items_text : Bool → Items → List ℕ
  items_text later NoItems = []
  items_text later (Item e es) = comma_text later ++ (text e ++ items_text true es)
  items_text later (SpreadItem e es) = comma_text later ++ ((codes "..." ++ text e) ++ items_text true es)

  pub entries_text : Bool → Entries → List ℕ
  entries_text later NoEntries = []
  entries_text later (Entry k e es) = comma_text later ++ ((key_text k ++ (codes ": " ++ text e)) ++ entries_text true es)
  entries_text later (SpreadEntry e es) = comma_text later ++ ((codes "..." ++ text e) ++ entries_text true es)

-- an item, and an entry, by itself
abbrev pub item_text : ArrayEntryOf Expr → List ℕ
item_text (items.Item e) = text e
item_text (items.Spread e) = codes "..." ++ text e

abbrev pub entry_text : MapEntryOf Expr → List ℕ
entry_text (entries.KeyValue k e) = key_text (key_view k) ++ (codes ": " ++ text e)
entry_text (entries.Spread e) = codes "..." ++ text e
