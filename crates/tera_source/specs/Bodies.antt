-- Whether a component is called with a body in an expression.
use Rattle.std.specs.Prelude.{Bool, false, not, ◌||◌}
use Rattle.tera_ast.specs.declared.ast.ArrayEntryOf.{ArrayEntryOf}
use Rattle.tera_ast.specs.declared.ast.ArrayEntryOf.TheVariants as items
use Rattle.tera_ast.specs.declared.ast.MapEntryOf.{MapEntryOf}
use Rattle.tera_ast.specs.declared.ast.MapEntryOf.TheVariants as entries
use Rattle.tera_ast.specs.Tree.{Expr, Const, Array, Map, Var, GetAttr, GetItem, Slice, Filter, Test, Ternary, ListComprehension, ComponentCall, FunctionCall, UnaryOperation, BinaryOperation, MaybeExpr, NoExpr, OneExpr, Args, NoArgs, Arg, Items, NoItems, Item, SpreadItem, Entries, NoEntries, Entry, SpreadEntry}

abbrev mutual
  pub has_body : Expr → Bool
  has_body (Const v span) = false
  has_body (Array es span) = items_have_body es
  has_body (Map es span) = entries_have_body es
  has_body (Var name span) = false
  has_body (GetAttr e name optional span) = has_body e
  has_body (GetItem e sub optional span) = has_body e || has_body sub
  has_body (Slice e start end step optional span) = has_body e || (maybe_has_body start || (maybe_has_body end || maybe_has_body step))
  has_body (Filter e name args span) = has_body e || args_have_body args
  has_body (Test e name args span) = has_body e || args_have_body args
  has_body (Ternary e given other span) = has_body e || (has_body given || has_body other)
  has_body (ListComprehension e key value target condition span) = has_body e || (has_body target || maybe_has_body condition)
  has_body (ComponentCall name es body closed span) = not closed || entries_have_body es
  has_body (FunctionCall name args span) = args_have_body args
  has_body (UnaryOperation o e span) = has_body e
  has_body (BinaryOperation o l r span) = has_body l || has_body r

  pub maybe_has_body : MaybeExpr → Bool
  maybe_has_body NoExpr = false
  maybe_has_body (OneExpr e) = has_body e

  pub args_have_body : Args → Bool
  args_have_body NoArgs = false
  args_have_body (Arg name e more) = has_body e || args_have_body more

  pub items_have_body : Items → Bool
  items_have_body NoItems = false
  items_have_body (Item e es) = has_body e || items_have_body es
  items_have_body (SpreadItem e es) = has_body e || items_have_body es

  pub entries_have_body : Entries → Bool
  entries_have_body NoEntries = false
  entries_have_body (Entry k e es) = has_body e || entries_have_body es
  entries_have_body (SpreadEntry e es) = has_body e || entries_have_body es

-- of an item, and of an entry, by itself
abbrev pub item_has_body : ArrayEntryOf Expr → Bool
item_has_body (items.Item e) = has_body e
item_has_body (items.Spread e) = has_body e

abbrev pub entry_has_body : MapEntryOf Expr → Bool
entry_has_body (entries.KeyValue k e) = has_body e
entry_has_body (entries.Spread e) = has_body e
