-- An expression apart from where it and its parts are.
use Rattle.tera_lexer.specs.code.Cursors.{nowhere}
use Rattle.tera_ast.specs.Tree as tree
use Rattle.tera_ast.specs.Tree.{Expr}

abbrev mutual
  pub placeless : Expr → Expr
  placeless (tree.Const v s) = tree.Const v nowhere
  placeless (tree.Var n s) = tree.Var n nowhere
  placeless (tree.GetAttr e n o s) = tree.GetAttr (placeless e) n o nowhere
  placeless (tree.GetItem e i o s) = tree.GetItem (placeless e) (placeless i) o nowhere
  placeless (tree.Slice e a b c o s) = tree.Slice (placeless e) (placeless_part a) (placeless_part b) (placeless_part c) o nowhere
  placeless (tree.UnaryOperation o e s) = tree.UnaryOperation o (placeless e) nowhere
  placeless (tree.BinaryOperation o a b s) = tree.BinaryOperation o (placeless a) (placeless b) nowhere
  placeless (tree.Test e n g s) = tree.Test (placeless e) n (placeless_args g) nowhere
  placeless (tree.Filter e n g s) = tree.Filter (placeless e) n (placeless_args g) nowhere
  placeless (tree.FunctionCall n g s) = tree.FunctionCall n (placeless_args g) nowhere
  placeless (tree.Ternary c a b s) = tree.Ternary (placeless c) (placeless a) (placeless b) nowhere
  placeless (tree.Array is s) = tree.Array (placeless_items is) nowhere
  placeless (tree.Map es s) = tree.Map (placeless_entries es) nowhere
  placeless (tree.ListComprehension e k v t c s) = tree.ListComprehension (placeless e) k v (placeless t) (placeless_part c) nowhere
  placeless (tree.ComponentCall n es body closes s) = tree.ComponentCall n (placeless_entries es) body closes nowhere

  pub placeless_part : tree.MaybeExpr → tree.MaybeExpr
  placeless_part tree.NoExpr = tree.NoExpr
  placeless_part (tree.OneExpr e) = tree.OneExpr (placeless e)

  pub placeless_args : tree.Args → tree.Args
  placeless_args tree.NoArgs = tree.NoArgs
  placeless_args (tree.Arg n e g) = tree.Arg n (placeless e) (placeless_args g)

  pub placeless_items : tree.Items → tree.Items
  placeless_items tree.NoItems = tree.NoItems
  placeless_items (tree.Item e is) = tree.Item (placeless e) (placeless_items is)
  placeless_items (tree.SpreadItem e is) = tree.SpreadItem (placeless e) (placeless_items is)

  pub placeless_entries : tree.Entries → tree.Entries
  placeless_entries tree.NoEntries = tree.NoEntries
  placeless_entries (tree.Entry k e es) = tree.Entry k (placeless e) (placeless_entries es)
  placeless_entries (tree.SpreadEntry e es) = tree.SpreadEntry (placeless e) (placeless_entries es)
