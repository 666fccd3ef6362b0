-- Whether two trees are the same, with where their parts are.
use Rattle.std.specs.Prelude.{ℕ, Bool, true, false, ◌&&◌, ◌==◌, List, Option}
use Rattle.std.specs.Bool.{beq}
use Rattle.std.specs.Option.{option_eq}
use Rattle.std.specs.Str.{bytes_eq}
use Rattle.tera_base.specs.Same.{key_eq, value_eq}
use Rattle.tera_base.specs.ValueView.{key_view}
use Rattle.tera_base.specs.declared.utils.Span.{Span}
use Rattle.tera_ast.specs.Tree as tree
use Rattle.tera_ast.specs.Tree.{Expr, MaybeExpr, Filters, Args, Entries, Items, Stmt, Nodes}
use Rattle.tera_ast.specs.declared.ast.ArrayEntryOf.{ArrayEntryOf}
use Rattle.tera_ast.specs.declared.ast.ArrayEntryOf.TheVariants.{Item, Spread}
use Rattle.tera_ast.specs.declared.ast.MapEntryOf.{MapEntryOf}
use Rattle.tera_ast.specs.declared.ast.MapEntryOf.TheVariants as entries
use Rattle.tera_ast.specs.declared.ast.UnaryOperator.{UnaryOperator}
use Rattle.tera_ast.specs.declared.ast.UnaryOperator.TheVariants as unary
use Rattle.tera_ast.specs.declared.ast.BinaryOperator.{BinaryOperator}
use Rattle.tera_ast.specs.declared.ast.BinaryOperator.TheVariants as binary

abbrev pub span_eq : Span → Span → Bool
span_eq s t = (s.start_line == t.start_line) && ((s.start_col == t.start_col) && ((s.end_line == t.end_line) && ((s.end_col == t.end_col) && ((s.range.start == t.range.start) && (s.range.end == t.range.end)))))

abbrev pub unary_eq : UnaryOperator → UnaryOperator → Bool
unary_eq unary.Not unary.Not = true
unary_eq unary.Minus unary.Minus = true
unary_eq _ _ = false

-- the place of an operator among all
abbrev pub operator_place : BinaryOperator → ℕ
operator_place binary.Mul = 0
operator_place binary.Div = 1
operator_place binary.Mod = 2
operator_place binary.Plus = 3
operator_place binary.Minus = 4
operator_place binary.FloorDiv = 5
operator_place binary.Power = 6
operator_place binary.LessThan = 7
operator_place binary.GreaterThan = 8
operator_place binary.LessThanOrEqual = 9
operator_place binary.GreaterThanOrEqual = 10
operator_place binary.Equal = 11
operator_place binary.NotEqual = 12
operator_place binary.And = 13
operator_place binary.Or = 14
operator_place binary.StrConcat = 15
operator_place binary.In = 16
operator_place binary.Is = 17
operator_place binary.Pipe = 18

abbrev pub binary_eq : BinaryOperator → BinaryOperator → Bool
binary_eq o p = operator_place o == operator_place p

-- a name that may be missing
abbrev pub name_eq : Option (List ℕ) → Option (List ℕ) → Bool
name_eq = option_eq bytes_eq

-- where each expression is counts too
abbrev mutual
  pub expr_eq : Expr → Expr → Bool
  expr_eq (tree.Const v s) (tree.Const w u) = span_eq s u && value_eq v w
  expr_eq (tree.Array xs s) (tree.Array ys u) = span_eq s u && items_eq xs ys
  expr_eq (tree.Map xs s) (tree.Map ys u) = span_eq s u && entries_eq xs ys
  expr_eq (tree.Var m s) (tree.Var n u) = span_eq s u && bytes_eq m n
  expr_eq (tree.GetAttr d m o s) (tree.GetAttr e n p u) = span_eq s u && (expr_eq d e && (bytes_eq m n && beq o p))
  expr_eq (tree.GetItem d i o s) (tree.GetItem e j p u) = span_eq s u && (expr_eq d e && (expr_eq i j && beq o p))
  expr_eq (tree.Slice d a b c o s) (tree.Slice e f g h p u) =
      span_eq s u && (expr_eq d e && (maybe_eq a f && (maybe_eq b g && (maybe_eq c h && beq o p))))
  expr_eq (tree.Filter d m a s) (tree.Filter e n b u) = span_eq s u && (expr_eq d e && (bytes_eq m n && args_eq a b))
  expr_eq (tree.Test d m a s) (tree.Test e n b u) = span_eq s u && (expr_eq d e && (bytes_eq m n && args_eq a b))
  expr_eq (tree.Ternary c d e s) (tree.Ternary f g h u) = span_eq s u && (expr_eq c f && (expr_eq d g && expr_eq e h))
  expr_eq (tree.ListComprehension d k m x a s) (tree.ListComprehension e l n y b u) =
      span_eq s u && (expr_eq d e && (name_eq k l && (bytes_eq m n && (expr_eq x y && maybe_eq a b))))
  expr_eq (tree.ComponentCall m xs a o s) (tree.ComponentCall n ys b p u) =
      span_eq s u && (bytes_eq m n && (entries_eq xs ys && (nodes_eq a b && beq o p)))
  expr_eq (tree.FunctionCall m a s) (tree.FunctionCall n b u) = span_eq s u && (bytes_eq m n && args_eq a b)
  expr_eq (tree.UnaryOperation o d s) (tree.UnaryOperation p e u) = span_eq s u && (unary_eq o p && expr_eq d e)
  expr_eq (tree.BinaryOperation o c d s) (tree.BinaryOperation p e f u) = span_eq s u && (binary_eq o p && (expr_eq c e && expr_eq d f))
  expr_eq _ _ = false

  pub maybe_eq : MaybeExpr → MaybeExpr → Bool
  maybe_eq tree.NoExpr tree.NoExpr = true
  maybe_eq (tree.OneExpr d) (tree.OneExpr e) = expr_eq d e
  maybe_eq _ _ = false

  pub filters_eq : Filters → Filters → Bool
  filters_eq tree.NoFilters tree.NoFilters = true
  filters_eq (tree.OneFilter d ds) (tree.OneFilter e es) = expr_eq d e && filters_eq ds es
  filters_eq _ _ = false

  pub args_eq : Args → Args → Bool
  args_eq tree.NoArgs tree.NoArgs = true
  args_eq (tree.Arg m d a) (tree.Arg n e b) = bytes_eq m n && (expr_eq d e && args_eq a b)
  args_eq _ _ = false

  pub entries_eq : Entries → Entries → Bool
  entries_eq tree.NoEntries tree.NoEntries = true
  entries_eq (tree.Entry k d xs) (tree.Entry l e ys) = key_eq k l && (expr_eq d e && entries_eq xs ys)
  entries_eq (tree.SpreadEntry d xs) (tree.SpreadEntry e ys) = expr_eq d e && entries_eq xs ys
  entries_eq _ _ = false

  pub items_eq : Items → Items → Bool
  items_eq tree.NoItems tree.NoItems = true
  items_eq (tree.Item d xs) (tree.Item e ys) = expr_eq d e && items_eq xs ys
  items_eq (tree.SpreadItem d xs) (tree.SpreadItem e ys) = expr_eq d e && items_eq xs ys
  items_eq _ _ = false

  pub stmt_eq : Stmt → Stmt → Bool
  stmt_eq (tree.Content a) (tree.Content b) = bytes_eq a b
  stmt_eq (tree.Shown d) (tree.Shown e) = expr_eq d e
  stmt_eq (tree.Set m d o) (tree.Set n e p) = bytes_eq m n && (expr_eq d e && beq o p)
  stmt_eq (tree.BlockSet m ds a o) (tree.BlockSet n es b p) = bytes_eq m n && (filters_eq ds es && (nodes_eq a b && beq o p))
  stmt_eq (tree.Include m s) (tree.Include n u) = span_eq s u && bytes_eq m n
  stmt_eq (tree.Block m s a) (tree.Block n u b) = span_eq s u && (bytes_eq m n && nodes_eq a b)
  stmt_eq (tree.ForLoop k m d a b) (tree.ForLoop l n e f g) = name_eq k l && (bytes_eq m n && (expr_eq d e && (nodes_eq a f && nodes_eq b g)))
  stmt_eq tree.Break tree.Break = true
  stmt_eq tree.Continue tree.Continue = true
  stmt_eq (tree.If d a b) (tree.If e f g) = expr_eq d e && (nodes_eq a f && nodes_eq b g)
  stmt_eq (tree.FilterSection ds a) (tree.FilterSection es b) = filters_eq ds es && nodes_eq a b
  stmt_eq _ _ = false

  pub nodes_eq : Nodes → Nodes → Bool
  nodes_eq tree.NoNodes tree.NoNodes = true
  nodes_eq (tree.OneNode m ms) (tree.OneNode n ns) = stmt_eq m n && nodes_eq ms ns
  nodes_eq _ _ = false

-- an entry and an item, each by itself
abbrev pub entry_eq : MapEntryOf Expr → MapEntryOf Expr → Bool
entry_eq (entries.KeyValue k d) (entries.KeyValue l e) = key_eq (key_view k) (key_view l) && expr_eq d e
entry_eq (entries.Spread d) (entries.Spread e) = expr_eq d e
entry_eq _ _ = false

abbrev pub item_eq : ArrayEntryOf Expr → ArrayEntryOf Expr → Bool
item_eq (Item d) (Item e) = expr_eq d e
item_eq (Spread d) (Spread e) = expr_eq d e
item_eq _ _ = false
