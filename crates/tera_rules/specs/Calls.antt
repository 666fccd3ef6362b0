-- The calls of components in a tree, from left to right, each after the calls inside it. Arguments by name are in the
-- order of their names.
use Rattle.std.specs.Prelude.{List, [], ◌∷◌, ◌++◌}
use Rattle.std.specs.List.{flat_map}
use Rattle.tera_ast.specs.View.{nodes_of}
use Rattle.tera_ast.specs.Tree.{Expr, Const, Array, Map, Var, GetAttr, GetItem, Slice, Filter, Test, Ternary, ListComprehension, ComponentCall, FunctionCall, UnaryOperation, BinaryOperation}
use Rattle.tera_ast.specs.Tree.{MaybeExpr, NoExpr, OneExpr, Filters, NoFilters, OneFilter, Args, NoArgs, Arg, Items, NoItems, Item, SpreadItem, Entries, NoEntries, Entry, SpreadEntry}
use Rattle.tera_ast.specs.Tree.{Stmt, Content, Shown, Set, BlockSet, Include, Block, ForLoop, Break, Continue, If, FilterSection, Nodes, NoNodes, OneNode}
use Rattle.tera_tree.specs.Tree.{Definition, Output}

abbrev mutual
  pub calls_in : Expr → List Expr
  calls_in (Const v span) = []
  calls_in (Array es span) = calls_in_items es
  calls_in (Map es span) = calls_in_entries es
  calls_in (Var name span) = []
  calls_in (GetAttr e name optional span) = calls_in e
  calls_in (GetItem e sub optional span) = calls_in e ++ calls_in sub
  calls_in (Slice e start end step optional span) =
      calls_in e ++ (calls_in_maybe start ++ (calls_in_maybe end ++ calls_in_maybe step))
  calls_in (Filter e name args span) = calls_in e ++ calls_in_args args
  calls_in (Test e name args span) = calls_in e ++ calls_in_args args
  calls_in (Ternary e given other span) = calls_in given ++ (calls_in e ++ calls_in other)
  calls_in (ListComprehension e key value target condition span) =
      calls_in e ++ (calls_in target ++ calls_in_maybe condition)
  calls_in (ComponentCall name es body closed span) =
      calls_in_entries es ++ (calls_in_nodes body ++ (ComponentCall name es body closed span ∷ []))
  calls_in (FunctionCall name args span) = calls_in_args args
  calls_in (UnaryOperation op e span) = calls_in e
  calls_in (BinaryOperation op l r span) = calls_in l ++ calls_in r

  pub calls_in_maybe : MaybeExpr → List Expr
  calls_in_maybe NoExpr = []
  calls_in_maybe (OneExpr e) = calls_in e

  pub calls_in_filters : Filters → List Expr
  calls_in_filters NoFilters = []
  calls_in_filters (OneFilter e es) = calls_in e ++ calls_in_filters es

  pub calls_in_args : Args → List Expr
  calls_in_args NoArgs = []
  calls_in_args (Arg name e more) = calls_in e ++ calls_in_args more

  pub calls_in_items : Items → List Expr
  calls_in_items NoItems = []
  calls_in_items (Item e es) = calls_in e ++ calls_in_items es
  calls_in_items (SpreadItem e es) = calls_in e ++ calls_in_items es

  pub calls_in_entries : Entries → List Expr
  calls_in_entries NoEntries = []
  calls_in_entries (Entry k e es) = calls_in e ++ calls_in_entries es
  calls_in_entries (SpreadEntry e es) = calls_in e ++ calls_in_entries es

  pub calls_in_node : Stmt → List Expr
  calls_in_node (Content t) = []
  calls_in_node (Shown e) = calls_in e
  calls_in_node (Set name e global) = calls_in e
  calls_in_node (BlockSet name filters body global) = calls_in_filters filters ++ calls_in_nodes body
  calls_in_node (Include name span) = []
  calls_in_node (Block name span body) = calls_in_nodes body
  calls_in_node (ForLoop key value target body other) = calls_in target ++ (calls_in_nodes body ++ calls_in_nodes other)
  calls_in_node Break = []
  calls_in_node Continue = []
  calls_in_node (If e body other) = calls_in e ++ (calls_in_nodes body ++ calls_in_nodes other)
  calls_in_node (FilterSection filters body) = calls_in_filters filters ++ calls_in_nodes body

  pub calls_in_nodes : Nodes → List Expr
  calls_in_nodes NoNodes = []
  calls_in_nodes (OneNode n ns) = calls_in_node n ++ calls_in_nodes ns

-- in the bodies of the definitions, and then in the nodes
abbrev pub calls_in_definition : Definition → List Expr
calls_in_definition d = calls_in_nodes (nodes_of d.body)

abbrev pub calls_of : Output → List Expr
calls_of o = flat_map calls_in_definition o.definitions ++ calls_in_nodes (nodes_of o.nodes)
