-- The parts of a tree at any depth: each part before those inside it, and these from the last to the first.
use Rattle.std.specs.Prelude.{List, [], ◌∷◌, ◌++◌}
use Rattle.tera_ast.specs.Tree.{Expr, Const, Array, Map, Var, GetAttr, GetItem, Slice, Filter, Test, Ternary, ListComprehension, ComponentCall, FunctionCall, UnaryOperation, BinaryOperation}
use Rattle.tera_ast.specs.Tree.{MaybeExpr, NoExpr, OneExpr, Filters, NoFilters, OneFilter, Args, NoArgs, Arg, Items, NoItems, Item, SpreadItem, Entries, NoEntries, Entry, SpreadEntry}
use Rattle.tera_ast.specs.Tree.{Stmt, Content, Shown, Set, BlockSet, Include, Block, ForLoop, Break, Continue, If, FilterSection, Nodes, NoNodes, OneNode}
use Rattle.tera_tree.specs.Parts.{PartVal, NodePart, ExpressionPart, top_parts}
use Rattle.tera_tree.specs.Tree.{Output}

-- the parts in an expression and in a node; and each of these with the parts inside it
abbrev mutual
  pub within : Expr → List PartVal
  within (Const v span) = []
  within (Array es span) = all_in_items es
  within (Map es span) = all_in_entries es
  within (Var name span) = []
  within (GetAttr e name optional span) = ExpressionPart e ∷ within e
  within (GetItem e sub optional span) = (ExpressionPart sub ∷ within sub) ++ (ExpressionPart e ∷ within e)
  within (Slice e start end step optional span) =
      ((all_in_maybe step ++ all_in_maybe end) ++ all_in_maybe start) ++ (ExpressionPart e ∷ within e)
  within (Filter e name args span) = all_in_args args ++ (ExpressionPart e ∷ within e)
  within (Test e name args span) = all_in_args args ++ (ExpressionPart e ∷ within e)
  within (Ternary e given other span) = ((ExpressionPart other ∷ within other) ++ (ExpressionPart e ∷ within e)) ++ (ExpressionPart given ∷ within given)
  within (ListComprehension e key value target condition span) =
      (all_in_maybe condition ++ (ExpressionPart target ∷ within target)) ++ (ExpressionPart e ∷ within e)
  within (ComponentCall name es body closed span) = all_in_nodes body ++ all_in_entries es
  within (FunctionCall name args span) = all_in_args args
  within (UnaryOperation op e span) = ExpressionPart e ∷ within e
  within (BinaryOperation op l r span) = (ExpressionPart r ∷ within r) ++ (ExpressionPart l ∷ within l)

  pub all_in_maybe : MaybeExpr → List PartVal
  all_in_maybe NoExpr = []
  all_in_maybe (OneExpr e) = ExpressionPart e ∷ within e

  pub all_in_filters : Filters → List PartVal
  all_in_filters NoFilters = []
  all_in_filters (OneFilter e es) = all_in_filters es ++ (ExpressionPart e ∷ within e)

  pub all_in_args : Args → List PartVal
  all_in_args NoArgs = []
  all_in_args (Arg name e more) = all_in_args more ++ (ExpressionPart e ∷ within e)

  pub all_in_items : Items → List PartVal
  all_in_items NoItems = []
  all_in_items (Item e es) = all_in_items es ++ (ExpressionPart e ∷ within e)
  all_in_items (SpreadItem e es) = all_in_items es ++ (ExpressionPart e ∷ within e)

  pub all_in_entries : Entries → List PartVal
  all_in_entries NoEntries = []
  all_in_entries (Entry k e es) = all_in_entries es ++ (ExpressionPart e ∷ within e)
  all_in_entries (SpreadEntry e es) = all_in_entries es ++ (ExpressionPart e ∷ within e)

  pub within_node : Stmt → List PartVal
  within_node (Content t) = []
  within_node (Shown e) = ExpressionPart e ∷ within e
  within_node (Set name e global) = ExpressionPart e ∷ within e
  within_node (BlockSet name filters body global) = all_in_nodes body ++ all_in_filters filters
  within_node (Include name span) = []
  within_node (Block name span body) = all_in_nodes body
  within_node (ForLoop key value target body other) = (all_in_nodes other ++ all_in_nodes body) ++ (ExpressionPart target ∷ within target)
  within_node Break = []
  within_node Continue = []
  within_node (If e body other) = (all_in_nodes other ++ all_in_nodes body) ++ (ExpressionPart e ∷ within e)
  within_node (FilterSection filters body) = all_in_nodes body ++ all_in_filters filters

  pub all_in_nodes : Nodes → List PartVal
  all_in_nodes NoNodes = []
  all_in_nodes (OneNode n ns) = all_in_nodes ns ++ (NodePart n ∷ within_node n)

-- an expression with the parts inside it
abbrev pub all_in : Expr → List PartVal
all_in e = ExpressionPart e ∷ within e

-- the parts inside a part, and some parts with those inside them
abbrev pub within_part : PartVal → List PartVal
within_part (NodePart n) = within_node n
within_part (ExpressionPart e) = within e

abbrev pub all_parts : List PartVal → List PartVal
all_parts [] = []
all_parts (p ∷ ps) = all_parts ps ++ (p ∷ within_part p)

-- all parts of a tree
abbrev pub parts_of : Output → List PartVal
parts_of o = all_parts (top_parts o.definitions o.nodes)
