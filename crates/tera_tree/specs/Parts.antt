-- The parts of a tree, and what is in each, one level down: from left to right, and of arguments by name in the order
-- of the names.
use Rattle.std.specs.Prelude.{List, [], ◌∷◌, ◌++◌, map}
use Rattle.std.specs.List.{flat_map}
use Rattle.tera_ast.specs.View.{nodes_of, node_view, expression_view}
use Rattle.tera_ast.specs.declared.ast.ArrayEntryOf.{ArrayEntryOf}
use Rattle.tera_ast.specs.declared.ast.ArrayEntryOf.TheVariants as items
use Rattle.tera_ast.specs.declared.ast.MapEntryOf.{MapEntryOf}
use Rattle.tera_ast.specs.declared.ast.MapEntryOf.TheVariants as entries
use Rattle.tera_ast.specs.Tree.{Expr, Const, Array, Map, Var, GetAttr, GetItem, Slice, Filter, Test, Ternary, ListComprehension, ComponentCall, FunctionCall, UnaryOperation, BinaryOperation}
use Rattle.tera_ast.specs.Tree.{MaybeExpr, NoExpr, OneExpr, Filters, NoFilters, OneFilter, Args, NoArgs, Arg, Items, NoItems, Item, SpreadItem, Entries, NoEntries, Entry, SpreadEntry}
use Rattle.tera_ast.specs.Tree.{Stmt, Content, Shown, Set, BlockSet, Include, Block, ForLoop, Break, Continue, If, FilterSection, Nodes, NoNodes, OneNode}
use Rattle.tera_tree.specs.Tree.{Definition}
use Rattle.tera_tree.specs.declared.parts.Part.{Part}
use Rattle.tera_tree.specs.declared.parts.Part.TheVariants as parts

pub data PartVal : Type 0 where
  NodePart : Stmt → PartVal
  ExpressionPart : Expr → PartVal

abbrev pub part_view : Part → PartVal
part_view (parts.Node n) = NodePart (node_view n.now)
part_view (parts.Expression e) = ExpressionPart (expression_view e.now)

abbrev pub parts_view : List Part → List PartVal
parts_view ps = map part_view ps

abbrev pub parts_of_maybe : MaybeExpr → List PartVal
parts_of_maybe NoExpr = []
parts_of_maybe (OneExpr e) = ExpressionPart e ∷ []

abbrev pub parts_of_filters : Filters → List PartVal
parts_of_filters NoFilters = []
parts_of_filters (OneFilter e es) = ExpressionPart e ∷ parts_of_filters es

abbrev pub parts_of_args : Args → List PartVal
parts_of_args NoArgs = []
parts_of_args (Arg name e more) = ExpressionPart e ∷ parts_of_args more

abbrev pub parts_of_items : Items → List PartVal
parts_of_items NoItems = []
parts_of_items (Item e es) = ExpressionPart e ∷ parts_of_items es
parts_of_items (SpreadItem e es) = ExpressionPart e ∷ parts_of_items es

abbrev pub parts_of_entries : Entries → List PartVal
parts_of_entries NoEntries = []
parts_of_entries (Entry k e es) = ExpressionPart e ∷ parts_of_entries es
parts_of_entries (SpreadEntry e es) = ExpressionPart e ∷ parts_of_entries es

abbrev pub parts_of_nodes : Nodes → List PartVal
parts_of_nodes NoNodes = []
parts_of_nodes (OneNode n ns) = NodePart n ∷ parts_of_nodes ns

-- the expression of an item and of an entry
abbrev pub in_item : ArrayEntryOf Expr → Expr
in_item (items.Item e) = e
in_item (items.Spread e) = e

abbrev pub in_entry : MapEntryOf Expr → Expr
in_entry (entries.KeyValue k e) = e
in_entry (entries.Spread e) = e

-- what is in an expression, in a node, and in a part
abbrev pub parts_in_expression : Expr → List PartVal
parts_in_expression (Const v span) = []
parts_in_expression (Array es span) = parts_of_items es
parts_in_expression (Map es span) = parts_of_entries es
parts_in_expression (Var name span) = []
parts_in_expression (GetAttr e name optional span) = ExpressionPart e ∷ []
parts_in_expression (GetItem e sub optional span) = ExpressionPart e ∷ ExpressionPart sub ∷ []
parts_in_expression (Slice e start end step optional span) =
    ExpressionPart e ∷ (parts_of_maybe start ++ (parts_of_maybe end ++ parts_of_maybe step))
parts_in_expression (Filter e name args span) = ExpressionPart e ∷ parts_of_args args
parts_in_expression (Test e name args span) = ExpressionPart e ∷ parts_of_args args
parts_in_expression (Ternary e given other span) = ExpressionPart given ∷ ExpressionPart e ∷ ExpressionPart other ∷ []
parts_in_expression (ListComprehension e key value target condition span) =
    ExpressionPart e ∷ ExpressionPart target ∷ parts_of_maybe condition
parts_in_expression (ComponentCall name es body closed span) = parts_of_entries es ++ parts_of_nodes body
parts_in_expression (FunctionCall name args span) = parts_of_args args
parts_in_expression (UnaryOperation op e span) = ExpressionPart e ∷ []
parts_in_expression (BinaryOperation op l r span) = ExpressionPart l ∷ ExpressionPart r ∷ []

abbrev pub parts_in_node : Stmt → List PartVal
parts_in_node (Content t) = []
parts_in_node (Shown e) = ExpressionPart e ∷ []
parts_in_node (Set name e global) = ExpressionPart e ∷ []
parts_in_node (BlockSet name filters body global) = parts_of_filters filters ++ parts_of_nodes body
parts_in_node (Include name span) = []
parts_in_node (Block name span body) = parts_of_nodes body
parts_in_node (ForLoop key value target body other) = ExpressionPart target ∷ (parts_of_nodes body ++ parts_of_nodes other)
parts_in_node Break = []
parts_in_node Continue = []
parts_in_node (If e body other) = ExpressionPart e ∷ (parts_of_nodes body ++ parts_of_nodes other)
parts_in_node (FilterSection filters body) = parts_of_filters filters ++ parts_of_nodes body

abbrev pub children : PartVal → List PartVal
children (NodePart n) = parts_in_node n
children (ExpressionPart e) = parts_in_expression e

-- at the top of a tree: the nodes in the bodies of its definitions, and then its own
abbrev pub top_parts : List Definition → List Stmt → List PartVal
top_parts ds ns = flat_map (λ d. parts_of_nodes (nodes_of d.body)) ds ++ parts_of_nodes (nodes_of ns)
