-- The parts of a tree at any depth, each with the name of the innermost block around it, in the order of `Within`.
use Rattle.std.specs.Prelude.{ℕ, List, [], ◌∷◌, ◌++◌, Option, None, Some}
use Rattle.tera_ast.specs.Tree.{Expr, Const, Array, Map, Var, GetAttr, GetItem, Slice, Filter, Test, Ternary, ListComprehension, ComponentCall, FunctionCall, UnaryOperation, BinaryOperation}
use Rattle.tera_ast.specs.Tree.{MaybeExpr, NoExpr, OneExpr, Filters, NoFilters, OneFilter, Args, NoArgs, Arg, Items, NoItems, Item, SpreadItem, Entries, NoEntries, Entry, SpreadEntry}
use Rattle.tera_ast.specs.Tree.{Stmt, Content, Shown, Set, BlockSet, Include, Block, ForLoop, Break, Continue, If, FilterSection, Nodes, NoNodes, OneNode}
use Rattle.tera_tree.specs.Parts.{PartVal, NodePart, ExpressionPart, top_parts}
use Rattle.tera_tree.specs.Tree.{Output}

abbrev pub PlacedVal : Type 0
PlacedVal = Option (List ℕ) × PartVal

-- the parts in an expression and in a node; and each of these with the parts inside it
abbrev mutual
  pub placed : Option (List ℕ) → Expr → List PlacedVal
  placed b (Const v span) = []
  placed b (Array es span) = placed_items b es
  placed b (Map es span) = placed_entries b es
  placed b (Var name span) = []
  placed b (GetAttr e name optional span) = (b, ExpressionPart e) ∷ placed b e
  placed b (GetItem e sub optional span) = ((b, ExpressionPart sub) ∷ placed b sub) ++ ((b, ExpressionPart e) ∷ placed b e)
  placed b (Slice e start end step optional span) =
      ((placed_maybe b step ++ placed_maybe b end) ++ placed_maybe b start) ++ ((b, ExpressionPart e) ∷ placed b e)
  placed b (Filter e name args span) = placed_args b args ++ ((b, ExpressionPart e) ∷ placed b e)
  placed b (Test e name args span) = placed_args b args ++ ((b, ExpressionPart e) ∷ placed b e)
  placed b (Ternary e given other span) = (((b, ExpressionPart other) ∷ placed b other) ++ ((b, ExpressionPart e) ∷ placed b e)) ++ ((b, ExpressionPart given) ∷ placed b given)
  placed b (ListComprehension e key value target condition span) =
      (placed_maybe b condition ++ ((b, ExpressionPart target) ∷ placed b target)) ++ ((b, ExpressionPart e) ∷ placed b e)
  placed b (ComponentCall name es body closed span) = placed_nodes b body ++ placed_entries b es
  placed b (FunctionCall name args span) = placed_args b args
  placed b (UnaryOperation op e span) = (b, ExpressionPart e) ∷ placed b e
  placed b (BinaryOperation op l r span) = ((b, ExpressionPart r) ∷ placed b r) ++ ((b, ExpressionPart l) ∷ placed b l)

  pub placed_maybe : Option (List ℕ) → MaybeExpr → List PlacedVal
  placed_maybe b NoExpr = []
  placed_maybe b (OneExpr e) = (b, ExpressionPart e) ∷ placed b e

  pub placed_filters : Option (List ℕ) → Filters → List PlacedVal
  placed_filters b NoFilters = []
  placed_filters b (OneFilter e es) = placed_filters b es ++ ((b, ExpressionPart e) ∷ placed b e)

  pub placed_args : Option (List ℕ) → Args → List PlacedVal
  placed_args b NoArgs = []
  placed_args b (Arg name e more) = placed_args b more ++ ((b, ExpressionPart e) ∷ placed b e)

  pub placed_items : Option (List ℕ) → Items → List PlacedVal
  placed_items b NoItems = []
  placed_items b (Item e es) = placed_items b es ++ ((b, ExpressionPart e) ∷ placed b e)
  placed_items b (SpreadItem e es) = placed_items b es ++ ((b, ExpressionPart e) ∷ placed b e)

  pub placed_entries : Option (List ℕ) → Entries → List PlacedVal
  placed_entries b NoEntries = []
  placed_entries b (Entry k e es) = placed_entries b es ++ ((b, ExpressionPart e) ∷ placed b e)
  placed_entries b (SpreadEntry e es) = placed_entries b es ++ ((b, ExpressionPart e) ∷ placed b e)

  pub placed_node : Option (List ℕ) → Stmt → List PlacedVal
  placed_node b (Content t) = []
  placed_node b (Shown e) = (b, ExpressionPart e) ∷ placed b e
  placed_node b (Set name e global) = (b, ExpressionPart e) ∷ placed b e
  placed_node b (BlockSet name filters body global) = placed_nodes b body ++ placed_filters b filters
  placed_node b (Include name span) = []
  placed_node b (Block name span body) = placed_nodes (Some name) body
  placed_node b (ForLoop key value target body other) = (placed_nodes b other ++ placed_nodes b body) ++ ((b, ExpressionPart target) ∷ placed b target)
  placed_node b Break = []
  placed_node b Continue = []
  placed_node b (If e body other) = (placed_nodes b other ++ placed_nodes b body) ++ ((b, ExpressionPart e) ∷ placed b e)
  placed_node b (FilterSection filters body) = placed_nodes b body ++ placed_filters b filters

  pub placed_nodes : Option (List ℕ) → Nodes → List PlacedVal
  placed_nodes b NoNodes = []
  placed_nodes b (OneNode n ns) = placed_nodes b ns ++ ((b, NodePart n) ∷ placed_node b n)

-- the parts inside a part, which is in a block or in none; and some parts with those inside them
abbrev pub placed_in : Option (List ℕ) → PartVal → List PlacedVal
placed_in b (NodePart n) = placed_node b n
placed_in b (ExpressionPart e) = placed b e

abbrev pub all_placed : Option (List ℕ) → List PartVal → List PlacedVal
all_placed b [] = []
all_placed b (p ∷ ps) = all_placed b ps ++ ((b, p) ∷ placed_in b p)

-- the block that is around what is in a node, and in a part
abbrev pub around_in_node : Option (List ℕ) → Stmt → Option (List ℕ)
around_in_node b (Block name span body) = Some name
around_in_node b _ = b

abbrev pub around_in : Option (List ℕ) → PartVal → Option (List ℕ)
around_in b (NodePart n) = around_in_node b n
around_in b (ExpressionPart e) = b

-- all parts of a tree
abbrev pub placed_parts_of : Output → List PlacedVal
placed_parts_of o = all_placed None (top_parts o.definitions o.nodes)
