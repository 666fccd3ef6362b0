-- From the types of the tree to what they stand for.
use Rattle.std.specs.Prelude.{ℕ, List, [], ◌∷◌, map, Option, None, Some, String, string_bytes}
use Rattle.std.specs.declared.alloc.Global.{Global}
use Rattle.tera_base.specs.Spanned.{node_of, span_of}
use Rattle.tera_base.specs.Values.{KeyVal}
use Rattle.tera_base.specs.ValueView.{key_view, value_view}
use Rattle.tera_base.specs.declared.utils.Span.{Span}
use Rattle.tera_ast.specs.Tree as tree
use Rattle.tera_ast.specs.Tree.{Expr, MaybeExpr, NoExpr, OneExpr, Filters, NoFilters, OneFilter, Args, NoArgs, Arg, Items, NoItems, Entries, NoEntries, Entry, SpreadEntry, Stmt, Nodes, NoNodes, OneNode}
use Rattle.tera_ast.specs.declared.ast.ArrayEntryOf.{ArrayEntryOf}
use Rattle.tera_ast.specs.declared.ast.ArrayEntryOf.TheVariants.{Item, Spread}
use Rattle.tera_ast.specs.declared.ast.MapEntryOf.{MapEntryOf}
use Rattle.tera_ast.specs.declared.ast.MapEntryOf.TheVariants as entries
use Rattle.tera_ast.specs.declared.ast.Expression.{Expression, fold-Expression, Expression-F}
use Rattle.tera_ast.specs.declared.ast.Node.{Node, fold-Node, Node-F}
use Rattle.tera_ast.specs.declared.ast.ComponentCall.{ComponentCall, fold-ComponentCall, ComponentCall-F}
use Rattle.tera_ast.specs.declared.ast.BlockSet.{BlockSet, fold-BlockSet, BlockSet-F}
use Rattle.tera_ast.specs.declared.ast.ForLoop.{ForLoop, fold-ForLoop, ForLoop-F}
use Rattle.tera_ast.specs.declared.ast.If.{If, fold-If, If-F}
use Rattle.tera_ast.specs.declared.ast.FilterSection.{FilterSection, fold-FilterSection, FilterSection-F}

abbrev pub name_view : Option (String Global) → Option (List ℕ)
name_view None = None
name_view (Some s) = Some (string_bytes s)

abbrev pub maybe_of : Option Expr → MaybeExpr
maybe_of None = NoExpr
maybe_of (Some e) = OneExpr e

abbrev pub filters_of : List Expr → Filters
filters_of [] = NoFilters
filters_of (e ∷ es) = OneFilter e (filters_of es)

abbrev pub args_of : List (String Global × Expr) → Args
args_of [] = NoArgs
args_of (a ∷ more) = Arg (string_bytes a.0) a.1 (args_of more)

abbrev pub items_of : List (ArrayEntryOf Expr) → Items
items_of [] = NoItems
items_of (Item e ∷ es) = tree.Item e (items_of es)
items_of (Spread e ∷ es) = tree.SpreadItem e (items_of es)

abbrev pub entries_of : List (MapEntryOf Expr) → Entries
entries_of [] = NoEntries
entries_of (entries.KeyValue k e ∷ es) = Entry (key_view k) e (entries_of es)
entries_of (entries.Spread e ∷ es) = SpreadEntry e (entries_of es)

abbrev pub nodes_of : List Stmt → Nodes
nodes_of [] = NoNodes
nodes_of (n ∷ ns) = OneNode n (nodes_of ns)

-- one level of each type, with what is inside already seen; a component call waits for its span
abbrev pub expression_step : Expression-F Expr Stmt Stmt (Span → Expr) Stmt Stmt Stmt → Expr
expression_step (Expression-F.Const s) = tree.Const (value_view (node_of s)) (span_of s)
expression_step (Expression-F.Array s) = tree.Array (items_of (node_of s).items.items) (span_of s)
expression_step (Expression-F.Map s) = tree.Map (entries_of (node_of s).entries.items) (span_of s)
expression_step (Expression-F.Var s) = tree.Var (string_bytes (node_of s).name) (span_of s)
expression_step (Expression-F.GetAttr s) = tree.GetAttr (node_of s).expr (string_bytes (node_of s).name) (node_of s).optional (span_of s)
expression_step (Expression-F.GetItem s) = tree.GetItem (node_of s).expr (node_of s).sub_expr (node_of s).optional (span_of s)
expression_step (Expression-F.Slice s) = tree.Slice (node_of s).expr (maybe_of (node_of s).start) (maybe_of (node_of s).end) (maybe_of (node_of s).step) (node_of s).optional (span_of s)
expression_step (Expression-F.Filter s) = tree.Filter (node_of s).expr (string_bytes (node_of s).name) (args_of (node_of s).kwargs.entries) (span_of s)
expression_step (Expression-F.Test s) = tree.Test (node_of s).expr (string_bytes (node_of s).name) (args_of (node_of s).kwargs.entries) (span_of s)
expression_step (Expression-F.Ternary s) = tree.Ternary (node_of s).expr (node_of s).true_expr (node_of s).false_expr (span_of s)
expression_step (Expression-F.ListComprehension s) =
    tree.ListComprehension (node_of s).expr (name_view (node_of s).key) (string_bytes (node_of s).value) (node_of s).target (maybe_of (node_of s).condition) (span_of s)
expression_step (Expression-F.ComponentCall s) = node_of s (span_of s)
expression_step (Expression-F.FunctionCall s) = tree.FunctionCall (string_bytes (node_of s).name) (args_of (node_of s).kwargs.entries) (span_of s)
expression_step (Expression-F.UnaryOperation s) = tree.UnaryOperation (node_of s).op (node_of s).expr (span_of s)
expression_step (Expression-F.BinaryOperation s) = tree.BinaryOperation (node_of s).op (node_of s).left (node_of s).right (span_of s)

abbrev pub node_step : Node-F Expr Stmt Stmt (Span → Expr) Stmt Stmt Stmt → Stmt
node_step (Node-F.Content s) = tree.Content (string_bytes s)
node_step (Node-F.Expression e) = tree.Shown e
node_step (Node-F.Set s) = tree.Set (string_bytes s.name) s.value s.global
node_step (Node-F.BlockSet n) = n
node_step (Node-F.Include i) = tree.Include (string_bytes (node_of i.name)) (span_of i.name)
node_step (Node-F.Block b) = tree.Block (string_bytes (node_of b.name)) (span_of b.name) (nodes_of b.body.items)
node_step (Node-F.ForLoop n) = n
node_step Node-F.Break = tree.Break
node_step Node-F.Continue = tree.Continue
node_step (Node-F.If n) = n
node_step (Node-F.FilterSection n) = n

abbrev pub call_step : ComponentCall-F Expr Stmt Stmt (Span → Expr) Stmt Stmt Stmt → (Span → Expr)
call_step c span = tree.ComponentCall (string_bytes c.name) (entries_of c.kwargs.items) (nodes_of c.body.items) c.self_closing span

abbrev pub block_set_step : BlockSet-F Expr Stmt Stmt (Span → Expr) Stmt Stmt Stmt → Stmt
block_set_step b = tree.BlockSet (string_bytes b.name) (filters_of b.filters.items) (nodes_of b.body.items) b.global

abbrev pub for_step : ForLoop-F Expr Stmt Stmt (Span → Expr) Stmt Stmt Stmt → Stmt
for_step f = tree.ForLoop (name_view f.key) (string_bytes f.value) f.target (nodes_of f.body.items) (nodes_of f.else_body.items)

abbrev pub if_step : If-F Expr Stmt Stmt (Span → Expr) Stmt Stmt Stmt → Stmt
if_step i = tree.If i.expr (nodes_of i.body.items) (nodes_of i.false_body.items)

abbrev pub section_step : FilterSection-F Expr Stmt Stmt (Span → Expr) Stmt Stmt Stmt → Stmt
section_step s = tree.FilterSection (filters_of s.filters.items) (nodes_of s.body.items)

abbrev pub expression_view : Expression → Expr
expression_view = fold-Expression Expr Stmt Stmt (Span → Expr) Stmt Stmt Stmt expression_step node_step block_set_step call_step section_step for_step if_step

abbrev pub node_view : Node → Stmt
node_view = fold-Node Expr Stmt Stmt (Span → Expr) Stmt Stmt Stmt expression_step node_step block_set_step call_step section_step for_step if_step

abbrev pub call_view : ComponentCall → Span → Expr
call_view = fold-ComponentCall Expr Stmt Stmt (Span → Expr) Stmt Stmt Stmt expression_step node_step block_set_step call_step section_step for_step if_step

abbrev pub block_set_view : BlockSet → Stmt
block_set_view = fold-BlockSet Expr Stmt Stmt (Span → Expr) Stmt Stmt Stmt expression_step node_step block_set_step call_step section_step for_step if_step

abbrev pub for_view : ForLoop → Stmt
for_view = fold-ForLoop Expr Stmt Stmt (Span → Expr) Stmt Stmt Stmt expression_step node_step block_set_step call_step section_step for_step if_step

abbrev pub if_view : If → Stmt
if_view = fold-If Expr Stmt Stmt (Span → Expr) Stmt Stmt Stmt expression_step node_step block_set_step call_step section_step for_step if_step

abbrev pub section_view : FilterSection → Stmt
section_view = fold-FilterSection Expr Stmt Stmt (Span → Expr) Stmt Stmt Stmt expression_step node_step block_set_step call_step section_step for_step if_step

-- the parts of a node
abbrev pub maybe_view : Option Expression → MaybeExpr
maybe_view None = NoExpr
maybe_view (Some e) = OneExpr (expression_view e)

abbrev pub filters_view : List Expression → Filters
filters_view es = filters_of (map expression_view es)

abbrev pub args_view : List (String Global × Expression) → Args
args_view args = args_of (map (λ a. (a.0, expression_view a.1)) args)

abbrev pub item_view : ArrayEntryOf Expression → ArrayEntryOf Expr
item_view (Item e) = Item (expression_view e)
item_view (Spread e) = Spread (expression_view e)

abbrev pub items_view : List (ArrayEntryOf Expression) → Items
items_view es = items_of (map item_view es)

abbrev pub entry_view : MapEntryOf Expression → MapEntryOf Expr
entry_view (entries.KeyValue k e) = entries.KeyValue k (expression_view e)
entry_view (entries.Spread e) = entries.Spread (expression_view e)

abbrev pub entries_view : List (MapEntryOf Expression) → Entries
entries_view es = entries_of (map entry_view es)

abbrev pub nodes_view : List Node → Nodes
nodes_view ns = nodes_of (map node_view ns)

-- an entry by what its key stands for
abbrev pub keyed_view : MapEntryOf Expression → Option KeyVal × Expr
keyed_view (entries.KeyValue k e) = (Some (key_view k), expression_view e)
keyed_view (entries.Spread e) = (None, expression_view e)
