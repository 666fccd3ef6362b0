-- The JSON of a tree: an object for each node, with its kind, its place where it has one, and its parts in their order.
use Rattle.std.specs.Prelude.{ℕ, List, [], ◌∷◌, Option, None, Some, codes}
use Rattle.json.specs.Json.{Json, null, boolean, string, array, object, Items as JsonItems, no_items, item, Members, no_members, member}
use Rattle.json.specs.Print.{print}
use Rattle.json.specs.Tree.{json_tokens}
use Rattle.tera_base.specs.Values.{Val}
use Rattle.tera_ast.specs.Tree.{Expr, Const, Array, Map, Var, GetAttr, GetItem, Slice, Filter, Test, Ternary, ListComprehension, ComponentCall, FunctionCall, UnaryOperation, BinaryOperation, MaybeExpr, NoExpr, OneExpr, Filters, NoFilters, OneFilter, Args, NoArgs, Arg, Items, NoItems, Item, SpreadItem, Entries, NoEntries, Entry, SpreadEntry, Stmt, Content, Shown, Set, BlockSet, Include, Block, ForLoop, Break, Continue, If, FilterSection, Nodes, NoNodes, OneNode}
use Rattle.tera_base.specs.ValueView.{key_view}
use Rattle.tera_ast.specs.View.{nodes_of}
use Rattle.tera_ast.specs.declared.ast.ArrayEntryOf.{ArrayEntryOf}
use Rattle.tera_ast.specs.declared.ast.ArrayEntryOf.TheVariants as items
use Rattle.tera_ast.specs.declared.ast.MapEntryOf.{MapEntryOf}
use Rattle.tera_ast.specs.declared.ast.MapEntryOf.TheVariants as entries
use Rattle.tera_tree.specs.Tree.{Argument, Definition, Output}
use Rattle.tera_tree.specs.Types.{type_name}
use Rattle.tera_tree.specs.declared.ast.ArgType.{ArgType}
use Rattle.tera_tree_json.specs.Constants.{key_json, value_json}
use Rattle.tera_tree_json.specs.Forms.{node, name_json, const_json, array_json, map_json, var_json, get_attr_json, get_item_json, slice_json, call_json, ternary_json, comprehension_json, component_call_json, function_call_json, unary_json, binary_json, part_json, pair_json, content_json, shown_json, set_json, block_set_json, include_json, block_json, for_json, branch_json, if_json, section_json}

abbrev mutual
  pub expr_json : Expr → Json
  expr_json (Const v span) = const_json span (value_json v)
  expr_json (Array es span) = array_json span (items_json es)
  expr_json (Map es span) = map_json span (entries_json es)
  expr_json (Var name span) = var_json span name
  expr_json (GetAttr e name optional span) = get_attr_json span (expr_json e) name optional
  expr_json (GetItem e sub optional span) = get_item_json span (expr_json e) (expr_json sub) optional
  expr_json (Slice e start end step optional span) =
      slice_json span (expr_json e) (maybe_json start) (maybe_json end) (maybe_json step) optional
  expr_json (Filter e name args span) = call_json (codes "Filter") span (expr_json e) name (args_json args)
  expr_json (Test e name args span) = call_json (codes "Test") span (expr_json e) name (args_json args)
  expr_json (Ternary e given other span) = ternary_json span (expr_json e) (expr_json given) (expr_json other)
  expr_json (ListComprehension e key value target condition span) =
      comprehension_json span (expr_json e) (name_json key) value (expr_json target) (maybe_json condition)
  expr_json (ComponentCall name es body closed span) =
      component_call_json span name (entries_json es) (nodes_json body) closed
  expr_json (FunctionCall name args span) = function_call_json span name (args_json args)
  expr_json (UnaryOperation op e span) = unary_json span op (expr_json e)
  expr_json (BinaryOperation op l r span) = binary_json span op (expr_json l) (expr_json r)

  -- an expression that may be there
  pub maybe_json : MaybeExpr → Json
  maybe_json NoExpr = null
  maybe_json (OneExpr e) = expr_json e

  -- arguments by their names
  pub args_json : Args → Members
  args_json NoArgs = no_members
  args_json (Arg name e more) = member name (expr_json e) (args_json more)

  pub items_json : Items → JsonItems
  items_json NoItems = no_items
  items_json (Item e es) = item (part_json (codes "Item") (expr_json e)) (items_json es)
  items_json (SpreadItem e es) = item (part_json (codes "Spread") (expr_json e)) (items_json es)

  pub entries_json : Entries → JsonItems
  entries_json NoEntries = no_items
  entries_json (Entry k e es) = item (pair_json (key_json k) (expr_json e)) (entries_json es)
  entries_json (SpreadEntry e es) = item (part_json (codes "Spread") (expr_json e)) (entries_json es)

  pub filters_json : Filters → JsonItems
  filters_json NoFilters = no_items
  filters_json (OneFilter e es) = item (expr_json e) (filters_json es)

  pub node_json : Stmt → Json
  node_json (Content s) = content_json s
  node_json (Shown e) = shown_json (expr_json e)
  node_json (Set name e global) = set_json name (expr_json e) global
  node_json (BlockSet name filters body global) = block_set_json name (filters_json filters) (nodes_json body) global
  node_json (Include name span) = include_json span name
  node_json (Block name span body) = block_json span name (nodes_json body)
  node_json (ForLoop key value target body other) =
      for_json (name_json key) value (expr_json target) (nodes_json body) (nodes_json other)
  node_json Break = node (codes "Break") no_members
  node_json Continue = node (codes "Continue") no_members
  node_json (If e body other) =
      if_json (item (branch_json (expr_json e) (nodes_json body)) (chain_json other).0) (chain_json other).1
  node_json (FilterSection filters body) = section_json (filters_json filters) (nodes_json body)

  pub nodes_json : Nodes → JsonItems
  nodes_json NoNodes = no_items
  nodes_json (OneNode n ns) = item (node_json n) (nodes_json ns)

  -- of the body for where an `if` does not hold: the branches of the `elif`s with which it begins, and what is after
  -- them. An `elif` is an `If` that is alone in such a body, so a chain of them does not nest.
  pub chain_json : Nodes → JsonItems × JsonItems
  chain_json NoNodes = (no_items, no_items)
  chain_json (OneNode n NoNodes) = alone_json n (node_json n)
  chain_json (OneNode n (OneNode m ns)) = (no_items, item (node_json n) (nodes_json (OneNode m ns)))

  -- of a node that is alone in it, with the JSON of that node
  pub alone_json : Stmt → Json → JsonItems × JsonItems
  alone_json (Content _) j = (no_items, item j no_items)
  alone_json (Shown _) j = (no_items, item j no_items)
  alone_json (Set _ _ _) j = (no_items, item j no_items)
  alone_json (BlockSet _ _ _ _) j = (no_items, item j no_items)
  alone_json (Include _ _) j = (no_items, item j no_items)
  alone_json (Block _ _ _) j = (no_items, item j no_items)
  alone_json (ForLoop _ _ _ _ _) j = (no_items, item j no_items)
  alone_json Break j = (no_items, item j no_items)
  alone_json Continue j = (no_items, item j no_items)
  alone_json (If e body other) j =
      (item (branch_json (expr_json e) (nodes_json body)) (chain_json other).0, (chain_json other).1)
  alone_json (FilterSection _ _) j = (no_items, item j no_items)

-- an item, and an entry, by itself
abbrev pub item_json : ArrayEntryOf Expr → Json
item_json (items.Item e) = part_json (codes "Item") (expr_json e)
item_json (items.Spread e) = part_json (codes "Spread") (expr_json e)

abbrev pub entry_json : MapEntryOf Expr → Json
entry_json (entries.KeyValue k e) = pair_json (key_json (key_view k)) (expr_json e)
entry_json (entries.Spread e) = part_json (codes "Spread") (expr_json e)

-- definitions

abbrev pub type_json : Option ArgType → Json
type_json None = null
type_json (Some t) = string (type_name t)

-- a default has a member where it is there: it may be a constant of no value
abbrev pub default_json : Option Val → Members
default_json None = no_members
default_json (Some v) = member (codes "default") (value_json v) no_members

abbrev pub argument_json : Argument → Json
argument_json a = object (member (codes "typ") (type_json a.typ)
    (member (codes "implicit") (boolean a.implicit) (default_json a.default)))

abbrev pub arguments_json : List (List ℕ × Argument) → Members
arguments_json [] = no_members
arguments_json (a ∷ more) = member a.0 (argument_json a.1) (arguments_json more)

abbrev pub metadata_json : List (List ℕ × Val) → Members
metadata_json [] = no_members
metadata_json (m ∷ more) = member m.0 (value_json m.1) (metadata_json more)

abbrev pub definition_json : Definition → Json
definition_json d = object (member (codes "name") (string d.name)
    (member (codes "kwargs") (object (arguments_json d.arguments))
    (member (codes "rest_param_name") (name_json d.rest)
    (member (codes "metadata") (object (metadata_json d.metadata))
    (member (codes "body") (array (nodes_json (nodes_of d.body))) no_members)))))

abbrev pub definitions_json : List Definition → JsonItems
definitions_json [] = no_items
definitions_json (d ∷ ds) = item (definition_json d) (definitions_json ds)

-- the whole tree: its parent, its definitions and its nodes
abbrev pub output_json : Output → Json
output_json o = object (member (codes "parent") (name_json o.parent)
    (member (codes "component_definitions") (array (definitions_json o.definitions))
    (member (codes "nodes") (array (nodes_json (nodes_of o.nodes))) no_members)))

-- its text, which has no white space
abbrev pub json_text : Output → List ℕ
json_text o = print (json_tokens (output_json o))
