-- Outputs apart from where they are.
use Rattle.std.specs.Prelude.{◌≡◌, false, List, map}
use Rattle.tera_lexer.specs.code.Cursors.{nowhere}
use Rattle.tera_ast.specs.Tree as tree
use Rattle.tera_ast.specs.Tree.{Stmt, Filters, Nodes, NoNodes, OneNode}
use Rattle.tera_tree.specs.Tree.{Definition, Output}
use Rattle.tera_grammar.specs.statements.Grammar.{Body}
use Rattle.tera_grammar.specs.statements.Output.{output_of}
use Rattle.tera_source.specs.Placeless.{placeless, placeless_entries}

-- Nodes apart from where they and their parts are. A call of a component holds nodes where it is a node itself and does
-- not close itself.
abbrev pub placeless_filters : Filters → Filters
placeless_filters tree.NoFilters = tree.NoFilters
placeless_filters (tree.OneFilter e fs) = tree.OneFilter (placeless e) (placeless_filters fs)

abbrev mutual
  pub placeless_nodes : Nodes → Nodes
  placeless_nodes NoNodes = NoNodes
  placeless_nodes (OneNode s ss) = OneNode (placeless_node s) (placeless_nodes ss)

  pub placeless_node : Stmt → Stmt
  placeless_node (tree.Content text) = tree.Content text
  placeless_node (tree.Shown (tree.ComponentCall name es body false s)) =
      tree.Shown (tree.ComponentCall name (placeless_entries es) (placeless_nodes body) false nowhere)
  placeless_node (tree.Shown e) = tree.Shown (placeless e)
  placeless_node (tree.Set name e global) = tree.Set name (placeless e) global
  placeless_node (tree.BlockSet name fs body global) = tree.BlockSet name (placeless_filters fs) (placeless_nodes body) global
  placeless_node (tree.Include name s) = tree.Include name nowhere
  placeless_node (tree.Block name s body) = tree.Block name nowhere (placeless_nodes body)
  placeless_node (tree.ForLoop key value target body other) =
      tree.ForLoop key value (placeless target) (placeless_nodes body) (placeless_nodes other)
  placeless_node tree.Break = tree.Break
  placeless_node tree.Continue = tree.Continue
  placeless_node (tree.If e body other) = tree.If (placeless e) (placeless_nodes body) (placeless_nodes other)
  placeless_node (tree.FilterSection fs body) = tree.FilterSection (placeless_filters fs) (placeless_nodes body)

abbrev pub placeless_list : List Stmt → List Stmt
placeless_list ss = map placeless_node ss

-- the definition of a component: its body alone has places
abbrev pub placeless_definition : Definition → Definition
placeless_definition d = record {
  name = d.name;
  arguments = d.arguments;
  rest = d.rest;
  metadata = d.metadata;
  body = placeless_list d.body;
}

abbrev pub placeless_output : Output → Output
placeless_output out = record {
  parent = out.parent;
  nodes = placeless_list out.nodes;
  definitions = map placeless_definition out.definitions;
}

-- templates that are read as the same, apart from places
abbrev pub IsAlike : Body → Body → Type 0
IsAlike x y = placeless_output (output_of x) ≡ placeless_output (output_of y)
