-- What a template is read as, without where it lies in memory.
use Rattle.std.specs.Prelude.{map}
use Rattle.tera_ast.specs.View.{name_view, node_view}
use Rattle.tera_tree.specs.Tree.{Output}
use Rattle.tera_tree.specs.View.{definition_view}
use Rattle.tera_tree.specs.declared.outputs.ParserOutput.{ParserOutput}

abbrev pub output_view : ParserOutput → Output
output_view o = record {
  parent = name_view o.parent;
  nodes = map node_view o.nodes.items;
  definitions = map definition_view o.component_definitions.items;
}
