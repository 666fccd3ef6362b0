-- From definitions of components to what they stand for.
use Rattle.std.specs.Prelude.{map, Option, None, Some, string_bytes}
use Rattle.tera_base.specs.Values.{Val}
use Rattle.tera_base.specs.ValueView.{value_view}
use Rattle.tera_base.specs.declared.values.Value.{Value}
use Rattle.tera_ast.specs.View.{name_view, node_view}
use Rattle.tera_tree.specs.Tree.{Argument, Definition}
use Rattle.tera_tree.specs.declared.ast.ComponentArgument.{ComponentArgument}
use Rattle.tera_tree.specs.declared.ast.ComponentDefinition.{ComponentDefinition}

abbrev pub default_view : Option Value → Option Val
default_view None = None
default_view (Some v) = Some (value_view v)

abbrev pub argument_view : ComponentArgument → Argument
argument_view a = record { default = default_view a.default; typ = a.typ; implicit = a.implicit }

abbrev pub definition_view : ComponentDefinition → Definition
definition_view d = record {
  name = string_bytes d.name;
  arguments = map (λ a. (string_bytes a.0, argument_view a.1)) d.kwargs.entries;
  rest = name_view d.rest_param_name;
  metadata = map (λ m. (string_bytes m.0, value_view m.1)) d.metadata.entries;
  body = map node_view d.body.items;
}
