-- Templates that were read: their trees, and which of their components show no body.
use Rattle.std.specs.Prelude.{◌≡◌, ℕ, List, [], Bool, not, map, Option, None, Some, Result, Ok, Err}
use Rattle.std.specs.Option.{option_map}
use Rattle.tera_base.specs.declared.errors.Error.{Error}
use Rattle.tera_tree.specs.declared.outputs.ParserOutput.{ParserOutput}
use Rattle.tera_tree.specs.View.{definition_view}
use Rattle.tera_templates.specs.declared.mended.Mended.{Mended}
use Rattle.tera_templates.specs.declared.templates.Template.{Template}
use Rattle.std.specs.BTreeSet.{contains_text}
use Rattle.tera_tree.specs.Tree.{Definition}
use Rattle.tera_rules.specs.Bodies.{is_hidden_by}

-- the tree of a template; if it has a fault, the tree that it was mended to, if there is one
abbrev pub tree_by : Result ParserOutput Error → Option Mended → Option ParserOutput
tree_by (Ok o) m = Some o
tree_by (Err e) m = option_map (λ m. m.output) m

abbrev pub tree_of : Template → Option ParserOutput
tree_of t = tree_by t.parsed t.mended

-- the definitions in the tree, if there is one
abbrev pub definitions_in : Option ParserOutput → List Definition
definitions_in None = []
definitions_in (Some output) = map definition_view output.component_definitions.items

abbrev pub definitions_of : Template → List Definition
definitions_of t = definitions_in (tree_of t)

-- the template has the names of its components that show no body
abbrev pub HasHidden : Template → Type 0
HasHidden t = (name : List ℕ) → contains_text t.bodies_hidden name ≡ is_hidden_by t.parsed name

-- whether the component of a name in a template may show its body
abbrev pub shows_in : Template → List ℕ → Bool
shows_in t name = not (contains_text t.bodies_hidden name)
