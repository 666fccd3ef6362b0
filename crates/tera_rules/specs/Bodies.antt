-- Bodies of calls, and components that never show theirs.
use Rattle.std.specs.Prelude.{ℕ, List, Bool, true, false, not, ◌&&◌, ◌||◌, Result, Ok, Err, codes}
use Rattle.std.specs.List.{list_any}
use Rattle.std.specs.Str.{bytes_eq}
use Rattle.tera_base.specs.declared.errors.Error.{Error}
use Rattle.tera_ast.specs.Tree.{Var, Include, Stmt, Content, Nodes, NoNodes, OneNode}
use Rattle.tera_ast.specs.View.{nodes_of}
use Rattle.tera_grammar.specs.statements.Top.{is_blank}
use Rattle.tera_tree.specs.Parts.{PartVal, NodePart, ExpressionPart, parts_of_nodes}
use Rattle.tera_tree.specs.Outputs.{output_view}
use Rattle.tera_tree.specs.Tree.{Definition}
use Rattle.tera_tree.specs.declared.outputs.ParserOutput.{ParserOutput}
use Rattle.tera_rules.specs.Within.{all_parts}

-- a body that is only white space
abbrev pub is_blank_node : Stmt → Bool
is_blank_node (Content text) = is_blank text
is_blank_node _ = false

abbrev pub is_blank_body : Nodes → Bool
is_blank_body NoNodes = true
is_blank_body (OneNode n ns) = is_blank_node n && is_blank_body ns

-- the variable that shows all others
abbrev pub all_variables : List ℕ
all_variables = codes "__tera_context"

-- The part may show the body: it is the variable `body`, the variable that shows all others, or an `include`, since the
-- template that is included has the variables of this one. No call takes the body, as it is not a parameter.
abbrev pub may_show : PartVal → Bool
may_show (NodePart (Include name span)) = true
may_show (ExpressionPart (Var name span)) = bytes_eq name (codes "body") || bytes_eq name all_variables
may_show _ = false

-- some part of the definition may, at any depth
abbrev pub shows_body : Definition → Bool
shows_body d = list_any may_show (all_parts (parts_of_nodes (nodes_of d.body)))

-- the component of this name is among these, and shows no body
abbrev pub is_hidden_in : List Definition → List ℕ → Bool
is_hidden_in ds name = list_any (λ d. bytes_eq d.name name && not (shows_body d)) ds

-- .. in the tree of a template without faults; in one with a fault, what was lost may show a body
abbrev pub is_hidden_by : Result ParserOutput Error → List ℕ → Bool
is_hidden_by (Ok output) name = is_hidden_in (output_view output).definitions name
is_hidden_by (Err error) name = false
