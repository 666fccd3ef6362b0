-- The parameters of components that nothing in their bodies names.
use Rattle.std.specs.Prelude.{ℕ, List, [], ◌∷◌, ◌++◌, Bool, true, false, not, ◌&&◌, ◌||◌, if◌then◌else◌, Option, None, Some, codes, nat_eq}
use Rattle.std.specs.List.{flat_map, starts_with}
use Rattle.std.specs.Str.{bytes_eq}
use Rattle.tera_base.specs.declared.utils.Span.{Span}
use Rattle.tera_ast.specs.View.{nodes_of}
use Rattle.tera_ast.specs.Tree.{Expr, Const, Array, Map, Var, GetAttr, GetItem, Slice, Filter, Test, Ternary, ListComprehension, ComponentCall, FunctionCall, UnaryOperation, BinaryOperation}
use Rattle.tera_ast.specs.Tree.{MaybeExpr, NoExpr, OneExpr, Filters, NoFilters, OneFilter, Args, NoArgs, Arg, Items, NoItems, Item, SpreadItem, Entries, NoEntries, Entry, SpreadEntry}
use Rattle.tera_ast.specs.Tree.{Stmt, Content, Shown, Set, BlockSet, Include, Block, ForLoop, Break, Continue, If, FilterSection, Nodes, NoNodes, OneNode}
use Rattle.tera_tags.specs.Known.{grouped_of}
use Rattle.tera_grammar.specs.statements.Reading.Meeting.{Located}
use Rattle.tera_tree.specs.Tree.{Definition}
use Rattle.tera_findings.specs.Findings.{FindingVal, FindingOf, span_if_any}
use Rattle.tera_rules.specs.Bodies.{all_variables}
use Rattle.tera_rules.specs.Judged.{located_if_any}
use Rattle.tera_findings.specs.declared.finding.Kind.TheVariants as kinds
use Rattle.tera_templates.specs.declared.templates.Template.{Template}

-- a loop, or a comprehension, gives this name to its items
abbrev pub binds : Option (List ℕ) → List ℕ → List ℕ → Bool
binds None value n = bytes_eq value n
binds (Some key) value n = bytes_eq value n || bytes_eq key n

abbrev pub variable_names : Bool → List ℕ → List ℕ → Bool
variable_names hidden n name = bytes_eq name all_variables || not hidden && bytes_eq name n

-- whether a call of a component of this name may take the variable of that name by itself, whether the call passes a
-- value for it or not; a loop or a comprehension hides the variable, or does not
abbrev pub Taking : Type 0
Taking = List ℕ → Bool → List ℕ → Bool

-- A parameter is named by a variable of its name, unless a loop or a comprehension around it gives that name to its
-- items (there it is hidden); by the variable that shows all; by an `include`, since the template that is included has
-- the variables of this one; and by a call of a component that may take the variable by itself. A `set` gives the
-- variable another value, and names nothing.
abbrev mutual
  pub named_in : Taking → Bool → List ℕ → Expr → Bool
  named_in takes hidden n (Const v span) = false
  named_in takes hidden n (Array es span) = named_in_items takes hidden n es
  named_in takes hidden n (Map es span) = named_in_entries takes hidden n es
  named_in takes hidden n (Var name span) = variable_names hidden n name
  named_in takes hidden n (GetAttr e name optional span) = named_in takes hidden n e
  named_in takes hidden n (GetItem e sub optional span) = named_in takes hidden n e || named_in takes hidden n sub
  named_in takes hidden n (Slice e start end step optional span) =
      named_in takes hidden n e || (named_in_maybe takes hidden n start || (named_in_maybe takes hidden n end || named_in_maybe takes hidden n step))
  named_in takes hidden n (Filter e name args span) = named_in takes hidden n e || named_in_args takes hidden n args
  named_in takes hidden n (Test e name args span) = named_in takes hidden n e || named_in_args takes hidden n args
  named_in takes hidden n (Ternary e given other span) = named_in takes hidden n given || (named_in takes hidden n e || named_in takes hidden n other)
  named_in takes hidden n (ListComprehension e key value target condition span) =
      named_in takes (hidden || binds key value n) n e || (named_in takes hidden n target || named_in_maybe takes (hidden || binds key value n) n condition)
  named_in takes hidden n (ComponentCall name es body closed span) =
      takes name hidden n || (named_in_entries takes hidden n es || named_in_nodes takes hidden n body)
  named_in takes hidden n (FunctionCall name args span) = named_in_args takes hidden n args
  named_in takes hidden n (UnaryOperation op e span) = named_in takes hidden n e
  named_in takes hidden n (BinaryOperation op l r span) = named_in takes hidden n l || named_in takes hidden n r

  pub named_in_maybe : Taking → Bool → List ℕ → MaybeExpr → Bool
  named_in_maybe takes hidden n NoExpr = false
  named_in_maybe takes hidden n (OneExpr e) = named_in takes hidden n e

  pub named_in_filters : Taking → Bool → List ℕ → Filters → Bool
  named_in_filters takes hidden n NoFilters = false
  named_in_filters takes hidden n (OneFilter e es) = named_in takes hidden n e || named_in_filters takes hidden n es

  pub named_in_args : Taking → Bool → List ℕ → Args → Bool
  named_in_args takes hidden n NoArgs = false
  named_in_args takes hidden n (Arg name e more) = named_in takes hidden n e || named_in_args takes hidden n more

  pub named_in_items : Taking → Bool → List ℕ → Items → Bool
  named_in_items takes hidden n NoItems = false
  named_in_items takes hidden n (Item e es) = named_in takes hidden n e || named_in_items takes hidden n es
  named_in_items takes hidden n (SpreadItem e es) = named_in takes hidden n e || named_in_items takes hidden n es

  pub named_in_entries : Taking → Bool → List ℕ → Entries → Bool
  named_in_entries takes hidden n NoEntries = false
  named_in_entries takes hidden n (Entry k e es) = named_in takes hidden n e || named_in_entries takes hidden n es
  named_in_entries takes hidden n (SpreadEntry e es) = named_in takes hidden n e || named_in_entries takes hidden n es

  pub named_in_node : Taking → Bool → List ℕ → Stmt → Bool
  named_in_node takes hidden n (Content t) = false
  named_in_node takes hidden n (Shown e) = named_in takes hidden n e
  named_in_node takes hidden n (Set name e global) = named_in takes hidden n e
  named_in_node takes hidden n (BlockSet name filters body global) = named_in_filters takes hidden n filters || named_in_nodes takes hidden n body
  named_in_node takes hidden n (Include name span) = true
  named_in_node takes hidden n (Block name span body) = named_in_nodes takes hidden n body
  named_in_node takes hidden n (ForLoop key value target body other) =
      named_in takes hidden n target || (named_in_nodes takes (hidden || binds key value n) n body || named_in_nodes takes hidden n other)
  named_in_node takes hidden n Break = false
  named_in_node takes hidden n Continue = false
  named_in_node takes hidden n (If e body other) = named_in takes hidden n e || (named_in_nodes takes hidden n body || named_in_nodes takes hidden n other)
  named_in_node takes hidden n (FilterSection filters body) = named_in_filters takes hidden n filters || named_in_nodes takes hidden n body

  pub named_in_nodes : Taking → Bool → List ℕ → Nodes → Bool
  named_in_nodes takes hidden n NoNodes = false
  named_in_nodes takes hidden n (OneNode s ss) = named_in_node takes hidden n s || named_in_nodes takes hidden n ss

-- where a template has the parameters of a component, by its name and theirs
abbrev pub parameter_at : Template → List ℕ → Located
parameter_at t component = located_if_any (grouped_of t.parameters_at component)

-- a name that begins with `_` says that its parameter, or its component, may be unused
abbrev pub may_be_unused : List ℕ → Bool
may_be_unused name = starts_with nat_eq name (codes "_")

-- the finding of a parameter at this place that is not named
abbrev pub unused_text : List ℕ → List ℕ → List ℕ
unused_text component name =
    codes "Parameter `" ++ (name ++ (codes "` is never used in the body of component `" ++ (component ++ codes "`")))

abbrev pub unused : List ℕ → List ℕ → Span → FindingVal
unused component name span = FindingOf kinds.UnusedParameter span (unused_text component name) []

abbrev pub unused_if : Definition → (List ℕ → Bool) → Located → List ℕ → List FindingVal
unused_if d named at name = if may_be_unused name || named name then [] else unused d.name name (span_if_any (at name)) ∷ []

-- the arguments of a component, in the order of their names, and its rest parameter
abbrev pub unused_rest : Definition → (List ℕ → Bool) → Located → Option (List ℕ) → List FindingVal
unused_rest d named at None = []
unused_rest d named at (Some rest) = unused_if d named at rest

abbrev pub unused_of : Definition → (List ℕ → Bool) → Located → List FindingVal
unused_of d named at = flat_map (λ a. unused_if d named at a.0) d.arguments ++ unused_rest d named at d.rest

abbrev pub unused_in : Taking → (List ℕ → Located) → Definition → List FindingVal
unused_in takes places d = unused_of d (λ n. named_in_nodes takes false n (nodes_of d.body)) (places d.name)
