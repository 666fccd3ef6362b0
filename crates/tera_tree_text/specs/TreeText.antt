-- The lines of a tree.
use Rattle.std.specs.Prelude.{ℕ, List, [], ◌∷◌, ◌++◌, Bool, true, false, if◌then◌else◌, Option, None, Some, codes}
use Rattle.tera_base.specs.Values.{Val}
use Rattle.tera_base.specs.Text.{const_text}
use Rattle.tera_ast.specs.Tree.{Expr, Filter, ComponentCall, Filters, NoFilters, OneFilter, Entries, Stmt, Content, Shown, Set, BlockSet, Include, Block, ForLoop, Break, Continue, If, FilterSection, Nodes, NoNodes, OneNode}
use Rattle.tera_tree.specs.Tree.{Argument, Definition, Output}
use Rattle.tera_ast.specs.View.{nodes_of}
use Rattle.std.specs.List.{flat_map}
use Rattle.tera_ast.specs.Text.{text, names_text, call_text, args_text, entries_text}
use Rattle.tera_tree.specs.Types.{type_name}
use Rattle.tera_tree.specs.declared.ast.ArgType.{ArgType}
use Rattle.tera_tree_text.specs.Quoted.{quoted}

-- a line at this indent
abbrev pub line : List ℕ → List ℕ → List ℕ
line indent words = indent ++ (words ++ 10 ∷ [])

-- one level deeper
abbrev pub deeper : List ℕ → List ℕ
deeper indent = indent ++ codes "  "

-- a filter without what it changes
abbrev pub filter_text : Expr → List ℕ
filter_text (Filter e name args span) = call_text name (args_text false args)
filter_text e = text e

-- filters with bars between them, and one before the first if something is before it
abbrev pub filters_text : Bool → Filters → List ℕ
filters_text later NoFilters = []
filters_text later (OneFilter e es) = (if later then codes " | " else []) ++ (filter_text e ++ filters_text true es)

abbrev pub set_text : Bool → List ℕ → List ℕ
set_text global name = (if global then codes "set_global " else codes "set ") ++ name

abbrev pub is_if : Stmt → Bool
is_if (If e body other) = true
is_if _ = false

abbrev pub is_lone_if : Nodes → Bool
is_lone_if NoNodes = false
is_lone_if (OneNode n NoNodes) = is_if n
is_lone_if (OneNode n (OneNode m ns)) = false

abbrev pub has_nodes : Nodes → Bool
has_nodes NoNodes = false
has_nodes (OneNode n ns) = true

-- what comes after the body of an `If`: the lines of an `elif`, which is an `If` alone, or `else` with its body, or
-- nothing
abbrev pub false_text : Nodes → List ℕ → List ℕ → List ℕ → List ℕ
false_text other indent alone below = if is_lone_if other then alone else (if has_nodes other then line indent (codes "else") ++ below else [])

-- what comes after the body of a loop
abbrev pub else_text : Nodes → List ℕ → List ℕ → List ℕ
else_text other indent below = if has_nodes other then line indent (codes "else") ++ below else []

-- the lines of nodes; an `If` begins with the word `if ` or `elif `
abbrev mutual
  pub node_text : List ℕ → List ℕ → Stmt → List ℕ
  node_text word indent (Content s) = line indent (codes "text " ++ quoted s)
  node_text word indent (Shown e) = shown_text indent e
  node_text word indent (Set name value global) = line indent (set_text global name ++ (codes " = " ++ text value))
  node_text word indent (BlockSet name filters body global) = line indent (set_text global name ++ filters_text true filters) ++ nodes_text (codes "if ") (deeper indent) body
  node_text word indent (Include name span) = line indent (codes "include " ++ quoted name)
  node_text word indent (Block name span body) = line indent (codes "block " ++ name) ++ nodes_text (codes "if ") (deeper indent) body
  node_text word indent (ForLoop key value target body other) =
      line indent (codes "for " ++ (names_text key value ++ (codes " in " ++ text target)))
      ++ (nodes_text (codes "if ") (deeper indent) body ++ else_text other indent (nodes_text (codes "if ") (deeper indent) other))
  node_text word indent Break = line indent (codes "break")
  node_text word indent Continue = line indent (codes "continue")
  node_text word indent (If e body other) =
      line indent (word ++ text e)
      ++ (nodes_text (codes "if ") (deeper indent) body ++ false_text other indent (nodes_text (codes "elif ") indent other) (nodes_text (codes "if ") (deeper indent) other))
  node_text word indent (FilterSection filters body) = line indent (codes "filter " ++ filters_text false filters) ++ nodes_text (codes "if ") (deeper indent) body

  -- an expression that is shown: a call with a body has the lines of its body
  pub shown_text : List ℕ → Expr → List ℕ
  shown_text indent (ComponentCall name es body false span) =
      line indent (codes "call <" ++ (call_text name (entries_text false es) ++ codes ">")) ++ nodes_text (codes "if ") (deeper indent) body
  shown_text indent e = line indent (codes "expr " ++ text e)

  pub nodes_text : List ℕ → List ℕ → Nodes → List ℕ
  nodes_text word indent NoNodes = []
  nodes_text word indent (OneNode n ns) = node_text word indent n ++ nodes_text word indent ns

-- definitions
abbrev pub typed_text : Option ArgType → List ℕ
typed_text None = []
typed_text (Some t) = codes ": " ++ type_name t

abbrev pub default_text : Option Val → List ℕ
default_text None = []
default_text (Some v) = codes " = " ++ const_text v

abbrev pub argument_text : List ℕ × Argument → List ℕ
argument_text a = line (codes "  ") (codes "arg " ++ ((if a.1.implicit then codes "@" else []) ++ (a.0 ++ (typed_text a.1.typ ++ default_text a.1.default))))

abbrev pub rest_text : Option (List ℕ) → List ℕ
rest_text None = []
rest_text (Some name) = line (codes "  ") (codes "rest " ++ name)

abbrev pub meta_text : List ℕ × Val → List ℕ
meta_text m = line (codes "  ") (codes "meta " ++ (quoted m.0 ++ (codes " = " ++ const_text m.1)))

abbrev pub body_text : List Stmt → List ℕ
body_text [] = []
body_text (n ∷ ns) = line (codes "  ") (codes "body") ++ nodes_text (codes "if ") (codes "    ") (nodes_of (n ∷ ns))

abbrev pub definition_text : Definition → List ℕ
definition_text d = line [] (codes "component " ++ d.name)
    ++ (flat_map argument_text d.arguments ++ (rest_text d.rest ++ (flat_map meta_text d.metadata ++ body_text d.body)))

abbrev pub parent_text : Option (List ℕ) → List ℕ
parent_text None = []
parent_text (Some name) = line [] (codes "parent " ++ quoted name)

-- the whole tree: its parent, its definitions and its nodes
abbrev pub text_of : Output → List ℕ
text_of o = parent_text o.parent ++ (flat_map definition_text o.definitions ++ nodes_text (codes "if ") [] (nodes_of o.nodes))
