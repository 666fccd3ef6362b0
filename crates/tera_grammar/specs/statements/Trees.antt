-- Words of a law: what holds of the tree of every template.
use Rattle.std.specs.Prelude.{◌≡◌, ℕ, Bool, true, false, ◌||◌, List, [], ◌∷◌, ◌++◌, map, Option, Some, None}
use Rattle.std.specs.List.{AllByRecursion, list_any}
use Rattle.std.specs.Str.{bytes_eq}
use Rattle.tera_ast.specs.Tree as tree
use Rattle.tera_ast.specs.Tree.{Stmt, Nodes, NoNodes, OneNode}
use Rattle.tera_tree.specs.Tree.{Argument, Definition, Output}
use Rattle.tera_ast.specs.View.{nodes_of}
use Rattle.tera_grammar.specs.Words.{AreDistinct}
use Rattle.tera_grammar.specs.statements.TagParts.{Name}
use Rattle.tera_grammar.specs.statements.Top.{is_blank}

-- The names of the blocks, in order. A call of a component holds nodes where it is a node itself and does not
-- close itself.
abbrev mutual
  pub blocks : Nodes → List (List ℕ)
  blocks NoNodes = []
  blocks (OneNode s ss) = stmt_blocks s ++ blocks ss

  pub stmt_blocks : Stmt → List (List ℕ)
  stmt_blocks (tree.Block name span body) = name ∷ blocks body
  stmt_blocks (tree.BlockSet name fs body global) = blocks body
  stmt_blocks (tree.ForLoop key value target body other) = blocks body ++ blocks other
  stmt_blocks (tree.If e body other) = blocks body ++ blocks other
  stmt_blocks (tree.FilterSection fs body) = blocks body
  stmt_blocks (tree.Shown (tree.ComponentCall name es body false span)) = blocks body
  stmt_blocks s = []

-- The name of a component, and which names are those of its parameters: by where these are, and by its definition.
abbrev pub group_names : List ℕ × List Name → List ℕ × (List ℕ → Bool)
group_names g = (g.0, λ name. list_any (λ n. bytes_eq n.text name) g.1)

abbrev pub is_rest : Option (List ℕ) → List ℕ → Bool
is_rest None name = false
is_rest (Some rest) name = bytes_eq rest name

abbrev pub has_argument : List (List ℕ × Argument) → List ℕ → Bool
has_argument arguments name = list_any (λ a. bytes_eq a.0 name) arguments

abbrev pub definition_names : Definition → List ℕ × (List ℕ → Bool)
definition_names d = (d.name, λ name. has_argument d.arguments name || is_rest d.rest name)

-- Each `break` and `continue` is in the body of a loop, with no capture between; around the whole there is such a loop,
-- or none.
abbrev mutual
  pub BreaksAreInside : Bool → Nodes → Type 0
  BreaksAreInside inside NoNodes = Unit {0}
  BreaksAreInside inside (OneNode s ss) = BreakIsInside inside s × BreaksAreInside inside ss

  pub BreakIsInside : Bool → Stmt → Type 0
  BreakIsInside inside tree.Break = inside ≡ true
  BreakIsInside inside tree.Continue = inside ≡ true
  BreakIsInside inside (tree.Block name span body) = BreaksAreInside inside body
  BreakIsInside inside (tree.BlockSet name fs body global) = BreaksAreInside false body
  BreakIsInside inside (tree.ForLoop key value target body other) = BreaksAreInside true body × BreaksAreInside inside other
  BreakIsInside inside (tree.If e body other) = BreaksAreInside inside body × BreaksAreInside inside other
  BreakIsInside inside (tree.FilterSection fs body) = BreaksAreInside false body
  BreakIsInside inside (tree.Shown (tree.ComponentCall name es body false span)) = BreaksAreInside false body
  BreakIsInside inside s = Unit {0}

-- a text of white space, or a block
abbrev pub IsKeptNode : Stmt → Type 0
IsKeptNode (tree.Content text) = is_blank text ≡ true
IsKeptNode (tree.Block name span body) = Unit {0}
IsKeptNode s = ⊥

-- No two blocks have one name, nor two components; each `break` and `continue` is in a loop; and a template that
-- extends another holds nothing but texts of white space and blocks.
pub record IsRight (out : Output) : Type 0 where
  pub block_names : AreDistinct (blocks (nodes_of out.nodes))
  pub component_names : AreDistinct (map (λ d. d.name) out.definitions)
  pub breaks : BreaksAreInside false (nodes_of out.nodes)
  pub breaks_inside : AllByRecursion (λ d. BreaksAreInside false (nodes_of d.body)) out.definitions
  pub child : (name : List ℕ) → out.parent ≡ Some name → AllByRecursion IsKeptNode out.nodes
