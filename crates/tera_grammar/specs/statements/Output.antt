-- What a template is read as: its nodes, what it extends and what it defines.
use Rattle.std.specs.Prelude.{ℕ, Bool, true, false, List, [], ◌∷◌, ◌++◌, Option, Some, None}
use Rattle.tera_ast.specs.Tree as tree
use Rattle.tera_ast.specs.Tree.{Stmt}
use Rattle.tera_tree.specs.Tree.{Definition, Output}
use Rattle.tera_ast.specs.View.{nodes_of}
use Rattle.tera_grammar.specs.expressions.Output.{quote_text}
use Rattle.tera_grammar.specs.statements.Expressions.{expression_output}
use Rattle.tera_grammar.specs.statements.Components.{definition_of}
use Rattle.tera_grammar.specs.statements.Heads.{loop_output, capture_output}
use Rattle.tera_grammar.specs.statements.Grammar.{Plain, Text, Shown, Set, Include, Extends, Break, Continue, Body, Done, Then, Item, Single, Block, Define, Capturing, For, If, Branches, Elif, Last, Else, NoElse, Otherwise}

-- what an item adds: nothing; a node; the parent; the definition of a component
pub data Adds : Type 0 where
  AddsNothing : Adds
  AddsNode : Stmt → Adds
  AddsParent : List ℕ → Adds
  AddsDefinition : Definition → Adds

abbrev pub added_nodes : Adds → List Stmt
added_nodes (AddsNode s) = s ∷ []
added_nodes a = []

-- a text is a node, unless it is empty
abbrev pub text_adds : List ℕ → Adds
text_adds [] = AddsNothing
text_adds (b ∷ bs) = AddsNode (tree.Content (b ∷ bs))

abbrev pub plain_adds : Bool → Plain → Adds
plain_adds in_loop (Text text span) = text_adds text
plain_adds in_loop (Shown a e b) = AddsNode (tree.Shown (expression_output in_loop e))
plain_adds in_loop (Set global t n sign e) = AddsNode (tree.Set n.text (expression_output in_loop e) global)
plain_adds in_loop (Include t q span) = AddsNode (tree.Include (quote_text q) span)
plain_adds in_loop (Extends t q span) = AddsParent (quote_text q)
plain_adds in_loop (Break t) = AddsNode tree.Break
plain_adds in_loop (Continue t) = AddsNode tree.Continue

-- The nodes of a body, in a loop or not. An `elif` is an `if` alone where the first is false.
abbrev mutual
  pub output : Bool → Body → List Stmt
  output in_loop Done = []
  output in_loop (Then i b) = added_nodes (added_by in_loop i) ++ output in_loop b

  pub added_by : Bool → Item → Adds
  added_by in_loop (Single p) = plain_adds in_loop p
  added_by in_loop (Block t n b e m) = AddsNode (tree.Block n.text n.span (nodes_of (output in_loop b)))
  added_by in_loop (Define h b) = AddsDefinition (definition_of h (output in_loop b))
  added_by in_loop (Capturing c b) = AddsNode (capture_output in_loop c (nodes_of (output in_loop b)))
  added_by in_loop (For t lp b o e) = AddsNode (loop_output lp (nodes_of (output true b)) (nodes_of (else_output in_loop o)))
  added_by in_loop (If t c b bs e) =
      AddsNode (tree.If (expression_output in_loop c) (nodes_of (output in_loop b)) (nodes_of (branch_output in_loop bs)))

  pub branch_output : Bool → Branches → List Stmt
  branch_output in_loop (Elif t c b bs) =
      tree.If (expression_output in_loop c) (nodes_of (output in_loop b)) (nodes_of (branch_output in_loop bs)) ∷ []
  branch_output in_loop (Last o) = else_output in_loop o

  pub else_output : Bool → Else → List Stmt
  else_output in_loop NoElse = []
  else_output in_loop (Otherwise t b) = output in_loop b

-- the second, where there is one
abbrev pub later : Option (List ℕ) → Option (List ℕ) → Option (List ℕ)
later a None = a
later a (Some b) = Some b

abbrev pub parent_by : Adds → Option (List ℕ)
parent_by (AddsParent name) = Some name
parent_by a = None

abbrev pub definitions_by : Adds → List Definition
definitions_by (AddsDefinition d) = d ∷ []
definitions_by a = []

-- What a template extends, and what it defines, at its top level.
abbrev pub parent_of : Body → Option (List ℕ)
parent_of Done = None
parent_of (Then i b) = later (parent_by (added_by false i)) (parent_of b)

abbrev pub definitions_of : Body → List Definition
definitions_of Done = []
definitions_of (Then i b) = definitions_by (added_by false i) ++ definitions_of b

abbrev pub output_of : Body → Output
output_of b = record { parent = parent_of b; nodes = output false b; definitions = definitions_of b }
