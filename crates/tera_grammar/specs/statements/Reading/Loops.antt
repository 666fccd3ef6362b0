-- For the loops of a program: what has been read so far, and what each item adds to a template.
use Rattle.std.specs.Prelude.{◌≡◌, ℕ, suc, Bool, true, false, List, [], ◌∷◌, ◌++◌, Option, Some, None}
use Rattle.tera_base.specs.declared.utils.Span.{Span}
use Rattle.tera_lexer.specs.code.Cursors.{size}
use Rattle.tera_lexer.specs.grammar.Tokens.{Items}
use Rattle.tera_ast.specs.Tree as tree
use Rattle.tera_ast.specs.Tree.{Expr, Stmt}
use Rattle.tera_tree.specs.Tree.{Argument, Output}
use Rattle.tera_ast.specs.View.{nodes_of}
use Rattle.tera_grammar.specs.statements.Types.{Sorted}
use Rattle.tera_grammar.specs.Reads.{found, ◌>>=◌}
use Rattle.tera_grammar.specs.statements.TagParts.{Tag}
use Rattle.tera_grammar.specs.statements.Expressions.{Limits, Expression, expression_output, Filtering, filter_output}
use Rattle.tera_grammar.specs.statements.Components.{Parameter, Parameters, More, put_arguments}
use Rattle.tera_grammar.specs.statements.Places.{parameters_placed}
use Rattle.tera_grammar.specs.statements.Heads.{Filters, Piped}
use Rattle.tera_grammar.specs.statements.Grammar.{Body, Branches, Elif}
use Rattle.tera_grammar.specs.statements.Output.{Adds, AddsNothing, AddsNode, AddsParent, AddsDefinition, added_nodes, later, parent_by, definitions_by, output, parent_of, definitions_of}
use Rattle.tera_grammar.specs.statements.Reading.{Place, Reads, body, top_by}
use Rattle.tera_grammar.specs.statements.Reading.Phases.{Phase, Starting, Standalone, Extending}
use Rattle.tera_grammar.specs.statements.Reading.Heads.{filters_of}
use Rattle.tera_grammar.specs.statements.Reading.Components.{parameters_of}
use Rattle.tera_grammar.specs.statements.Reading.Meeting.{Located, locate_all, met, nothing_located, nothing_met}
use Rattle.tera_grammar.specs.statements.Top.{is_blank, join}

-- Some items of a body have been read, and its reading comes to what follows from here.
pub record Going (read : Place → Reads Body) (in_loop : Bool) (start here : Place) (nodes : List Stmt) : Type 0 where
  pub before : Body
  pub reads : read start ≡ (read here >>= λ b. found (join before b.0, b.1))
  pub shows : nodes ≡ output in_loop before

-- an `elif`, with its body
pub record Branch : Type 0 where
  pub tag : Tag
  pub condition : Expression
  pub body : Body

-- branches in front of others
abbrev pub chain : List Branch → Branches → Branches
chain [] bs = bs
chain (b ∷ before) bs = Elif b.tag b.condition b.body (chain before bs)

abbrev pub chain_output : Bool → List Branch → List (Expr × List Stmt)
chain_output in_loop [] = []
chain_output in_loop (b ∷ bs) = (expression_output in_loop b.condition, output in_loop b.body) ∷ chain_output in_loop bs

-- the branches of an `if`, the last of them inside all others
abbrev pub nest : List (Expr × List Stmt) → List Stmt → List Stmt
nest [] end = end
nest (b ∷ bs) end = tree.If b.0 (nodes_of b.1) (nodes_of (nest bs end)) ∷ []

-- likewise some branches of an `if`
pub record Branching (read : Place → Reads Branches) (in_loop : Bool) (start here : Place) (gathered : List (Expr × List Stmt)) : Type 0 where
  pub before : List Branch
  pub reads : read start ≡ (read here >>= λ bs. found (chain before bs.0, bs.1))
  pub shows : gathered ≡ chain_output in_loop before

-- filters in front of others
abbrev pub pipe : List (Span × Filtering) → Filters → Filters
pipe [] fs = fs
pipe (p ∷ ps) fs = Piped p.0 p.1 (pipe ps fs)

abbrev pub pipe_output : Bool → List (Span × Filtering) → List Expr
pipe_output in_loop [] = []
pipe_output in_loop (p ∷ ps) = filter_output in_loop p.0 p.1 ∷ pipe_output in_loop ps

-- likewise some filters of a tag
pub record Piping (l : Limits) (in_loop : Bool) (start here : Items) (gathered : List Expr) : Type 0 where
  pub before : List (Span × Filtering)
  pub reads : filters_of l in_loop start ≡ (filters_of l in_loop here >>= λ fs. found (pipe before fs.0, fs.1))
  pub shows : gathered ≡ pipe_output in_loop before

-- parameters in front of others
abbrev pub list : List (Parameter × Span) → Parameters → Parameters
list [] ps = ps
list (p ∷ before) ps = More p.0 p.1 (list before ps)

-- likewise some parameters of a component, with their names and their arguments
pub record Listing (l : Limits) (start here : Items) (seen : Located) (gathered : Sorted Argument) : Type 0 where
  pub before : List (Parameter × Span)
  pub reads : parameters_of l nothing_met start ≡ (parameters_of l (met seen) here >>= λ ps. found (list before ps.0, ps.1))
  pub shows : (ps : Parameters) → put_arguments (list before ps) [] ≡ put_arguments ps gathered
  pub stand : (ps : Parameters) → locate_all (parameters_placed (list before ps)) nothing_located ≡ locate_all (parameters_placed ps) seen

-- what is gathered of a template, with what an item adds
abbrev pub with_added : Output → Adds → Output
with_added out a = record {
  parent = later out.parent (parent_by a);
  nodes = out.nodes ++ added_nodes a;
  definitions = out.definitions ++ definitions_by a;
}

-- what the top level needs to know of what an item adds: it is silent; it may be in a template that extends another; it
-- is what the template extends; anything else
pub data Weight : Type 0 where
  Silent : Weight
  Kept : Weight
  Parent : Weight
  Other : Weight

abbrev pub text_weight : Bool → Weight
text_weight true = Silent
text_weight false = Other

abbrev pub node_weight : Stmt → Weight
node_weight (tree.Content text) = text_weight (is_blank text)
node_weight (tree.Block name span body) = Kept
node_weight s = Other

abbrev pub weight : Adds → Weight
weight AddsNothing = Silent
weight (AddsNode s) = node_weight s
weight (AddsParent name) = Parent
weight (AddsDefinition d) = Silent

-- the phase after an item of this weight
abbrev pub turn : Phase → Weight → Option Phase
turn Starting Silent = Some Starting
turn Starting Parent = Some Extending
turn Starting w = Some Standalone
turn Standalone Parent = None
turn Standalone w = Some Standalone
turn Extending Silent = Some Extending
turn Extending Kept = Some Extending
turn Extending w = None

-- the top level from a place on, in a phase
abbrev pub top_from : Limits → ℕ → Phase → Place → Reads Body
top_from l d phase p = top_by (suc (size p.tokens)) l (body d l) phase p

-- The top level has been read so far.
pub record Topping (l : Limits) (d : ℕ) (start here : Place) (out : Output) (phase : Phase) : Type 0 where
  pub before : Body
  pub reads : top_from l d Starting start ≡ (top_from l d phase here >>= λ b. found (join before b.0, b.1))
  pub nodes : out.nodes ≡ output false before
  pub parent : out.parent ≡ parent_of before
  pub definitions : out.definitions ≡ definitions_of before
