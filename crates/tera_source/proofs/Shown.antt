-- What holds of the output of each outermost expression of a template holds of the expressions of its tree.
use Rattle.std.proofs.Common.{◌≡◌, ℕ, Bool, true, false, List, [], ◌∷◌, ◌++◌}
use Rattle.std.specs.List.{AllByRecursion}
use Rattle.tera_ast.specs.Tree as tree
use Rattle.tera_ast.specs.Tree.{Expr, Stmt}
use Rattle.tera_tree.specs.Tree.{Definition}
use Rattle.tera_ast.specs.View.{nodes_of}
use Rattle.tera_grammar.specs.expressions.Concrete.{Tree, Atomic, Prefix, Suffixed, Infix}
use Rattle.tera_grammar.specs.expressions.Output as outputs
use Rattle.tera_grammar.specs.statements.Expressions.{expression_output}
use Rattle.tera_grammar.specs.statements.Heads.{SetBody, Section, CallBody}
use Rattle.tera_grammar.specs.statements.Grammar.{Plain, Text, Shown, Set, Include, Extends, Break, Continue, Body, Done, Then, Item, Single, Block, Define, Capturing, For, If, Branches, Elif, Last, Else, NoElse, Otherwise}
use Rattle.tera_grammar.specs.statements.Output.{text_adds, plain_adds, added_nodes, added_by, definitions_by, output, branch_output, else_output, definitions_of, output_of}
use Rattle.tera_grammar.proofs.expressions.Bodiless.{has_body}
use Rattle.tera_grammar.proofs.statements.Expressions.{expression_plain}
use Rattle.tera_source.specs.Outermost.{EachOfPlain, EachOfBody, EachOfItem, EachOfBranches, EachOfElse}
use Rattle.tera_source.specs.Nodes.{EachOfNodes, EachOfNode, EachOfOutput}
use Rattle.tera_source.specs.Subexpressions.{EachPart}

-- of the whole, where it holds of each part
pub of_whole : (P : Tree → Type 0) (e : Tree) → EachPart P e → P e
of_whole P (Atomic a) h = h.0
of_whole P (Prefix s e) h = h.0
of_whole P (Suffixed a s) h = h.0
of_whole P (Infix a o b) h = h.0

module _ (P : Bool → Tree → Type 0) (Q : Expr → Type 0) (from : (f : Bool) (e : Tree) → P f e → Q (outputs.output f e)) where
  expression_holds : (f : Bool) (e : Tree) → P f e → Q (expression_output f e)
  expression_holds f e h = from f e h

  node_holds : (e : Expr) → has_body e ≡ false → Q e → EachOfNode Q (tree.Shown e)
  node_holds (tree.ComponentCall name es body false span) is h = cc
  node_holds e is h = h

  nodes-append : (xs ys : List Stmt) → EachOfNodes Q (nodes_of xs) → EachOfNodes Q (nodes_of ys) → EachOfNodes Q (nodes_of (xs ++ ys))
  nodes-append [] ys a b = b
  nodes-append (x ∷ xs) ys a b = (a.0, nodes-append xs ys a.1 b)

  text_holds : (text : List ℕ) → EachOfNodes Q (nodes_of (added_nodes (text_adds text)))
  text_holds [] = tt
  text_holds (b ∷ bs) = (tt, tt)

  plain_holds : (f : Bool) (p : Plain) → EachOfPlain P f p → EachOfNodes Q (nodes_of (added_nodes (plain_adds f p)))
  plain_holds f (Text text span) h = text_holds text
  plain_holds f (Shown a e b) h = (node_holds (expression_output f e) (expression_plain f e) (expression_holds f e h), tt)
  plain_holds f (Set global t n sign e) h = (expression_holds f e h, tt)
  plain_holds f (Include t q span) h = (tt, tt)
  plain_holds f (Extends t q span) h = tt
  plain_holds f (Break t) h = (tt, tt)
  plain_holds f (Continue t) h = (tt, tt)

  mutual
    body_holds : (f : Bool) (b : Body) → EachOfBody P f b → EachOfNodes Q (nodes_of (output f b))
    body_holds f Done h = tt
    body_holds f (Then i b) h = nodes-append (added_nodes (added_by f i)) (output f b) (item_holds f i h.0) (body_holds f b h.1)

    item_holds : (f : Bool) (i : Item) → EachOfItem P f i → EachOfNodes Q (nodes_of (added_nodes (added_by f i)))
    item_holds f (Single p) h = plain_holds f p h
    item_holds f (Block t n b e m) h = (body_holds f b h, tt)
    item_holds f (Define d b) h = tt
    item_holds f (Capturing (SetBody g t n fs e) b) h = (body_holds f b h.1, tt)
    item_holds f (Capturing (Section t g fs e) b) h = (body_holds f b h.1, tt)
    item_holds f (Capturing (CallBody t n a last e m end) b) h = (body_holds f b h.1, tt)
    item_holds f (For t lp b o e) h = ((expression_holds true lp.target h.0, body_holds true b h.1, else_holds f o h.2), tt)
    item_holds f (If t c b bs e) h = ((expression_holds f c h.0, body_holds f b h.1, branches_hold f bs h.2), tt)

    branches_hold : (f : Bool) (bs : Branches) → EachOfBranches P f bs → EachOfNodes Q (nodes_of (branch_output f bs))
    branches_hold f (Elif t c b bs) h = ((expression_holds f c h.0, body_holds f b h.1, branches_hold f bs h.2), tt)
    branches_hold f (Last o) h = else_holds f o h

    else_holds : (f : Bool) (o : Else) → EachOfElse P f o → EachOfNodes Q (nodes_of (else_output f o))
    else_holds f NoElse h = tt
    else_holds f (Otherwise t b) h = body_holds f b h

  abbrev Holds : Definition → Type 0
  Holds d = EachOfNodes Q (nodes_of d.body)

  defined_holds : (f : Bool) (i : Item) (ds : List Definition) → EachOfItem P f i → AllByRecursion Holds ds → AllByRecursion Holds (definitions_by (added_by f i) ++ ds)
  defined_holds f (Single (Text [] span)) ds h hs = hs
  defined_holds f (Single (Text (b ∷ bs) span)) ds h hs = hs
  defined_holds f (Single (Shown a e b)) ds h hs = hs
  defined_holds f (Single (Set global t n sign e)) ds h hs = hs
  defined_holds f (Single (Include t q span)) ds h hs = hs
  defined_holds f (Single (Extends t q span)) ds h hs = hs
  defined_holds f (Single (Break t)) ds h hs = hs
  defined_holds f (Single (Continue t)) ds h hs = hs
  defined_holds f (Block t n b e m) ds h hs = hs
  defined_holds f (Define d b) ds h hs = (body_holds f b h.2, hs)
  defined_holds f (Capturing c b) ds h hs = hs
  defined_holds f (For t lp b o e) ds h hs = hs
  defined_holds f (If t c b bs e) ds h hs = hs

  definitions_hold : (b : Body) → EachOfBody P false b → AllByRecursion Holds (definitions_of b)
  definitions_hold Done h = tt
  definitions_hold (Then i b) h = defined_holds false i (definitions_of b) h.0 (definitions_hold b h.1)

  pub output_holds : (b : Body) → EachOfBody P false b → EachOfOutput Q (output_of b)
  output_holds b h = (body_holds false b h, definitions_hold b h)
