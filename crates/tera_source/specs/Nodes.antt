-- Something holds of each expression that a node of a tree shows, sets, goes over or asks, at any depth of bodies.
use Rattle.std.specs.Prelude.{false}
use Rattle.std.specs.List.{AllByRecursion}
use Rattle.tera_ast.specs.Tree.{Expr, ComponentCall, Stmt, Shown, Set, BlockSet, Block, ForLoop, If, FilterSection, Nodes, NoNodes, OneNode}
use Rattle.tera_tree.specs.Tree.{Output}
use Rattle.tera_ast.specs.View.{nodes_of}

module _ (P : Expr → Type 0) where
  abbrev mutual
    pub EachOfNodes : Nodes → Type 0
    EachOfNodes NoNodes = Unit {0}
    EachOfNodes (OneNode s ss) = EachOfNode s × EachOfNodes ss

    -- a call of a component with a body is not an expression of a source
    pub EachOfNode : Stmt → Type 0
    EachOfNode (Shown (ComponentCall name es body false span)) = EachOfNodes body
    EachOfNode (Shown e) = P e
    EachOfNode (Set name e global) = P e
    EachOfNode (BlockSet name fs body global) = EachOfNodes body
    EachOfNode (Block name span body) = EachOfNodes body
    EachOfNode (ForLoop key value target body other) = P target × EachOfNodes body × EachOfNodes other
    EachOfNode (If e body other) = P e × EachOfNodes body × EachOfNodes other
    EachOfNode (FilterSection fs body) = EachOfNodes body
    EachOfNode s = Unit {0}

  abbrev pub EachOfOutput : Output → Type 0
  EachOfOutput read = EachOfNodes (nodes_of read.nodes) × AllByRecursion (λ d. EachOfNodes (nodes_of d.body)) read.definitions
