-- Words of a law: something holds of each whole number among the constants of a template.
use Rattle.std.specs.Prelude.{ℤ, false, Option, Some, None}
use Rattle.std.specs.List.{AllByRecursion}
use Rattle.tera_base.specs.Values.{Val}
use Rattle.tera_ast.specs.Tree as tree
use Rattle.tera_ast.specs.Tree.{Stmt, Filters, Nodes}
use Rattle.tera_tree.specs.Tree.{Definition, Output}
use Rattle.tera_ast.specs.View.{nodes_of}
use Rattle.tera_grammar.specs.expressions.Constants.{EachOfValue, EachConstant, EachOfEntries}

abbrev pub EachOfFilters : (ℤ → Type 0) → Filters → Type 0
EachOfFilters P tree.NoFilters = Unit {0}
EachOfFilters P (tree.OneFilter e fs) = EachConstant P e × EachOfFilters P fs

abbrev mutual
  pub EachOfNodes : (ℤ → Type 0) → Nodes → Type 0
  EachOfNodes P tree.NoNodes = Unit {0}
  EachOfNodes P (tree.OneNode s ss) = EachOfNode P s × EachOfNodes P ss

  pub EachOfNode : (ℤ → Type 0) → Stmt → Type 0
  EachOfNode P (tree.Shown (tree.ComponentCall name es body false span)) = EachOfEntries P es × EachOfNodes P body
  EachOfNode P (tree.Shown e) = EachConstant P e
  EachOfNode P (tree.Set name e global) = EachConstant P e
  EachOfNode P (tree.BlockSet name fs body global) = EachOfFilters P fs × EachOfNodes P body
  EachOfNode P (tree.Block name span body) = EachOfNodes P body
  EachOfNode P (tree.ForLoop key value target body other) = EachConstant P target × EachOfNodes P body × EachOfNodes P other
  EachOfNode P (tree.If e body other) = EachConstant P e × EachOfNodes P body × EachOfNodes P other
  EachOfNode P (tree.FilterSection fs body) = EachOfFilters P fs × EachOfNodes P body
  EachOfNode P s = Unit {0}

abbrev pub EachOfDefault : (ℤ → Type 0) → Option Val → Type 0
EachOfDefault P None = Unit {0}
EachOfDefault P (Some v) = EachOfValue P v

-- the defaults of the arguments, the metadata, and the body
abbrev pub EachOfDefinition : (ℤ → Type 0) → Definition → Type 0
EachOfDefinition P d =
    AllByRecursion (λ a. EachOfDefault P a.1.default) d.arguments × AllByRecursion (λ m. EachOfValue P m.1) d.metadata
    × EachOfNodes P (nodes_of d.body)

abbrev pub EachOfOutput : (ℤ → Type 0) → Output → Type 0
EachOfOutput P out = EachOfNodes P (nodes_of out.nodes) × AllByRecursion (EachOfDefinition P) out.definitions
