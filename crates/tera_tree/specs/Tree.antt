-- Definitions of components, and what a template is read as, without where they lie in memory.
use Rattle.std.specs.Prelude.{ℕ, Bool, List, Option}
use Rattle.tera_base.specs.Values.{Val}
use Rattle.tera_ast.specs.Tree.{Stmt}
use Rattle.tera_tree.specs.declared.ast.ArgType.{ArgType}

-- an argument of a component
pub record Argument : Type 0 where
  pub default : Option Val
  pub typ : Option ArgType
  pub implicit : Bool

-- the definition of a component: arguments and metadata in the byte order of their names
pub record Definition : Type 0 where
  pub name : List ℕ
  pub arguments : List (List ℕ × Argument)
  pub rest : Option (List ℕ)
  pub metadata : List (List ℕ × Val)
  pub body : List Stmt

-- what a template is read as
pub record Output : Type 0 where
  pub parent : Option (List ℕ)
  pub nodes : List Stmt
  pub definitions : List Definition
