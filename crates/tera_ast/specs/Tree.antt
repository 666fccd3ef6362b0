-- The tree of a template, without where it lies in memory.
use Rattle.std.specs.Prelude.{ℕ, Bool, List, Option}
use Rattle.tera_base.specs.Values.{KeyVal, Val}
use Rattle.tera_base.specs.declared.utils.Span.{Span}
use Rattle.tera_ast.specs.declared.ast.UnaryOperator.{UnaryOperator}
use Rattle.tera_ast.specs.declared.ast.BinaryOperator.{BinaryOperator}

mutual
  -- an expression, with where it is
  pub data Expr : Type 0 where
    Const : Val → Span → Expr
    Array : Items → Span → Expr
    Map : Entries → Span → Expr
    Var : List ℕ → Span → Expr
    -- a field by its name; by an expression; a part from, to and by what is there; each optional or not
    GetAttr : Expr → List ℕ → Bool → Span → Expr
    GetItem : Expr → Expr → Bool → Span → Expr
    Slice : Expr → MaybeExpr → MaybeExpr → MaybeExpr → Bool → Span → Expr
    Filter : Expr → List ℕ → Args → Span → Expr
    Test : Expr → List ℕ → Args → Span → Expr
    -- the condition, and the expressions with and without it
    Ternary : Expr → Expr → Expr → Span → Expr
    -- the element, the names of the key and the value, the target and the condition
    ListComprehension : Expr → Option (List ℕ) → List ℕ → Expr → MaybeExpr → Span → Expr
    -- the name, the attributes, the body, and whether it is closed at once
    ComponentCall : List ℕ → Entries → Nodes → Bool → Span → Expr
    FunctionCall : List ℕ → Args → Span → Expr
    UnaryOperation : UnaryOperator → Expr → Span → Expr
    BinaryOperation : BinaryOperator → Expr → Expr → Span → Expr

  pub data MaybeExpr : Type 0 where
    NoExpr : MaybeExpr
    OneExpr : Expr → MaybeExpr

  pub data Filters : Type 0 where
    NoFilters : Filters
    OneFilter : Expr → Filters → Filters

  -- arguments by their names, in byte order
  pub data Args : Type 0 where
    NoArgs : Args
    Arg : List ℕ → Expr → Args → Args

  pub data Items : Type 0 where
    NoItems : Items
    Item : Expr → Items → Items
    SpreadItem : Expr → Items → Items

  pub data Entries : Type 0 where
    NoEntries : Entries
    Entry : KeyVal → Expr → Entries → Entries
    SpreadEntry : Expr → Entries → Entries

  -- a node of a template
  pub data Stmt : Type 0 where
    Content : List ℕ → Stmt
    Shown : Expr → Stmt
    -- the name, the value, and whether it is set for the whole template
    Set : List ℕ → Expr → Bool → Stmt
    BlockSet : List ℕ → Filters → Nodes → Bool → Stmt
    Include : List ℕ → Span → Stmt
    Block : List ℕ → Span → Nodes → Stmt
    -- the names of the key and the value, the target, the body, and the body for no items
    ForLoop : Option (List ℕ) → List ℕ → Expr → Nodes → Nodes → Stmt
    Break : Stmt
    Continue : Stmt
    If : Expr → Nodes → Nodes → Stmt
    FilterSection : Filters → Nodes → Stmt

  pub data Nodes : Type 0 where
    NoNodes : Nodes
    OneNode : Stmt → Nodes → Nodes
