-- An expression is in parentheses exactly where its tree is.
use Rattle.std.proofs.Common.{◌≡◌, ℕ, Bool, false, List, refl, ap}
use Rattle.std.specs.Prelude.{pos, negsuc}
use Rattle.tera_base.specs.Values as values
use Rattle.tera_base.specs.Values.{Val}
use Rattle.tera_base.specs.declared.utils.Span.{Span}
use Rattle.tera_lexer.specs.code.Cursors.{nowhere}
use Rattle.tera_ast.specs.Tree as tree
use Rattle.tera_ast.specs.Tree.{Expr}
use Rattle.tera_ast.specs.declared.ast.BinaryOperator.{BinaryOperator}
use Rattle.tera_ast.specs.declared.ast.BinaryOperator.TheVariants as binary
use Rattle.tera_ast.specs.declared.ast.UnaryOperator.TheVariants as unary
use Rattle.tera_grammar.specs.expressions.Operators.{In}
use Rattle.tera_grammar.specs.expressions.Concrete.{Negates, plainly, Single, Tree, Atomic, Prefix, Suffixed, Infix, Chain, Sub, Test, Binary}
use Rattle.tera_source.specs.declared.context.Context.{Context}
use Rattle.tera_source.specs.Contexts.{takes_negation, unary_breaks, breaks}
use Rattle.tera_source.specs.Source.{operator_for, value_tree, with_field, with_sub, negation_of, tree_of}
use Rattle.tera_source.specs.Writable.{IsChain, IsOperator, IsConstant, IsWritable}
use Rattle.tera_source.proofs.Trails.{is_barred}

-- a name with its links
abbrev pub IsChainTree : Tree → Type 0
IsChainTree (Atomic (Chain n ls)) = Unit {0}
IsChainTree _ = ⊥

field_chain : (t : Tree) (o : Bool) (name : List ℕ) → IsChainTree t → IsChainTree (with_field t o name)
field_chain (Atomic (Chain n ls)) o name h = tt
field_chain t o name h = absurd h

sub_chain : (t : Tree) (o : Bool) (s : Sub) → IsChainTree t → IsChainTree (with_sub t o s)
sub_chain (Atomic (Chain n ls)) o s h = tt
sub_chain t o s h = absurd h

pub chain_tree : (e : Expr) → IsChain e → IsChainTree (tree_of e)
chain_tree (tree.Var name s) h = tt
chain_tree (tree.GetAttr e name o s) h = field_chain (tree_of e) o name (chain_tree e h)
chain_tree (tree.GetItem e i o s) h = sub_chain (tree_of e) o _ (chain_tree e h)
chain_tree (tree.Slice e a b c o s) h = sub_chain (tree_of e) o _ (chain_tree e h)
chain_tree e h = absurd h

-- nothing bars a chain, nor a subscript, and neither takes a negation into itself
chain_barred : (c : Context) (t : Tree) → IsChainTree t → is_barred c t ≡ false
chain_barred c (Atomic (Chain n ls)) h = refl
chain_barred c t h = absurd h

sub_barred : (c : Context) (t : Tree) (o : Bool) (s : Sub) → is_barred c (with_sub t o s) ≡ false
sub_barred c (Atomic (Chain n ls)) o s = refl
sub_barred c t o s = refl

chain_negation : (t : Tree) → IsChainTree t → negation_of t ≡ Prefix (Negates nowhere) t
chain_negation (Atomic (Chain n ls)) h = refl
chain_negation t h = absurd h

sub_negation : (t : Tree) (o : Bool) (s : Sub) → negation_of (with_sub t o s) ≡ Prefix (Negates nowhere) (with_sub t o s)
sub_negation (Atomic (Chain n ls)) o s = refl
sub_negation t o s = refl

-- a constant, and a negation, take none either
value_negation : (v : Val) → negation_of (value_tree v) ≡ Prefix (Negates nowhere) (value_tree v)
value_negation (values.I64 (pos n)) = refl
value_negation (values.I64 (negsuc n)) = refl
value_negation v = refl

twice_negation : (t : Tree) → negation_of (negation_of t) ≡ Prefix (Negates nowhere) (negation_of t)
twice_negation (Suffixed a (Test s plainly w g)) = refl
twice_negation (Infix a (Binary (Single In s)) b) = refl
twice_negation t = refl

operator_negation : (o : BinaryOperator) (a b : Tree) (x y : Expr) (s : Span) → IsOperator o → takes_negation (tree.BinaryOperation o x y s) ≡ false
    → negation_of (Infix a (Binary (Single (operator_for o) nowhere)) b) ≡ Prefix (Negates nowhere) (Infix a (Binary (Single (operator_for o) nowhere)) b)
operator_negation binary.In a b x y s h k = cc
operator_negation binary.Is a b x y s h k = absurd h
operator_negation binary.Pipe a b x y s h k = absurd h
operator_negation o a b x y s h k = refl

pub plain_negation : (e : Expr) → IsWritable e → takes_negation e ≡ false → negation_of (tree_of e) ≡ Prefix (Negates nowhere) (tree_of e)
plain_negation (tree.Const v s) h k = value_negation v
plain_negation (tree.GetAttr e name o s) h k = chain_negation _ (field_chain (tree_of e) o name (chain_tree e h.1))
plain_negation (tree.GetItem e i o s) h k = sub_negation (tree_of e) o _
plain_negation (tree.Slice e a b c o s) h k = sub_negation (tree_of e) o _
plain_negation (tree.Test e name g s) h k = cc
plain_negation (tree.UnaryOperation unary.Not e s) h k = twice_negation (tree_of e)
plain_negation (tree.UnaryOperation unary.Minus e s) h k = refl
plain_negation (tree.BinaryOperation o a b s) h k = operator_negation o (tree_of a) (tree_of b) a b s h.2 k
plain_negation e h k = refl

operator_barred : (c : Context) (o : BinaryOperator) (a b : Tree) (x y : Expr) (s : Span) → IsOperator o
    → is_barred c (negation_of (Infix a (Binary (Single (operator_for o) nowhere)) b)) ≡ unary_breaks unary.Not (tree.BinaryOperation o x y s) c
operator_barred c binary.Is a b x y s h = absurd h
operator_barred c binary.Pipe a b x y s h = absurd h
operator_barred c o a b x y s h = refl

negation_barred : (c : Context) (e : Expr) → IsWritable e → is_barred c (negation_of (tree_of e)) ≡ unary_breaks unary.Not e c
negation_barred c (tree.Test e name g s) h = refl
negation_barred c (tree.BinaryOperation o a b s) h = operator_barred c o (tree_of a) (tree_of b) a b s h.2
negation_barred c e h = ap (is_barred c) (plain_negation e h refl)

value_barred : (c : Context) (v : Val) (s : Span) → IsConstant v → is_barred c (value_tree v) ≡ breaks (tree.Const v s) c
value_barred c (values.I64 (pos n)) s h = refl
value_barred c (values.I64 (negsuc n)) s h = refl
value_barred c (values.I128 n) s h = absurd h
value_barred c v s h = refl

pub barred_is : (c : Context) (e : Expr) → IsWritable e → is_barred c (tree_of e) ≡ breaks e c
barred_is c (tree.Const v s) h = value_barred c v s h
barred_is c (tree.GetAttr e name o s) h = chain_barred c _ (field_chain (tree_of e) o name (chain_tree e h.1))
barred_is c (tree.GetItem e i o s) h = sub_barred c (tree_of e) o _
barred_is c (tree.Slice e a b x o s) h = sub_barred c (tree_of e) o _
barred_is c (tree.UnaryOperation unary.Not e s) h = negation_barred c e h
barred_is c (tree.UnaryOperation unary.Minus e s) h = refl
barred_is c e h = refl
