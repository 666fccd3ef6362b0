-- Whether an expression is read as a negation or as a whole number: parentheses and writing it back change nothing.
use Rattle.std.proofs.Common.{◌≡◌, ℕ, Bool, true, false, cond, ◌||◌, Option, Some, None, refl, ap, ◌∙◌, suc}
use Rattle.std.specs.Prelude.{ltb, ℤ, pos, negsuc, neg_ℤ}
use Rattle.tera_base.specs.declared.utils.Span.{Span}
use Rattle.tera_lexer.specs.code.Cursors.{nowhere}
use Rattle.tera_base.specs.Values as values
use Rattle.tera_ast.specs.Tree as tree
use Rattle.tera_base.specs.Values.{Vals, Pairs}
use Rattle.tera_grammar.specs.expressions.Operators.{BinaryOperator, Mul, Div, Mod, Plus, Minus, FloorDiv, Power, LessThan, GreaterThan, LessThanOrEqual, GreaterThanOrEqual, Equal, NotEqual, And, Or, StrConcat, In, operator_made}
use Rattle.tera_ast.specs.Tree.{Expr}
use Rattle.tera_grammar.specs.expressions.Concrete.{Name, Lit, Number, Quoted, Truth, Sign, Negative, Negates, Joint, plainly, negated, Single, NotIn, Tree, Atomic, Prefix, Suffixed, Infix, Atom, Literal, Null, Chain, Call, Paren, Array, Comprehension, Map, Component, Links, no_links, field, item, Sub, index, slice, Row, plain, Suffix, Test, Filter, Subscript, Operator, Binary, Condition}
use Rattle.tera_grammar.specs.expressions.Spans.{sign_span, last, spanning}
use Rattle.tera_grammar.specs.expressions.Powers.{sign_power, left_power, right_power}
use Rattle.tera_grammar.specs.expressions.Conditions.{is_refused}
use Rattle.tera_grammar.specs.expressions.Output.{literal_value, prefixed, is_unary, of_loop, output, field_output, sub_output, links_output, items_output, entries_output, array_made, array_of, map_made, constant_items, constant_entries, with_value, part_output, extra_output, is_optional_joint, is_optional_bracket}
use Rattle.tera_source.specs.Source.{operator_for, number_tree, value_tree, values_row, items_row, in_front, with_field, with_sub, negation_of, tree_of, part_of, extra_of, paren, in_parens, kept_out, asked, paren_suffix, paren_operator, paren_atom}

pub data Kind : Type 0 where
  unary number other : Kind

abbrev pub kind : Expr → Kind
kind (tree.UnaryOperation o e s) = unary
kind (tree.Const (values.I64 n) s) = number
kind _ = other

-- a minus before a number is one
abbrev pub signed : Sign → Kind → Kind
signed (Negative s) number = number
signed _ _ = unary

abbrev mutual
  pub kind_of : Tree → Kind
  kind_of (Atomic a) = atom_kind a
  kind_of (Prefix s e) = signed s (kind_of e)
  kind_of (Suffixed a (Test s (negated n) w g)) = unary
  kind_of (Suffixed a _) = other
  kind_of (Infix a (Binary (NotIn s t)) b) = unary
  kind_of (Infix a _ b) = other

  pub atom_kind : Atom → Kind
  atom_kind (Literal (Number n) s) = number
  atom_kind (Paren s e t) = kind_of e
  atom_kind _ = other

abbrev pub is_unary_kind : Kind → Bool
is_unary_kind unary = true
is_unary_kind _ = false

unary_by_kind : (e : Expr) → is_unary e ≡ is_unary_kind (kind e)
unary_by_kind (tree.UnaryOperation o e s) = refl
unary_by_kind (tree.Const (values.I64 n) s) = refl
unary_by_kind _ = refl

prefixed_kind : (s : Sign) (e : Expr) (span : Span) → kind (prefixed s e span) ≡ signed s (kind e)
prefixed_kind (Negative s) (tree.Const (values.I64 n) t) span = refl
prefixed_kind (Negative s) (tree.UnaryOperation o e t) span = refl
prefixed_kind (Negative s) _ span = refl
prefixed_kind (Negates s) _ span = refl

array_kind : (is : tree.Items) (span : Span) (o : Option Vals) → kind (array_made is span o) ≡ other
array_kind is span None = refl
array_kind is span (Some vs) = refl

map_kind : (es : tree.Entries) (span : Span) (o : Option Pairs) → kind (map_made es span o) ≡ other
map_kind es span None = refl
map_kind es span (Some ps) = refl

literal_kind : (x : Lit) (s : Span) → kind (tree.Const (literal_value x) s) ≡ atom_kind (Literal x s)
literal_kind (Number n) s = refl
literal_kind _ s = refl

field_kind : (c : Bool) (e : Expr) (d : Joint) (n : Name) → kind (field_output c e d n) ≡ other
field_kind true e d n = refl
field_kind false e d n = refl

sub_kind : (l o : Bool) (e : Expr) (s : Sub) → kind (sub_output l o e s) ≡ other
sub_kind l o e (index i c) = refl
sub_kind l o e (slice a s b x c) = refl

links_kind : (l c : Bool) (e : Expr) (ls : Links) → kind e ≡ other → kind (links_output l c e ls) ≡ other
links_kind l c e no_links h = h
links_kind l c e (field d n ls) h = links_kind l c (field_output c e d n) ls (field_kind c e d n)
links_kind l c e (item b s ls) h = links_kind l c (sub_output l (is_optional_bracket b) e s) ls (sub_kind l (is_optional_bracket b) e s)

-- what is read is of the tree's kind
mutual
  pub output_kind : (l : Bool) (t : Tree) → kind (output l t) ≡ kind_of t
  output_kind l (Atomic a) = atom_output_kind l a
  output_kind l (Prefix s e) = prefixed_kind s (output l e) (spanning (sign_span s) (last e)) ∙ ap (signed s) (output_kind l e)
  output_kind l (Suffixed a (Test s plainly w g)) = refl
  output_kind l (Suffixed a (Test s (negated n) w g)) = refl
  output_kind l (Suffixed a (Filter s w g)) = refl
  output_kind l (Suffixed a (Subscript s b)) = sub_kind l false (output l a) b
  output_kind l (Infix a (Binary (Single o s)) b) = refl
  output_kind l (Infix a (Binary (NotIn s t)) b) = refl
  output_kind l (Infix a (Condition s c t) b) = refl

  atom_output_kind : (l : Bool) (a : Atom) → kind (output l (Atomic a)) ≡ atom_kind a
  atom_output_kind l (Literal x s) = literal_kind x s
  atom_output_kind l (Null n) = refl
  atom_output_kind l (Chain n ls) = links_kind l (of_loop l n) (tree.Var n.text n.span) ls refl
  atom_output_kind l (Call n s row) = refl
  atom_output_kind l (Paren s e t) = output_kind l e
  atom_output_kind l (Array s row) = array_kind _ _ (constant_items (items_output l row))
  atom_output_kind l (Comprehension s e f n m i t g c) = refl
  atom_output_kind l (Map s row) = map_kind _ _ (constant_entries (entries_output l row) values.NoPairs)
  atom_output_kind l (Component s n ds ats t u) = refl

-- an operator that refuses an operand of this kind
abbrev pub refuses : Operator → Kind → Bool
refuses (Binary (Single StrConcat s)) k = is_unary_kind k
refuses _ k = false

pub refused_kind : (l : Bool) (o : Operator) (e : Tree) → is_refused l o e ≡ refuses o (kind_of e)
refused_kind l (Binary (Single StrConcat s)) e = unary_by_kind (output l e) ∙ ap is_unary_kind (output_kind l e)
refused_kind l _ e = refl

kind_cond : (b : Bool) (x y : Tree) (k : Kind) → kind_of x ≡ k → kind_of y ≡ k → kind_of (cond b x y) ≡ k
kind_cond true x y k one two = one
kind_cond false x y k one two = two

suffixed_kind : (a b : Tree) (s : Suffix) → kind_of (Suffixed a (paren_suffix s)) ≡ kind_of (Suffixed b s)
suffixed_kind a b (Test s plainly w g) = refl
suffixed_kind a b (Test s (negated n) w g) = refl
suffixed_kind a b (Filter s w g) = refl
suffixed_kind a b (Subscript s x) = refl

infix_kind : (a b c d : Tree) (o : Operator) → kind_of (Infix a (paren_operator o) b) ≡ kind_of (Infix c o d)
infix_kind a b c d (Binary (Single o s)) = refl
infix_kind a b c d (Binary (NotIn s t)) = refl
infix_kind a b c d (Condition s x t) = refl

-- parentheses change no kind
mutual
  pub paren_kind : (m q : ℕ) (p : Bool) (t : Tree) → kind_of (paren m q p t) ≡ kind_of t
  paren_kind m q p (Atomic a) = paren_atom_kind a
  paren_kind m q p (Prefix s e) =
      kind_cond (p || ltb (sign_power s) q) (in_parens (Prefix s (paren (sign_power s) 0 true e))) (Prefix s (paren (sign_power s) q true e)) (signed s (kind_of e))
      (ap (signed s) (paren_kind (sign_power s) 0 true e)) (ap (signed s) (paren_kind (sign_power s) q true e))
  paren_kind m q p (Suffixed a s) =
      kind_cond (kept_out m s) (in_parens (Suffixed (paren 0 (asked s) false a) (paren_suffix s))) (Suffixed (paren m (asked s) p a) (paren_suffix s)) (kind_of (Suffixed a s))
      (suffixed_kind (paren 0 (asked s) false a) a s) (suffixed_kind (paren m (asked s) p a) a s)
  paren_kind m q p (Infix a o b) =
      kind_cond (ltb (left_power o) m || ltb (right_power o) q)
      (in_parens (Infix (paren 0 (suc (left_power o)) false a) (paren_operator o) (paren (right_power o) 0 false b)))
      (Infix (paren m (suc (left_power o)) p a) (paren_operator o) (paren (right_power o) q false b)) (kind_of (Infix a o b))
      (infix_kind (paren 0 (suc (left_power o)) false a) (paren (right_power o) 0 false b) a b o)
      (infix_kind (paren m (suc (left_power o)) p a) (paren (right_power o) q false b) a b o)

  paren_atom_kind : (a : Atom) → atom_kind (paren_atom a) ≡ atom_kind a
  paren_atom_kind (Literal x s) = refl
  paren_atom_kind (Null n) = refl
  paren_atom_kind (Chain n ls) = refl
  paren_atom_kind (Call n s row) = refl
  paren_atom_kind (Paren s e t) = paren_kind 0 0 false e
  paren_atom_kind (Array s row) = refl
  paren_atom_kind (Comprehension s e f n m i t g c) = refl
  paren_atom_kind (Map s row) = refl
  paren_atom_kind (Component s n ds ats t u) = refl

-- the operator refuses what is in parentheses as it does without
pub refused_in : (m q : ℕ) (p : Bool) (o : Operator) (b : Tree) → refuses o (kind_of b) ≡ false → is_refused false (paren_operator o) (paren m q p b) ≡ false
refused_in m q p (Binary o) b h = refused_kind false (Binary o) (paren m q p b) ∙ ap (refuses (Binary o)) (paren_kind m q p b) ∙ h
refused_in m q p (Condition s c t) b h = refl

-- Written back

-- the operator that is written for the one that was read is the same
pub operator_back : (o : BinaryOperator) → operator_for (operator_made o) ≡ o
operator_back Mul = refl
operator_back Div = refl
operator_back Mod = refl
operator_back Plus = refl
operator_back Minus = refl
operator_back FloorDiv = refl
operator_back Power = refl
operator_back LessThan = refl
operator_back GreaterThan = refl
operator_back LessThanOrEqual = refl
operator_back GreaterThanOrEqual = refl
operator_back Equal = refl
operator_back NotEqual = refl
operator_back And = refl
operator_back Or = refl
operator_back StrConcat = refl
operator_back In = refl

pub infix_tree : (o : BinaryOperator) (a b : Expr) (s : Span) →
    tree_of (tree.BinaryOperation (operator_made o) a b s) ≡ Infix (tree_of a) (Binary (Single o nowhere)) (tree_of b)
infix_tree o a b s = ap (λ x. Infix (tree_of a) (Binary (Single x nowhere)) (tree_of b)) (operator_back o)

pub number_kind : (n : ℤ) → kind_of (number_tree n) ≡ number
number_kind (pos n) = refl
number_kind (negsuc n) = refl

-- a chain stays one
pub record IsChain (e : Expr) : Type 0 where
  pub name : Name
  pub links : Links
  pub is : tree_of e ≡ Atomic (Chain name links)

pub chain_field : (c : Bool) (e : Expr) (d : Joint) (n : Name) → IsChain e → IsChain (field_output c e d n)
chain_field true e d n h = record { name = _; links = _; is = refl }
chain_field false e d n h = record { name = h.name; links = _; is = ap (λ t. with_field t (is_optional_joint d) n.text) h.is }

pub chain_sub : (l o : Bool) (e : Expr) (s : Sub) → IsChain e → IsChain (sub_output l o e s)
chain_sub l o e (index i c) h = record { name = h.name; links = _; is = ap (λ t. with_sub t o (index (tree_of (output l i)) nowhere)) h.is }
chain_sub l o e (slice a s b x c) h = record {
  name = h.name;
  links = _;
  is = ap (λ t. with_sub t o (slice (part_of (part_output l a)) nowhere (part_of (part_output l b)) (extra_of (extra_output l x)) nowhere)) h.is;
}

pub chain_links : (l c : Bool) (e : Expr) (ls : Links) → IsChain e → IsChain (links_output l c e ls)
chain_links l c e no_links h = h
chain_links l c e (field d n ls) h = chain_links l c (field_output c e d n) ls (chain_field c e d n h)
chain_links l c e (item b s ls) h = chain_links l c (sub_output l (is_optional_bracket b) e s) ls (chain_sub l (is_optional_bracket b) e s h)

-- an array of constants is written as the items are
abbrev AsItems : Option Vals → Row → Type 0
AsItems None row = Unit {0}
AsItems (Some vs) row = values_row vs ≡ row

one_more : (v : values.Val) (o : Option Vals) (row : Row) → AsItems o row → AsItems (with_value v o) (in_front (plain (value_tree v)) row)
one_more v None row h = tt
one_more v (Some vs) row h = ap (in_front (plain (value_tree v))) h

as_items : (is : tree.Items) → AsItems (constant_items is) (items_row is)
as_items tree.NoItems = refl
as_items (tree.Item (tree.Const v s) is) = one_more v (constant_items is) (items_row is) (as_items is)
as_items _ = tt

made_of_items : (is : tree.Items) (span : Span) (o : Option Vals) → AsItems o (items_row is) → tree_of (array_made is span o) ≡ Atomic (Array nowhere (items_row is))
made_of_items is span None h = refl
made_of_items is span (Some vs) h = ap (λ row. Atomic (Array nowhere row)) h

pub array_tree : (is : tree.Items) (span : Span) → tree_of (array_of is span) ≡ Atomic (Array nowhere (items_row is))
array_tree is span = made_of_items is span (constant_items is) (as_items is)

map_tree_kind : (es : tree.Entries) (span : Span) (o : Option Pairs) → kind_of (tree_of (map_made es span o)) ≡ other
map_tree_kind es span None = refl
map_tree_kind es span (Some ps) = refl

value_kind : (x : Lit) (s : Span) → kind_of (tree_of (tree.Const (literal_value x) s)) ≡ atom_kind (Literal x s)
value_kind (Number n) s = number_kind n
value_kind (Quoted q) s = refl
value_kind (Truth b) s = refl

negation_kind : (t : Tree) → kind_of (negation_of t) ≡ unary
negation_kind (Suffixed a (Test s plainly w g)) = refl
negation_kind (Infix a (Binary (Single In s)) b) = refl
negation_kind _ = refl

-- a prefix, where its operand is of the kind as which it is read
prefix_kind : (s : Sign) (e : Expr) (span : Span) (k : Kind) → kind e ≡ k → kind_of (tree_of e) ≡ k → kind_of (tree_of (prefixed s e span)) ≡ signed s k
prefix_kind (Negative s) (tree.Const (values.I64 n) t) span k h g = number_kind (neg_ℤ n) ∙ ap (signed (Negative s)) h
prefix_kind (Negative s) _ span k h g = ap (signed (Negative s)) g
prefix_kind (Negates s) e span k h g = negation_kind (tree_of e)

with_sub_kind : (t : Tree) (o : Bool) (s : Sub) → kind_of (with_sub t o s) ≡ other
with_sub_kind (Atomic (Chain n ls)) o s = refl
with_sub_kind _ o s = refl

sub_tree_kind : (l o : Bool) (e : Expr) (s : Sub) → kind_of (tree_of (sub_output l o e s)) ≡ other
sub_tree_kind l o e (index i c) = with_sub_kind (tree_of e) o _
sub_tree_kind l o e (slice a s b x c) = with_sub_kind (tree_of e) o _

-- the tree that is written is of the kind of the tree that was read
mutual
  pub written_kind : (l : Bool) (t : Tree) → kind_of (tree_of (output l t)) ≡ kind_of t
  written_kind l (Atomic a) = written_atom_kind l a
  written_kind l (Prefix s e) = prefix_kind s (output l e) (spanning (sign_span s) (last e)) (kind_of e) (output_kind l e) (written_kind l e)
  written_kind l (Suffixed a (Test s plainly w g)) = refl
  written_kind l (Suffixed a (Test s (negated n) w g)) = refl
  written_kind l (Suffixed a (Filter s w g)) = refl
  written_kind l (Suffixed a (Subscript s b)) = sub_tree_kind l false (output l a) b
  written_kind l (Infix a (Binary (Single o s)) b) = refl
  written_kind l (Infix a (Binary (NotIn s t)) b) = refl
  written_kind l (Infix a (Condition s c t) b) = refl

  written_atom_kind : (l : Bool) (a : Atom) → kind_of (tree_of (output l (Atomic a))) ≡ atom_kind a
  written_atom_kind l (Literal x s) = value_kind x s
  written_atom_kind l (Null n) = refl
  written_atom_kind l (Chain n ls) = ap kind_of (chain_links l (of_loop l n) (tree.Var n.text n.span) ls (record { name = _; links = _; is = refl })).is
  written_atom_kind l (Call n s row) = refl
  written_atom_kind l (Paren s e t) = written_kind l e
  written_atom_kind l (Array s row) = ap kind_of (array_tree (items_output l row) _)
  written_atom_kind l (Comprehension s e f n m i t g c) = refl
  written_atom_kind l (Map s row) = map_tree_kind _ _ (constant_entries (entries_output l row) values.NoPairs)
  written_atom_kind l (Component s n ds ats t u) = refl
