-- An expression is read as no call of a component with a body.
use Rattle.std.proofs.Common.{◌≡◌, Bool, true, false, Option, Some, None, refl}
use Rattle.tera_base.specs.Values as values
use Rattle.tera_base.specs.declared.utils.Span.{Span}
use Rattle.tera_ast.specs.Tree as tree
use Rattle.tera_ast.specs.Tree.{Expr}
use Rattle.tera_grammar.specs.expressions.Concrete.{Sign, Negative, Negates, plainly, negated, Single, NotIn, Tree, Atomic, Prefix, Suffixed, Infix, Atom, Literal, Null, Chain, Call, Paren, Array, Comprehension, Map, Component, Links, no_links, field, item, Sub, index, slice, Suffix, Test, Filter, Subscript, Operator, Binary, Condition}
use Rattle.tera_grammar.specs.expressions.Output.{output, atom_output, links_output, sub_output, field_output, suffix_output, operator_output, prefixed, array_made, map_made, is_optional_bracket, constant_items, constant_entries, items_output, entries_output, of_loop}

-- a call of a component with a body between two tags
abbrev pub has_body : Expr → Bool
has_body (tree.ComponentCall name es body false span) = true
has_body e = false

abbrev IsBodiless : Expr → Type 0
IsBodiless e = has_body e ≡ false

prefixed_is : (s : Sign) (e : Expr) (span : Span) → IsBodiless (prefixed s e span)
prefixed_is (Negative s) (tree.Const (values.I64 n) t) span = refl
prefixed_is (Negative s) e span = refl
prefixed_is (Negates s) e span = refl

field_is : (c : Bool) (e : Expr) (d : _) (n : _) → IsBodiless (field_output c e d n)
field_is true e d n = refl
field_is false e d n = refl

sub_is : (l o : Bool) (e : Expr) (s : Sub) → IsBodiless (sub_output l o e s)
sub_is l o e (index i c) = refl
sub_is l o e (slice a s b x c) = refl

links_are : (l c : Bool) (e : Expr) (ls : Links) → IsBodiless e → IsBodiless (links_output l c e ls)
links_are l c e no_links h = h
links_are l c e (field d n ls) h = links_are l c (field_output c e d n) ls (field_is c e d n)
links_are l c e (item b s ls) h = links_are l c (sub_output l (is_optional_bracket b) e s) ls (sub_is l (is_optional_bracket b) e s)

array_is : (is : tree.Items) (span : Span) (o : Option values.Vals) → IsBodiless (array_made is span o)
array_is is span (Some vs) = refl
array_is is span None = refl

map_is : (es : tree.Entries) (span : Span) (o : Option values.Pairs) → IsBodiless (map_made es span o)
map_is es span (Some ps) = refl
map_is es span None = refl

suffix_is : (l : Bool) (start : Span) (e : Expr) (s : Suffix) → IsBodiless (suffix_output l start e s)
suffix_is l start e (Test s plainly w g) = refl
suffix_is l start e (Test s (negated t) w g) = refl
suffix_is l start e (Filter s w g) = refl
suffix_is l start e (Subscript s b) = sub_is l false e b

operator_is : (l : Bool) (span : Span) (a : Expr) (o : Operator) (b : Expr) → IsBodiless (operator_output l span a o b)
operator_is l span a (Binary (Single o s)) b = refl
operator_is l span a (Binary (NotIn s t)) b = refl
operator_is l span a (Condition s c t) b = refl

mutual
  pub output_bodiless : (l : Bool) (t : Tree) → has_body (output l t) ≡ false
  output_bodiless l (Atomic a) = atom_is l a
  output_bodiless l (Prefix s e) = prefixed_is s (output l e) _
  output_bodiless l (Suffixed a s) = suffix_is l _ (output l a) s
  output_bodiless l (Infix a o b) = operator_is l _ (output l a) o (output l b)

  atom_is : (l : Bool) (a : Atom) → IsBodiless (atom_output l a)
  atom_is l (Literal x s) = refl
  atom_is l (Null n) = refl
  atom_is l (Chain n ls) = links_are l (of_loop l n) (tree.Var n.text n.span) ls refl
  atom_is l (Call n s row) = refl
  atom_is l (Paren s e t) = output_bodiless l e
  atom_is l (Array s row) = array_is (items_output l row) _ (constant_items (items_output l row))
  atom_is l (Comprehension s e f n m i t g c) = refl
  atom_is l (Map s row) = map_is (entries_output l row) _ (constant_entries (entries_output l row) values.NoPairs)
  atom_is l (Component s n ds ats t u) = refl
