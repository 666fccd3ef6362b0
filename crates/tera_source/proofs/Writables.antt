-- What an expression is read as has a source text: it is writable.
use Rattle.std.proofs.Common.{ℕ, Bool, true, false, cond, List, Option, Some, None, refl}
use Rattle.std.specs.Ordering.{nat_cmp}
use Rattle.std.specs.Cmp.Lexicographic.{slice_cmp}
use Rattle.tera_base.specs.Same.{key_eq}
use Rattle.tera_base.specs.Values as values
use Rattle.tera_base.specs.Values.{KeyVal, Val, Vals, Pairs}
use Rattle.tera_base.specs.declared.utils.Span.{Span}
use Rattle.tera_ast.specs.Tree as tree
use Rattle.tera_ast.specs.Tree.{Expr}
use Rattle.tera_grammar.specs.expressions.Operators.{BinaryOperator, Mul, Div, Mod, Plus, Minus, FloorDiv, Power, LessThan, GreaterThan, LessThanOrEqual, GreaterThanOrEqual, Equal, NotEqual, And, Or, StrConcat, In, operator_made}
use Rattle.tera_grammar.specs.expressions.Concrete.{Name, Lit, Number, Quoted, Truth, Sign, Negative, Negates, Joint, plainly, negated, Single, NotIn, Tree, Atomic, Prefix, Suffixed, Infix, Atom, Literal, Null, Chain, Call, Paren, Array, Comprehension, Map, Component, Links, no_links, field, item, Sub, index, slice, Part, absent, present, Extra, no_extra, extra, Row, ended, only, then, Element, plain, spread, pair, argument, Attributes, no_attributes, bare, quoted, valued, spreading, Suffix, Test, Filter, Subscript, Args, no_args, args, Operator, Binary, Condition}
use Rattle.tera_grammar.specs.expressions.Spans.{spanning, sign_span, first, last}
use Rattle.tera_grammar.specs.expressions.Output.{literal_value, put_pair, put_arg, with_value, constant_items, constant_entries, array_made, map_made, prefixed, is_optional_bracket, of_loop, field_output, output, links_output, sub_output, part_output, extra_output, arguments_output, argument_output, items_output, item_output, entries_output, entry_output, attributes_output, suffix_output, args_output, operator_output}
use Rattle.tera_source.specs.Writable.{IsChain, MayLink, IsOperator, IsConstant, AreConstants, AreConstantPairs, IsWritable, MaybeWritable, AreWritableArgs, AreWritableItems, AreWritableEntries, AreWritableAttributes}
use Rattle.tera_source.proofs.Sorted.{by_ordering}

is_operator : (o : BinaryOperator) → IsOperator (operator_made o)
is_operator Mul = tt
is_operator Div = tt
is_operator Mod = tt
is_operator Plus = tt
is_operator Minus = tt
is_operator FloorDiv = tt
is_operator Power = tt
is_operator LessThan = tt
is_operator GreaterThan = tt
is_operator LessThanOrEqual = tt
is_operator GreaterThanOrEqual = tt
is_operator Equal = tt
is_operator NotEqual = tt
is_operator And = tt
is_operator Or = tt
is_operator StrConcat = tt
is_operator In = tt

is_constant : (x : Lit) → IsConstant (literal_value x)
is_constant (Number n) = tt
is_constant (Quoted q) = tt
is_constant (Truth b) = tt

may_link : (o : Bool) (e : Expr) → IsChain e → MayLink o e
may_link true e h = h
may_link false e h = tt

-- Arrays and maps of constants

abbrev ConstantItems : Option Vals → Type 0
ConstantItems None = Unit {0}
ConstantItems (Some vs) = AreConstants vs

one_more : (v : Val) (o : Option Vals) → IsConstant v → ConstantItems o → ConstantItems (with_value v o)
one_more v None h g = tt
one_more v (Some vs) h g = (h, g)

items_constant : (is : tree.Items) → AreWritableItems is → ConstantItems (constant_items is)
items_constant tree.NoItems h = tt
items_constant (tree.Item (tree.Const v s) is) h = one_more v (constant_items is) h.0 (items_constant is h.1)
items_constant _ h = tt

array_writable : (is : tree.Items) (span : Span) (o : Option Vals) → AreWritableItems is → ConstantItems o → IsWritable (array_made is span o)
array_writable is span None h g = h
array_writable is span (Some vs) h g = g

abbrev ConstantEntries : Option Pairs → Type 0
ConstantEntries None = Unit {0}
ConstantEntries (Some ps) = AreConstantPairs ps

pairs_cond : (b : Bool) (ps qs : Pairs) → AreConstantPairs ps → AreConstantPairs qs → AreConstantPairs (cond b ps qs)
pairs_cond true ps qs h g = h
pairs_cond false ps qs h g = g

put_constant : (k : KeyVal) (v : Val) (ps : Pairs) → IsConstant v → AreConstantPairs ps → AreConstantPairs (put_pair k v ps)
put_constant k v values.NoPairs h g = (h, tt)
put_constant k v (values.OnePair j u ps) h g =
    pairs_cond (key_eq k j) (values.OnePair j v ps) (values.OnePair j u (put_pair k v ps)) (h, g.1) (g.0, put_constant k v ps h g.1)

entries_constant : (es : tree.Entries) (ps : Pairs) → AreWritableEntries es → AreConstantPairs ps → ConstantEntries (constant_entries es ps)
entries_constant tree.NoEntries ps h g = g
entries_constant (tree.Entry k (tree.Const v s) es) ps h g = entries_constant es (put_pair k v ps) h.1 (put_constant k v ps h.0 g)
entries_constant _ ps h g = tt

map_writable : (es : tree.Entries) (span : Span) (o : Option Pairs) → AreWritableEntries es → ConstantEntries o → IsWritable (map_made es span o)
map_writable es span None h g = h
map_writable es span (Some ps) h g = g

-- The other forms

put_writable : (n : List ℕ) (e : Expr) (g : tree.Args) → IsWritable e → AreWritableArgs g → AreWritableArgs (put_arg n e g)
put_writable n e tree.NoArgs h v = (h, tt)
put_writable n e (tree.Arg k f rest) h v =
    by_ordering AreWritableArgs (slice_cmp nat_cmp n k) (tree.Arg n e (tree.Arg k f rest)) (tree.Arg k e rest) (tree.Arg k f (put_arg n e rest))
    (λ o. (h, v)) (λ o. (h, v.1)) (λ o. (v.0, put_writable n e rest h v.1))

prefixed_writable : (s : Sign) (e : Expr) (span : Span) → IsWritable e → IsWritable (prefixed s e span)
prefixed_writable (Negative s) (tree.Const (values.I64 n) t) span h = tt
prefixed_writable (Negative s) _ span h = h
prefixed_writable (Negates s) _ span h = h

field_writable : (c : Bool) (e : Expr) (d : Joint) (n : Name) → IsWritable e × IsChain e → IsWritable (field_output c e d n) × IsChain (field_output c e d n)
field_writable true e d n h = (tt, tt)
field_writable false e d n h = (h, h.1)

module _ (l : Bool) where
  sub_chain : (o : Bool) (e : Expr) (s : Sub) → IsChain e → IsChain (sub_output l o e s)
  sub_chain o e (index i c) h = h
  sub_chain o e (slice a s b x c) h = h

  mutual
    pub output_writable : (t : Tree) → IsWritable (output l t)
    output_writable (Atomic a) = atom_writable a
    output_writable (Prefix s e) = prefixed_writable s (output l e) (spanning (sign_span s) (last e)) (output_writable e)
    output_writable (Suffixed a s) = suffix_writable (first a) (output l a) s (output_writable a)
    output_writable (Infix a o b) = operator_writable (spanning (first a) (last b)) (output l a) o (output l b) (output_writable a) (output_writable b)

    atom_writable : (a : Atom) → IsWritable (output l (Atomic a))
    atom_writable (Literal x s) = is_constant x
    atom_writable (Null n) = tt
    atom_writable (Chain n ls) = links_writable (of_loop l n) (tree.Var n.text n.span) ls (tt, tt)
    atom_writable (Call n s row) = arguments_writable row tree.NoArgs tt
    atom_writable (Paren s e t) = output_writable e
    atom_writable (Array s row) =
        array_writable (items_output l row) _ (constant_items (items_output l row)) (items_writable row) (items_constant (items_output l row) (items_writable row))
    atom_writable (Comprehension s e f n m i t g c) = (output_writable e, output_writable t, extra_writable g)
    atom_writable (Map s row) =
        map_writable (entries_output l row) _ (constant_entries (entries_output l row) values.NoPairs) (entries_writable row)
        (entries_constant (entries_output l row) values.NoPairs (entries_writable row) tt)
    atom_writable (Component s n ds ats t u) = (attributes_writable ats, refl)

    links_writable : (c : Bool) (e : Expr) (ls : Links) → IsWritable e × IsChain e → IsWritable (links_output l c e ls)
    links_writable c e no_links h = h.0
    links_writable c e (field d n ls) h = links_writable c (field_output c e d n) ls (field_writable c e d n h)
    links_writable c e (item b s ls) h =
        let o = is_optional_bracket b in
        links_writable c (sub_output l o e s) ls (sub_writable o e s h.0 (may_link o e h.1), sub_chain o e s h.1)

    sub_writable : (o : Bool) (e : Expr) (s : Sub) → IsWritable e → MayLink o e → IsWritable (sub_output l o e s)
    sub_writable o e (index i c) h g = (h, output_writable i, g)
    sub_writable o e (slice a s b x c) h g = (h, part_writable a, part_writable b, extra_writable x, g)

    part_writable : (a : Part) → MaybeWritable (part_output l a)
    part_writable absent = tt
    part_writable (present e) = output_writable e

    extra_writable : (x : Extra) → MaybeWritable (extra_output l x)
    extra_writable no_extra = tt
    extra_writable (extra s e) = output_writable e

    arguments_writable : (row : Row) (g : tree.Args) → AreWritableArgs g → AreWritableArgs (arguments_output l row g)
    arguments_writable (ended s) g h = h
    arguments_writable (only x s) g h = argument_writable x g h
    arguments_writable (then x s xs) g h = arguments_writable xs (argument_output l x g) (argument_writable x g h)

    argument_writable : (x : Element) (g : tree.Args) → AreWritableArgs g → AreWritableArgs (argument_output l x g)
    argument_writable (argument n s e) g h = put_writable n.text (output l e) g (output_writable e) h
    argument_writable (plain e) g h = h
    argument_writable (spread s e) g h = h
    argument_writable (pair x s t e) g h = h

    items_writable : (row : Row) → AreWritableItems (items_output l row)
    items_writable (ended s) = tt
    items_writable (only x s) = item_writable x tree.NoItems tt
    items_writable (then x s xs) = item_writable x (items_output l xs) (items_writable xs)

    item_writable : (x : Element) (is : tree.Items) → AreWritableItems is → AreWritableItems (item_output l x is)
    item_writable (plain e) is h = (output_writable e, h)
    item_writable (spread s e) is h = (output_writable e, h)
    item_writable (pair x s t e) is h = h
    item_writable (argument n s e) is h = h

    entries_writable : (row : Row) → AreWritableEntries (entries_output l row)
    entries_writable (ended s) = tt
    entries_writable (only x s) = entry_writable x tree.NoEntries tt
    entries_writable (then x s xs) = entry_writable x (entries_output l xs) (entries_writable xs)

    entry_writable : (x : Element) (es : tree.Entries) → AreWritableEntries es → AreWritableEntries (entry_output l x es)
    entry_writable (pair x s t e) es h = (output_writable e, h)
    entry_writable (spread s e) es h = (output_writable e, h)
    entry_writable (plain e) es h = h
    entry_writable (argument n s e) es h = h

    attributes_writable : (ats : Attributes) → AreWritableAttributes (attributes_output l ats)
    attributes_writable no_attributes = tt
    attributes_writable (bare n ats) = (tt, tt, attributes_writable ats)
    attributes_writable (quoted n s q t ats) = (tt, tt, attributes_writable ats)
    attributes_writable (valued n s b e c ats) = (tt, output_writable e, attributes_writable ats)
    attributes_writable (spreading b s e c ats) = (output_writable e, attributes_writable ats)

    suffix_writable : (start : Span) (e : Expr) (s : Suffix) → IsWritable e → IsWritable (suffix_output l start e s)
    suffix_writable start e (Test s plainly w g) h = (h, args_writable g)
    suffix_writable start e (Test s (negated n) w g) h = (h, args_writable g)
    suffix_writable start e (Filter s w g) h = (h, args_writable g)
    suffix_writable start e (Subscript s b) h = sub_writable false e b h tt

    args_writable : (g : Args) → AreWritableArgs (args_output l g)
    args_writable no_args = tt
    args_writable (args s row) = arguments_writable row tree.NoArgs tt

    operator_writable : (span : Span) (a : Expr) (o : Operator) (b : Expr) → IsWritable a → IsWritable b → IsWritable (operator_output l span a o b)
    operator_writable span a (Binary (Single o s)) b h g = (h, g, is_operator o)
    operator_writable span a (Binary (NotIn s t)) b h g = (h, g, tt)
    operator_writable span a (Condition s c t) b h g = (output_writable c, h, g)
