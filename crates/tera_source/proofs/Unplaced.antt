-- Parentheses change no output except where it is.
use Rattle.std.proofs.Common.{◌≡◌, ℕ, suc, Bool, true, false, cond, ◌||◌, List, Option, Some, None, Ordering, Less, Equal, Greater, refl, sym, ap, ap₂, ◌∙◌}
use Rattle.std.specs.Prelude.{ltb}
use Rattle.std.specs.Ordering.{nat_cmp, match_ordering}
use Rattle.std.specs.Cmp.Lexicographic.{slice_cmp}
use Rattle.tera_base.specs.declared.utils.Span.{Span}
use Rattle.tera_lexer.specs.code.Cursors.{nowhere}
use Rattle.tera_base.specs.Values as values
use Rattle.tera_ast.specs.declared.ast.UnaryOperator.TheVariants as unary
use Rattle.tera_ast.specs.declared.ast.BinaryOperator.TheVariants as binary
use Rattle.tera_ast.specs.Tree as tree
use Rattle.tera_base.specs.Values.{Vals, Pairs}
use Rattle.tera_grammar.specs.expressions.Operators.{operator_made}
use Rattle.tera_ast.specs.Tree.{Expr}
use Rattle.tera_grammar.specs.expressions.Concrete.{Name, Sign, Negative, Negates, Joint, plainly, negated, Single, NotIn, Tree, Atomic, Prefix, Suffixed, Infix, Atom, Literal, Null, Chain, Call, Paren, Array, Comprehension, Map, Component, Links, no_links, field, item, Sub, index, slice, Part, absent, present, Extra, no_extra, extra, Row, ended, only, then, Element, plain, spread, pair, argument, Attributes, no_attributes, bare, quoted, valued, spreading, Suffix, Test, Filter, Subscript, Args, no_args, args, Operator, Binary, Condition}
use Rattle.tera_grammar.specs.expressions.Spans.{spanning, sign_span, first, last}
use Rattle.tera_grammar.specs.expressions.Powers.{sign_power, left_power, right_power}
use Rattle.tera_grammar.specs.expressions.Output.{quote_text, put_pair, put_arg, constant_entries, constant_items, with_value, array_made, array_of, map_made, map_of, field_output, operator_output, key_of, prefixed, is_optional_joint, is_optional_bracket, of_loop, output, links_output, sub_output, part_output, extra_output, arguments_output, argument_output, items_output, item_output, entries_output, entry_output, attributes_output, suffix_output, args_output}
use Rattle.tera_source.specs.Source.{asked, kept_out, paren, paren_atom, paren_links, paren_sub, paren_part, paren_extra, paren_row, paren_element, paren_attributes, paren_suffix, paren_args, paren_operator}
use Rattle.tera_source.specs.Placeless.{placeless, placeless_part, placeless_args, placeless_items, placeless_entries}

pub prefixed_placeless : (s : Sign) (e : Expr) (span : Span) → placeless (prefixed s e span) ≡ prefixed s (placeless e) nowhere
prefixed_placeless (Negative s) (tree.Const (values.I64 n) t) span = refl
prefixed_placeless (Negative s) _ span = refl
prefixed_placeless (Negates s) _ span = refl

constant_items_placeless : (is : tree.Items) → constant_items (placeless_items is) ≡ constant_items is
constant_items_placeless tree.NoItems = refl
constant_items_placeless (tree.Item (tree.Const v s) is) = ap (with_value v) (constant_items_placeless is)
constant_items_placeless _ = refl

array_made_placeless : (is : tree.Items) (span : Span) (o : Option Vals) → placeless (array_made is span o) ≡ array_made (placeless_items is) nowhere o
array_made_placeless is span None = refl
array_made_placeless is span (Some vs) = refl

pub array_placeless : (is : tree.Items) (span : Span) → placeless (array_of is span) ≡ array_of (placeless_items is) nowhere
array_placeless is span =
    array_made_placeless is span (constant_items is) ∙ ap (array_made (placeless_items is) nowhere) (sym (constant_items_placeless is))

constant_entries_placeless : (es : tree.Entries) (ps : Pairs) → constant_entries (placeless_entries es) ps ≡ constant_entries es ps
constant_entries_placeless tree.NoEntries ps = refl
constant_entries_placeless (tree.Entry k (tree.Const v s) es) ps = constant_entries_placeless es (put_pair k v ps)
constant_entries_placeless _ ps = refl

map_made_placeless : (es : tree.Entries) (span : Span) (o : Option Pairs) → placeless (map_made es span o) ≡ map_made (placeless_entries es) nowhere o
map_made_placeless es span None = refl
map_made_placeless es span (Some ps) = refl

pub map_placeless : (es : tree.Entries) (span : Span) → placeless (map_of es span) ≡ map_of (placeless_entries es) nowhere
map_placeless es span =
    map_made_placeless es span (constant_entries es values.NoPairs)
    ∙ ap (map_made (placeless_entries es) nowhere) (sym (constant_entries_placeless es values.NoPairs))

ordering_placeless : (o : Ordering) (x y z a b c : tree.Args) → placeless_args x ≡ a → placeless_args y ≡ b → placeless_args z ≡ c →
    placeless_args (match_ordering o x y z) ≡ match_ordering o a b c
ordering_placeless Less x y z a b c f g h = f
ordering_placeless Equal x y z a b c f g h = g
ordering_placeless Greater x y z a b c f g h = h

pub put_placeless : (n : List ℕ) (e : Expr) (g : tree.Args) → placeless_args (put_arg n e g) ≡ put_arg n (placeless e) (placeless_args g)
put_placeless n e tree.NoArgs = refl
put_placeless n e (tree.Arg k f rest) =
    ordering_placeless (slice_cmp nat_cmp n k) (tree.Arg n e (tree.Arg k f rest)) (tree.Arg k e rest) (tree.Arg k f (put_arg n e rest)) _ _ _
    refl refl (ap (tree.Arg k (placeless f)) (put_placeless n e rest))

field_same : (c : Bool) (e f : Expr) (d : Joint) (n : Name) → placeless e ≡ placeless f → placeless (field_output c e d n) ≡ placeless (field_output c f d n)
field_same true e f d n h = refl
field_same false e f d n h = ap (λ x. tree.GetAttr x n.text (is_optional_joint d) nowhere) h

output_cond : (l b : Bool) (x y : Tree) (e : Expr) → placeless (output l x) ≡ e → placeless (output l y) ≡ e → placeless (output l (cond b x y)) ≡ e
output_cond l true x y e one two = one
output_cond l false x y e one two = two

prefix_same : (l : Bool) (s : Sign) (x y : Tree) → placeless (output l x) ≡ placeless (output l y) → placeless (output l (Prefix s x)) ≡ placeless (output l (Prefix s y))
prefix_same l s x y h =
    prefixed_placeless s (output l x) (spanning (sign_span s) (last x)) ∙ ap (λ e. prefixed s e nowhere) h
    ∙ sym (prefixed_placeless s (output l y) (spanning (sign_span s) (last y)))

mutual
  -- parentheses change no output except its places
  pub paren_output : (l : Bool) (m q : ℕ) (p : Bool) (t : Tree) → placeless (output l (paren m q p t)) ≡ placeless (output l t)
  paren_output l m q p (Atomic a) = atom_same l a
  paren_output l m q p (Prefix s e) =
      output_cond l (p || ltb (sign_power s) q) _ _ _
      (prefix_same l s (paren (sign_power s) 0 true e) e (paren_output l (sign_power s) 0 true e))
      (prefix_same l s (paren (sign_power s) q true e) e (paren_output l (sign_power s) q true e))
  paren_output l m q p (Suffixed a s) =
      output_cond l (kept_out m s) _ _ _
      (suffix_same l (first (paren 0 (asked s) false a)) (first a) (output l (paren 0 (asked s) false a)) (output l a) s (paren_output l 0 (asked s) false a))
      (suffix_same l (first (paren m (asked s) p a)) (first a) (output l (paren m (asked s) p a)) (output l a) s (paren_output l m (asked s) p a))
  paren_output l m q p (Infix a o b) =
      output_cond l (ltb (left_power o) m || ltb (right_power o) q) _ _ _
      (operator_same l _ _ _ (output l a) _ (output l b) o (paren_output l 0 (suc (left_power o)) false a) (paren_output l (right_power o) 0 false b))
      (operator_same l _ _ _ (output l a) _ (output l b) o (paren_output l m (suc (left_power o)) p a) (paren_output l (right_power o) q false b))

  atom_same : (l : Bool) (a : Atom) → placeless (output l (Atomic (paren_atom a))) ≡ placeless (output l (Atomic a))
  atom_same l (Literal x s) = refl
  atom_same l (Null n) = refl
  atom_same l (Chain n ls) = links_same l (of_loop l n) (tree.Var n.text n.span) (tree.Var n.text n.span) ls refl
  atom_same l (Call n s row) = ap (λ g. tree.FunctionCall n.text g nowhere) (arguments_same l row tree.NoArgs tree.NoArgs refl)
  atom_same l (Paren s e t) = paren_output l 0 0 false e
  atom_same l (Array s row) =
      array_placeless (items_output l (paren_row row)) _ ∙ ap (λ is. array_of is nowhere) (items_same l row)
      ∙ sym (array_placeless (items_output l row) _)
  atom_same l (Comprehension s e f n m i t g c) =
      let one = paren_output l 0 0 false e in
      let two = paren_output l 1 0 false t in
      let three = extra_same l 1 g in
      rw (one, two, three) refl
  atom_same l (Map s row) =
      map_placeless (entries_output l (paren_row row)) _ ∙ ap (λ es. map_of es nowhere) (entries_same l row)
      ∙ sym (map_placeless (entries_output l row) _)
  atom_same l (Component s n ds ats t u) = rw (attributes_same l ats) refl

  links_same : (l c : Bool) (e f : Expr) (ls : Links) → placeless e ≡ placeless f → placeless (links_output l c e (paren_links ls)) ≡ placeless (links_output l c f ls)
  links_same l c e f no_links h = h
  links_same l c e f (field d n ls) h = links_same l c (field_output c e d n) (field_output c f d n) ls (field_same c e f d n h)
  links_same l c e f (item b s ls) h =
      links_same l c (sub_output l (is_optional_bracket b) e (paren_sub s)) (sub_output l (is_optional_bracket b) f s) ls
      (sub_same l (is_optional_bracket b) e f s h)

  sub_same : (l o : Bool) (e f : Expr) (s : Sub) → placeless e ≡ placeless f → placeless (sub_output l o e (paren_sub s)) ≡ placeless (sub_output l o f s)
  sub_same l o e f (index i c) h = ap₂ (λ x y. tree.GetItem x y o nowhere) h (paren_output l 0 0 false i)
  sub_same l o e f (slice a s b x c) h =
      let one = part_same l a in
      let two = part_same l b in
      let three = extra_same l 0 x in
      rw (h, one, two, three) refl

  part_same : (l : Bool) (a : Part) → placeless_part (part_output l (paren_part a)) ≡ placeless_part (part_output l a)
  part_same l absent = refl
  part_same l (present e) = ap tree.OneExpr (paren_output l 0 0 false e)

  extra_same : (l : Bool) (m : ℕ) (x : Extra) → placeless_part (extra_output l (paren_extra m x)) ≡ placeless_part (extra_output l x)
  extra_same l m no_extra = refl
  extra_same l m (extra s e) = ap tree.OneExpr (paren_output l m 0 false e)

  arguments_same : (l : Bool) (row : Row) (g k : tree.Args) → placeless_args g ≡ placeless_args k →
      placeless_args (arguments_output l (paren_row row) g) ≡ placeless_args (arguments_output l row k)
  arguments_same l (ended s) g k h = h
  arguments_same l (only x s) g k h = argument_same l x g k h
  arguments_same l (then x s xs) g k h =
      arguments_same l xs (argument_output l (paren_element x) g) (argument_output l x k) (argument_same l x g k h)

  argument_same : (l : Bool) (x : Element) (g k : tree.Args) → placeless_args g ≡ placeless_args k →
      placeless_args (argument_output l (paren_element x) g) ≡ placeless_args (argument_output l x k)
  argument_same l (argument n s e) g k h =
      put_placeless n.text (output l (paren 0 0 false e)) g ∙ ap₂ (put_arg n.text) (paren_output l 0 0 false e) h ∙ sym (put_placeless n.text (output l e) k)
  argument_same l (plain e) g k h = h
  argument_same l (spread s e) g k h = h
  argument_same l (pair x s t e) g k h = h

  items_same : (l : Bool) (row : Row) → placeless_items (items_output l (paren_row row)) ≡ placeless_items (items_output l row)
  items_same l (ended s) = refl
  items_same l (only x s) = item_same l x tree.NoItems tree.NoItems refl
  items_same l (then x s xs) = item_same l x (items_output l (paren_row xs)) (items_output l xs) (items_same l xs)

  item_same : (l : Bool) (x : Element) (is js : tree.Items) → placeless_items is ≡ placeless_items js →
      placeless_items (item_output l (paren_element x) is) ≡ placeless_items (item_output l x js)
  item_same l (plain e) is js h = ap₂ tree.Item (paren_output l 0 0 false e) h
  item_same l (spread s e) is js h = ap₂ tree.SpreadItem (paren_output l 0 0 false e) h
  item_same l (pair x s t e) is js h = h
  item_same l (argument n s e) is js h = h

  entries_same : (l : Bool) (row : Row) → placeless_entries (entries_output l (paren_row row)) ≡ placeless_entries (entries_output l row)
  entries_same l (ended s) = refl
  entries_same l (only x s) = entry_same l x tree.NoEntries tree.NoEntries refl
  entries_same l (then x s xs) = entry_same l x (entries_output l (paren_row xs)) (entries_output l xs) (entries_same l xs)

  entry_same : (l : Bool) (x : Element) (es fs : tree.Entries) → placeless_entries es ≡ placeless_entries fs →
      placeless_entries (entry_output l (paren_element x) es) ≡ placeless_entries (entry_output l x fs)
  entry_same l (pair x s t e) es fs h = ap₂ (tree.Entry (key_of x)) (paren_output l 0 0 false e) h
  entry_same l (spread s e) es fs h = ap₂ tree.SpreadEntry (paren_output l 0 0 false e) h
  entry_same l (plain e) es fs h = h
  entry_same l (argument n s e) es fs h = h

  attributes_same : (l : Bool) (ats : Attributes) → placeless_entries (attributes_output l (paren_attributes ats)) ≡ placeless_entries (attributes_output l ats)
  attributes_same l no_attributes = refl
  attributes_same l (bare n ats) = ap (tree.Entry (values.TextKey n.text) (tree.Var n.text nowhere)) (attributes_same l ats)
  attributes_same l (quoted n s x t ats) = ap (tree.Entry (values.TextKey n.text) (tree.Const (values.Text (quote_text x)) nowhere)) (attributes_same l ats)
  attributes_same l (valued n s b e c ats) = ap₂ (tree.Entry (values.TextKey n.text)) (paren_output l 0 0 false e) (attributes_same l ats)
  attributes_same l (spreading b s e c ats) = ap₂ tree.SpreadEntry (paren_output l 0 0 false e) (attributes_same l ats)

  suffix_same : (l : Bool) (start begin : Span) (e f : Expr) (s : Suffix) → placeless e ≡ placeless f →
      placeless (suffix_output l start e (paren_suffix s)) ≡ placeless (suffix_output l begin f s)
  suffix_same l start begin e f (Test s plainly w g) h = ap₂ (λ x y. tree.Test x w.text y nowhere) h (args_same l g)
  suffix_same l start begin e f (Test s (negated n) w g) h =
      ap₂ (λ x y. tree.UnaryOperation unary.Not (tree.Test x w.text y nowhere) nowhere) h (args_same l g)
  suffix_same l start begin e f (Filter s w g) h = ap₂ (λ x y. tree.Filter x w.text y nowhere) h (args_same l g)
  suffix_same l start begin e f (Subscript s b) h = sub_same l false e f b h

  args_same : (l : Bool) (g : Args) → placeless_args (args_output l (paren_args g)) ≡ placeless_args (args_output l g)
  args_same l no_args = refl
  args_same l (args s row) = arguments_same l row tree.NoArgs tree.NoArgs refl

  operator_same : (l : Bool) (span place : Span) (a b c d : Expr) (o : Operator) → placeless a ≡ placeless b → placeless c ≡ placeless d →
      placeless (operator_output l span a (paren_operator o) c) ≡ placeless (operator_output l place b o d)
  operator_same l span place a b c d (Binary (Single o s)) h g = ap₂ (λ x y. tree.BinaryOperation (operator_made o) x y nowhere) h g
  operator_same l span place a b c d (Binary (NotIn s t)) h g = ap₂ (λ x y. tree.UnaryOperation unary.Not (tree.BinaryOperation binary.In x y nowhere) nowhere) h g
  operator_same l span place a b c d (Condition s x t) h g =
      let one = paren_output l 0 0 false x in rw (h, g, one) refl
