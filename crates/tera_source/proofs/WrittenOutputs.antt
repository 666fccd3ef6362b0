-- What is written for the output of an expression meets all conditions, the powers and the prefixes apart.
use Rattle.std.proofs.Common.{◌≡◌, ℕ, Bool, true, false, cond, List, ◌∷◌, ◌++◌, Option, Some, None, bytes_eq, refl, sym, ap, subst, ◌∙◌, codes}
use Rattle.std.specs.Prelude.{ℤ, pos, negsuc, neg_ℤ}
use Rattle.std.specs.Ordering.{nat_cmp}
use Rattle.std.specs.Cmp.Lexicographic.{slice_cmp}
use Rattle.std.proofs.lemmas.Slice.Eq.{bytes_eq-Decides}
use Rattle.tera_base.specs.declared.utils.Span.{Span}
use Rattle.tera_lexer.specs.code.Cursors.{nowhere}
use Rattle.tera_base.specs.Same.{key_eq}
use Rattle.tera_base.specs.Values as values
use Rattle.tera_ast.specs.Tree as tree
use Rattle.tera_base.specs.Values.{KeyVal, Val, Pairs}
use Rattle.tera_grammar.specs.expressions.Operators.{BinaryOperator, StrConcat, In}
use Rattle.tera_ast.specs.Tree.{Expr}
use Rattle.tera_grammar.specs.expressions.Concrete.{Name, Lit, Number, Quoted, Truth, Sign, Negative, Negates, Joint, plainly, negated, Second, no_second, second, Single, NotIn, Kind, of_arguments, of_items, of_entries, Tree, Atomic, Prefix, Suffixed, Infix, Atom, Literal, Null, Chain, Call, Paren, Array, Comprehension, Map, Component, Links, no_links, field, item, Sub, index, slice, Part, absent, present, Extra, no_extra, extra, Row, ended, only, then, Element, plain, spread, pair, argument, Attributes, no_attributes, bare, quoted, valued, spreading, Suffix, Test, Filter, Subscript, Args, no_args, args, Binary, Condition}
use Rattle.tera_grammar.specs.Words.{is_none, AreDistinct}
use Rattle.tera_grammar.specs.expressions.Spans.{spanning, sign_span, first, last, row_end}
use Rattle.tera_grammar.specs.expressions.Conditions.{AreVariables, is_element_of, argument_names, is_refused, IsExpression, IsAtom, AreLinks, IsSub, IsPart, IsExtra, IsRow, IsElement, AreAttributes, IsSuffix, AreArgs}
use Rattle.tera_grammar.specs.expressions.Output.{literal_value, put_pair, put_arg, constant_entries, map_made, prefixed, is_optional_joint, is_optional_bracket, of_loop, field_output, key_variable, value_variable, output, links_output, sub_output, part_output, extra_output, arguments_output, argument_output, items_output, item_output, entries_output, entry_output, attributes_output, suffix_output, args_output}
use Rattle.tera_source.specs.Source.{word, key_literal, number_tree, in_front, value_tree, pairs_row, following, joint_for, bracket_for, with_field, with_sub, negation_of, first_variable, second_variable, attribute, tree_of, part_of, extra_of, arguments_row, args_of, items_row, entries_row, attributes_of, source_tree}
use Rattle.tera_source.proofs.Signs.{kind_of, refuses, refused_kind, written_kind, array_tree, infix_tree}
use Rattle.tera_source.proofs.Loose.{IsLoose, AreLooseLinks, IsLooseSub, IsLoosePart, IsLooseExtra, IsLooseRow, IsLooseElement, AreLooseAttributes, AreLooseArgs, paren_fits}
use Rattle.tera_source.proofs.Sorted.{Sorted, arg_names, by_ordering, sorted_put, sorted_distinct}

-- Constants

number_loose : (n : ℤ) → IsLoose (number_tree n)
number_loose (pos n) = tt
number_loose (negsuc n) = tt

value_loose : (x : Lit) (s : Span) → IsLoose (tree_of (tree.Const (literal_value x) s))
value_loose (Number n) s = number_loose n
value_loose (Quoted q) s = tt
value_loose (Truth b) s = tt

none_loose : is_none (codes "none") ≡ true
unfolding is_none
none_loose = refl

-- Rows

in_front_loose : (k : Kind) (x : Element) (row : Row) → is_element_of k x ≡ true → IsLooseElement x → IsLooseRow k row → IsLooseRow k (in_front x row)
in_front_loose k x (ended s) is h r = (is, h)
in_front_loose k x (only y s) is h r = (is, h, r)
in_front_loose k x (then y s ys) is h r = (is, h, r)

in_front_names : (n : Name) (s : Span) (e : Tree) (row : Row) → argument_names (in_front (argument n s e) row) ≡ (n.text ∷ argument_names row)
in_front_names n s e (ended t) = refl
in_front_names n s e (only y t) = refl
in_front_names n s e (then y t ys) = refl

-- Arguments

abbrev LooseValues : tree.Args → Type 0
LooseValues tree.NoArgs = Unit {0}
LooseValues (tree.Arg n e g) = IsLoose (tree_of e) × LooseValues g

put_loose : (n : List ℕ) (e : Expr) (g : tree.Args) → IsLoose (tree_of e) → LooseValues g → LooseValues (put_arg n e g)
put_loose n e tree.NoArgs h v = (h, tt)
put_loose n e (tree.Arg k f rest) h v =
    by_ordering LooseValues (slice_cmp nat_cmp n k) (tree.Arg n e (tree.Arg k f rest)) (tree.Arg k e rest) (tree.Arg k f (put_arg n e rest))
    (λ o. (h, v)) (λ o. (h, v.1)) (λ o. (v.0, put_loose n e rest h v.1))

record Ordered (g : tree.Args) : Type 0 where
  sorted : Sorted g
  values : LooseValues g

none_ordered : Ordered tree.NoArgs
none_ordered = record { sorted = tt; values = tt }

put_ordered : (n : List ℕ) (e : Expr) (g : tree.Args) → IsLoose (tree_of e) → Ordered g → Ordered (put_arg n e g)
put_ordered n e g h o = record { sorted = sorted_put n e g o.sorted; values = put_loose n e g h o.values }

arguments_names : (g : tree.Args) → argument_names (arguments_row g) ≡ arg_names g
arguments_names tree.NoArgs = refl
arguments_names (tree.Arg n e g) = in_front_names (word n) nowhere (tree_of e) (arguments_row g) ∙ ap (λ ns. n ∷ ns) (arguments_names g)

values_row_loose : (g : tree.Args) → LooseValues g → IsLooseRow of_arguments (arguments_row g)
values_row_loose tree.NoArgs v = tt
values_row_loose (tree.Arg n e g) v =
    in_front_loose of_arguments (argument (word n) nowhere (tree_of e)) (arguments_row g) refl v.0 (values_row_loose g v.1)

ordered_distinct : (g : tree.Args) → Ordered g → AreDistinct (argument_names (arguments_row g))
ordered_distinct g o = subst AreDistinct (sym (arguments_names g)) (sorted_distinct g o.sorted)

ordered_args : (g : tree.Args) → Ordered g → AreLooseArgs (args_of g)
ordered_args tree.NoArgs o = tt
ordered_args (tree.Arg n e g) o = (values_row_loose (tree.Arg n e g) o.values, ordered_distinct (tree.Arg n e g) o)

-- Maps

abbrev LooseEntries : tree.Entries → Type 0
LooseEntries tree.NoEntries = Unit {0}
LooseEntries (tree.Entry k e es) = IsLoose (tree_of e) × LooseEntries es
LooseEntries (tree.SpreadEntry e es) = IsLoose (tree_of e) × LooseEntries es

abbrev LoosePairs : Pairs → Type 0
LoosePairs values.NoPairs = Unit {0}
LoosePairs (values.OnePair k v ps) = IsLoose (value_tree v) × LoosePairs ps

entries_row_loose : (es : tree.Entries) → LooseEntries es → IsLooseRow of_entries (entries_row es)
entries_row_loose tree.NoEntries h = tt
entries_row_loose (tree.Entry k e es) h =
    in_front_loose of_entries (pair (key_literal k) nowhere nowhere (tree_of e)) (entries_row es) refl h.0 (entries_row_loose es h.1)
entries_row_loose (tree.SpreadEntry e es) h =
    in_front_loose of_entries (spread nowhere (tree_of e)) (entries_row es) refl h.0 (entries_row_loose es h.1)

pairs_row_loose : (ps : Pairs) → LoosePairs ps → IsLooseRow of_entries (pairs_row ps)
pairs_row_loose values.NoPairs h = tt
pairs_row_loose (values.OnePair k v ps) h =
    in_front_loose of_entries (pair (key_literal k) nowhere nowhere (value_tree v)) (pairs_row ps) refl h.0 (pairs_row_loose ps h.1)

pairs_cond : (b : Bool) (ps qs : Pairs) → LoosePairs ps → LoosePairs qs → LoosePairs (cond b ps qs)
pairs_cond true ps qs h g = h
pairs_cond false ps qs h g = g

put_pair_loose : (k : KeyVal) (v : Val) (ps : Pairs) → IsLoose (value_tree v) → LoosePairs ps → LoosePairs (put_pair k v ps)
put_pair_loose k v values.NoPairs h p = (h, tt)
put_pair_loose k v (values.OnePair j u ps) h p =
    pairs_cond (key_eq k j) (values.OnePair j v ps) (values.OnePair j u (put_pair k v ps)) (h, p.1) (p.0, put_pair_loose k v ps h p.1)

abbrev LooseConstants : Option Pairs → Type 0
LooseConstants None = Unit {0}
LooseConstants (Some ps) = LoosePairs ps

constants_loose : (es : tree.Entries) (ps : Pairs) → LooseEntries es → LoosePairs ps → LooseConstants (constant_entries es ps)
constants_loose tree.NoEntries ps h p = p
constants_loose (tree.Entry k (tree.Const v s) es) ps h p = constants_loose es (put_pair k v ps) h.1 (put_pair_loose k v ps h.0 p)
constants_loose _ ps h p = tt

map_loose : (es : tree.Entries) (span : Span) (o : Option Pairs) → LooseEntries es → LooseConstants o → IsLoose (tree_of (map_made es span o))
map_loose es span None h p = entries_row_loose es h
map_loose es span (Some ps) h p = pairs_row_loose ps p

-- Negations

negation_loose : (t : Tree) → IsLoose t → IsLoose (negation_of t)
negation_loose (Suffixed a (Test s plainly w g)) h = (tt, h.1, (tt, h.2.1))
negation_loose (Infix a (Binary (Single In s)) b) h = (refl, h.1, tt, h.3)
negation_loose _ h = h

prefix_loose : (s : Sign) (e : Expr) (span : Span) → IsLoose (tree_of e) → IsLoose (tree_of (prefixed s e span))
prefix_loose (Negative s) (tree.Const (values.I64 n) t) span h = number_loose (neg_ℤ n)
prefix_loose (Negative s) _ span h = h
prefix_loose (Negates s) e span h = negation_loose (tree_of e) h

-- Links and subscripts

after_loose : (ls last : Links) → AreLooseLinks ls → AreLooseLinks last → AreLooseLinks (following ls last)
after_loose no_links last h g = g
after_loose (field d n ls) last h g = after_loose ls last h g
after_loose (item b s ls) last h g = (h.0, after_loose ls last h.1 g)

with_field_loose : (t : Tree) (o : Bool) (n : List ℕ) → IsLoose t → IsLoose (with_field t o n)
with_field_loose (Atomic (Chain m ls)) o n h = (h.0, after_loose ls (field (joint_for o) (word n) no_links) h.1 tt)
with_field_loose _ o n h = h

with_sub_loose : (t : Tree) (o : Bool) (s : Sub) → IsLoose t → IsLooseSub s → IsLoose (with_sub t o s)
with_sub_loose (Atomic (Chain m ls)) o s h g = (h.0, after_loose ls (item (bracket_for o) s no_links) h.1 (g, tt))
with_sub_loose _ o s h g = (tt, h, g)

-- the variable of a loop's field
loop_variable : (text : List ℕ) (s : Span) → IsLoose (tree_of (tree.Var (codes "__tera_loop_" ++ text) s))
unfolding is_none
loop_variable text s = ((refl, refl), tt)

field_loose : (c : Bool) (e : Expr) (d : Joint) (n : Name) → IsLoose (tree_of e) → IsLoose (tree_of (field_output c e d n))
field_loose true e d n h = loop_variable n.text n.span
field_loose false e d n h = with_field_loose (tree_of e) (is_optional_joint d) n.text h

variables_loose : (n : Name) (m : Second) → AreVariables n m →
    AreVariables (first_variable (key_variable n m) (value_variable n m)) (second_variable (key_variable n m) (value_variable n m))
variables_loose n no_second h = h
variables_loose n (second s m) h = h

-- Attributes

same_bytes : (n : List ℕ) → bytes_eq n n ≡ true
same_bytes n = (bytes_eq-Decides n n).1 refl

named_cond : (b : Bool) (ats other : Attributes) → AreLooseAttributes ats → AreLooseAttributes other → AreLooseAttributes (cond b ats other)
named_cond true ats other h g = h
named_cond false ats other h g = g

attribute_loose : (n : List ℕ) (e : Expr) (t : Tree) (ats : Attributes) → IsLoose t → AreLooseAttributes ats → AreLooseAttributes (attribute n e t ats)
attribute_loose n (tree.Var m s) t ats h g =
    named_cond (bytes_eq n m) (bare (word n) ats) (valued (word n) nowhere nowhere t nowhere ats) g (h, g)
attribute_loose n (tree.Const (values.Text text) s) t ats h g = g
attribute_loose n _ t ats h g = (h, g)

bare_loose : (n : List ℕ) (s : Span) (t : Tree) (ats : Attributes) → AreLooseAttributes ats → AreLooseAttributes (attribute n (tree.Var n s) t ats)
bare_loose n s t ats g =
    subst (λ b. AreLooseAttributes (cond b (bare (word n) ats) (valued (word n) nowhere nowhere t nowhere ats))) (sym (same_bytes n)) g

-- Operators

refuses_anywhere : (o : BinaryOperator) (s : Span) (e : Tree) (l : Bool) (k : Tree) → kind_of k ≡ kind_of e →
    is_refused l (Binary (Single o s)) e ≡ false → refuses (Binary (Single o nowhere)) (kind_of k) ≡ false
refuses_anywhere StrConcat s e l k same h =
    ap (refuses (Binary (Single StrConcat nowhere))) same ∙ sym (refused_kind l (Binary (Single StrConcat s)) e) ∙ h
refuses_anywhere _ s e l k same h = refl

mutual
  pub written_loose : (l : Bool) (t : Tree) → IsExpression l t → IsLoose (tree_of (output l t))
  written_loose l (Atomic a) h = atom_loose l a h
  written_loose l (Prefix s e) h = prefix_loose s (output l e) (spanning (sign_span s) (last e)) (written_loose l e h.2)
  written_loose l (Suffixed a s) h = suffix_loose l (first a) (output l a) s (written_loose l a h.1) h.2
  written_loose l (Infix a (Binary (Single o s)) b) h =
      subst IsLoose (sym (infix_tree o (output l a) (output l b) (spanning (first a) (last b))))
      (refuses_anywhere o s b l (tree_of (output l b)) (written_kind l b) h.2, written_loose l a h.3, tt, written_loose l b h.5)
  written_loose l (Infix a (Binary (NotIn s t)) b) h = (refl, written_loose l a h.3, tt, written_loose l b h.5)
  written_loose l (Infix a (Condition s c t) b) h = (refl, written_loose l a h.3, written_loose l c h.4, written_loose l b h.5)

  atom_loose : (l : Bool) (a : Atom) → IsAtom l a → IsLoose (tree_of (output l (Atomic a)))
  atom_loose l (Literal x s) h = value_loose x s
  atom_loose l (Null n) h = none_loose
  atom_loose l (Chain n ls) h = links_loose l (of_loop l n) (tree.Var n.text n.span) ls h.1 (h.0, tt)
  atom_loose l (Call n s row) h =
      let o = arguments_loose l row tree.NoArgs h.1 none_ordered in
      (h.0, values_row_loose (arguments_output l row tree.NoArgs) o.values, ordered_distinct (arguments_output l row tree.NoArgs) o)
  atom_loose l (Paren s e t) h = written_loose l e h
  atom_loose l (Array s row) h =
      subst IsLoose (sym (array_tree (items_output l row) (spanning s (row_end row)))) (items_loose l row h)
  atom_loose l (Comprehension s e f n m i t g c) h =
      (variables_loose n m h.0, written_loose l e h.2, written_loose l t h.3, extra_loose l 1 g h.4)
  atom_loose l (Map s row) h =
      let es = entries_loose l row h in
      map_loose (entries_output l row) (spanning s (row_end row)) (constant_entries (entries_output l row) values.NoPairs) es
      (constants_loose (entries_output l row) values.NoPairs es tt)
  atom_loose l (Component s n ds ats t u) h = attributes_loose l ats h

  links_loose : (l c : Bool) (e : Expr) (ls : Links) → AreLinks l c ls → IsLoose (tree_of e) → IsLoose (tree_of (links_output l c e ls))
  links_loose l c e no_links h g = g
  links_loose l c e (field d n ls) h g = links_loose l c (field_output c e d n) ls h.1 (field_loose c e d n g)
  links_loose l c e (item b s ls) h g =
      links_loose l c (sub_output l (is_optional_bracket b) e s) ls h.1 (sub_loose l (is_optional_bracket b) e s h.0 g)

  sub_loose : (l o : Bool) (e : Expr) (s : Sub) → IsSub l s → IsLoose (tree_of e) → IsLoose (tree_of (sub_output l o e s))
  sub_loose l o e (index i c) h g = with_sub_loose (tree_of e) o (index (tree_of (output l i)) nowhere) g (written_loose l i h)
  sub_loose l o e (slice a s b x c) h g =
      with_sub_loose (tree_of e) o (slice (part_of (part_output l a)) nowhere (part_of (part_output l b)) (extra_of (extra_output l x)) nowhere) g
      (part_loose l a h.0, part_loose l b h.1, extra_loose l 0 x h.2)

  part_loose : (l : Bool) (a : Part) → IsPart l a → IsLoosePart (part_of (part_output l a))
  part_loose l absent h = tt
  part_loose l (present e) h = written_loose l e h

  extra_loose : (l : Bool) (m : ℕ) (x : Extra) → IsExtra l m x → IsLooseExtra (extra_of (extra_output l x))
  extra_loose l m no_extra h = tt
  extra_loose l m (extra s e) h = written_loose l e h.1

  arguments_loose : (l : Bool) (row : Row) (g : tree.Args) → IsRow l of_arguments row → Ordered g → Ordered (arguments_output l row g)
  arguments_loose l (ended s) g h o = o
  arguments_loose l (only x s) g h o = argument_loose l x g h o
  arguments_loose l (then x s xs) g h o = arguments_loose l xs (argument_output l x g) h.1 (argument_loose l x g h.0 o)

  argument_loose : (l : Bool) (x : Element) (g : tree.Args) → IsElement l of_arguments x → Ordered g → Ordered (argument_output l x g)
  argument_loose l (argument n s e) g h o = put_ordered n.text (output l e) g (written_loose l e h.1) o
  argument_loose l (plain e) g h o = o
  argument_loose l (spread s e) g h o = o
  argument_loose l (pair x s t e) g h o = o

  items_loose : (l : Bool) (row : Row) → IsRow l of_items row → IsLooseRow of_items (items_row (items_output l row))
  items_loose l (ended s) h = tt
  items_loose l (only x s) h = item_loose l x tree.NoItems h tt
  items_loose l (then x s xs) h = item_loose l x (items_output l xs) h.0 (items_loose l xs h.1)

  item_loose : (l : Bool) (x : Element) (is : tree.Items) → IsElement l of_items x → IsLooseRow of_items (items_row is) →
      IsLooseRow of_items (items_row (item_output l x is))
  item_loose l (plain e) is h g = in_front_loose of_items (plain (tree_of (output l e))) (items_row is) refl (written_loose l e h.1) g
  item_loose l (spread s e) is h g = in_front_loose of_items (spread nowhere (tree_of (output l e))) (items_row is) refl (written_loose l e h.1) g
  item_loose l (pair x s t e) is h g = g
  item_loose l (argument n s e) is h g = g

  entries_loose : (l : Bool) (row : Row) → IsRow l of_entries row → LooseEntries (entries_output l row)
  entries_loose l (ended s) h = tt
  entries_loose l (only x s) h = entry_loose l x tree.NoEntries h tt
  entries_loose l (then x s xs) h = entry_loose l x (entries_output l xs) h.0 (entries_loose l xs h.1)

  entry_loose : (l : Bool) (x : Element) (es : tree.Entries) → IsElement l of_entries x → LooseEntries es → LooseEntries (entry_output l x es)
  entry_loose l (pair x s t e) es h g = (written_loose l e h.1, g)
  entry_loose l (spread s e) es h g = (written_loose l e h.1, g)
  entry_loose l (plain e) es h g = g
  entry_loose l (argument n s e) es h g = g

  attributes_loose : (l : Bool) (ats : Attributes) → AreAttributes l ats → AreLooseAttributes (attributes_of (attributes_output l ats))
  attributes_loose l no_attributes h = tt
  attributes_loose l (bare n ats) h =
      bare_loose n.text n.span (tree_of (tree.Var n.text n.span)) (attributes_of (attributes_output l ats)) (attributes_loose l ats h)
  attributes_loose l (quoted n s q t ats) h = attributes_loose l ats h
  attributes_loose l (valued n s b e c ats) h =
      attribute_loose n.text (output l e) (tree_of (output l e)) (attributes_of (attributes_output l ats)) (written_loose l e h.0) (attributes_loose l ats h.1)
  attributes_loose l (spreading b s e c ats) h = (written_loose l e h.0, attributes_loose l ats h.1)

  suffix_loose : (l : Bool) (start : Span) (e : Expr) (s : Suffix) → IsLoose (tree_of e) → IsSuffix l s →
      IsLoose (tree_of (suffix_output l start e s))
  suffix_loose l start e (Test s plainly w g) h x = (tt, h, (x.0, args_loose l g x.1))
  suffix_loose l start e (Test s (negated n) w g) h x = (tt, h, (tt, args_loose l g x.1))
  suffix_loose l start e (Filter s w g) h x = (tt, h, args_loose l g x)
  suffix_loose l start e (Subscript s b) h x = sub_loose l false e b x h

  args_loose : (l : Bool) (g : Args) → AreArgs l g → AreLooseArgs (args_of (args_output l g))
  args_loose l no_args h = tt
  args_loose l (args s row) h = ordered_args (arguments_output l row tree.NoArgs) (arguments_loose l row tree.NoArgs h.0 none_ordered)

-- what is written for the output of an expression is an expression
pub source_bound : (l : Bool) (t : Tree) → IsExpression l t → IsExpression false (source_tree (output l t))
source_bound l t h = (paren_fits (tree_of (output l t)) 0 0 false (written_loose l t h)).bound
