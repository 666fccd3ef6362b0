-- What is written for the output of an expression has no more links, so it is within the same limits.
use Rattle.std.proofs.Common.{◌≡◌, ℕ, suc, ◌+◌, ◌≤◌, zero-le, le_refl, Bool, true, false, cond, ◌||◌, List, Option, Some, None, bytes_eq, refl, sym, subst, arith}
use Rattle.std.specs.Prelude.{ltb, ℤ, pos, negsuc, neg_ℤ}
use Rattle.std.specs.Ordering.{nat_cmp}
use Rattle.std.specs.Cmp.Lexicographic.{slice_cmp}
use Rattle.tera_base.specs.declared.utils.Span.{Span}
use Rattle.tera_lexer.specs.code.Cursors.{nowhere}
use Rattle.tera_base.specs.Same.{key_eq}
use Rattle.tera_base.specs.Values as values
use Rattle.tera_ast.specs.Tree as tree
use Rattle.tera_base.specs.Values.{KeyVal, Val, Pairs}
use Rattle.tera_grammar.specs.expressions.Operators.{In}
use Rattle.tera_ast.specs.Tree.{Expr}
use Rattle.tera_grammar.specs.expressions.Concrete.{Name, Lit, Number, Quoted, Truth, Sign, Negative, Negates, Joint, plainly, negated, Single, NotIn, Tree, Atomic, Prefix, Suffixed, Infix, Atom, Literal, Null, Chain, Call, Paren, Array, Comprehension, Map, Component, Links, no_links, field, item, Sub, index, slice, Part, absent, present, Extra, no_extra, extra, Row, ended, only, then, Element, plain, spread, pair, argument, Attributes, no_attributes, bare, quoted, valued, spreading, Suffix, Test, Filter, Subscript, Args, no_args, args, Operator, Binary, Condition}
use Rattle.tera_grammar.specs.expressions.Spans.{spanning, sign_span, last, row_end}
use Rattle.tera_grammar.specs.expressions.Powers.{sign_power, left_power, right_power}
use Rattle.tera_grammar.specs.expressions.Measures.{Measure, measure, links, linking, atom_measure, links_measure, sub_measure, part_measure, extra_measure, row_measure, element_measure, attributes_measure, suffix_measure, args_measure, operator_measure, Within, openings, subscripts, arrays}
use Rattle.tera_grammar.specs.Limits.{Limits}
use Rattle.tera_grammar.specs.expressions.Conditions.{IsExpression}
use Rattle.tera_grammar.specs.expressions.Output.{literal_value, put_pair, put_arg, constant_entries, map_made, prefixed, is_optional_joint, is_optional_bracket, of_loop, field_output, output, links_output, sub_output, part_output, extra_output, arguments_output, argument_output, items_output, item_output, entries_output, entry_output, attributes_output, args_output}
use Rattle.tera_source.specs.Source.{word, key_literal, number_tree, in_front, value_tree, pairs_row, following, joint_for, bracket_for, with_field, with_sub, negation_of, attribute, tree_of, part_of, extra_of, arguments_row, args_of, items_row, entries_row, attributes_of, source_tree, asked, kept_out, paren, paren_atom, paren_links, paren_sub, paren_part, paren_extra, paren_row, paren_element, paren_attributes, paren_suffix, paren_args, paren_operator}
use Rattle.tera_source.proofs.Signs.{array_tree}
use Rattle.tera_spelling.specs.Given.{IsGiven}
use Rattle.tera_source.proofs.Holds.{Holds}
use Rattle.tera_source.proofs.Depths.{Weight, weighing, by_opening, by_subscript, by_array, openings_by, subscripts_by, arrays_by}
use Rattle.tera_source.proofs.Lower.{source_low}
use Rattle.tera_source.proofs.Sorted.{by_ordering}

-- Parentheses

links_cond : (b : Bool) (x y : Tree) (k : ℕ) → links x ≡ k → links y ≡ k → links (cond b x y) ≡ k
links_cond true x y k one two = one
links_cond false x y k one two = two

mutual
  pub paren_same : (m q : ℕ) (p : Bool) (t : Tree) → links (paren m q p t) ≡ links t
  paren_same m q p (Atomic a) = atom_same a
  paren_same m q p (Prefix s e) = links_cond (p || ltb (sign_power s) q) _ _ _ (paren_same (sign_power s) 0 true e) (paren_same (sign_power s) q true e)
  paren_same m q p (Suffixed a s) =
      let one = paren_same 0 (asked s) false a in
      let two = paren_same m (asked s) p a in
      let three = suffix_same s in links_cond (kept_out m s) _ _ _ (omega arith) (omega arith)
  paren_same m q p (Infix a o b) =
      let one = paren_same 0 (suc (left_power o)) false a in
      let two = paren_same m (suc (left_power o)) p a in
      let three = operator_same o in
      let four = paren_same (right_power o) 0 false b in
      let five = paren_same (right_power o) q false b in
      links_cond (ltb (left_power o) m || ltb (right_power o) q) _ _ _ (omega arith) (omega arith)

  atom_same : (a : Atom) → atom_measure linking (paren_atom a) ≡ atom_measure linking a
  atom_same (Literal x s) = refl
  atom_same (Null n) = refl
  atom_same (Chain n ls) = links_same ls
  atom_same (Call n s row) = row_same row
  atom_same (Paren s e t) = paren_same 0 0 false e
  atom_same (Array s row) = row_same row
  atom_same (Comprehension s e f n m i t g c) =
      let one = paren_same 0 0 false e in
      let two = paren_same 1 0 false t in
      let three = extra_same 1 g in omega arith
  atom_same (Map s row) = row_same row
  atom_same (Component s n ds ats t u) = attributes_same ats

  links_same : (ls : Links) → links_measure linking (paren_links ls) ≡ links_measure linking ls
  links_same no_links = refl
  links_same (field d n ls) = let one = links_same ls in omega arith
  links_same (item b s ls) = let one = sub_same s in let two = links_same ls in omega arith

  sub_same : (s : Sub) → sub_measure linking (paren_sub s) ≡ sub_measure linking s
  sub_same (index e c) = paren_same 0 0 false e
  sub_same (slice a s b x c) = let one = part_same a in let two = part_same b in let three = extra_same 0 x in omega arith

  part_same : (a : Part) → part_measure linking (paren_part a) ≡ part_measure linking a
  part_same absent = refl
  part_same (present e) = paren_same 0 0 false e

  extra_same : (m : ℕ) (x : Extra) → extra_measure linking (paren_extra m x) ≡ extra_measure linking x
  extra_same m no_extra = refl
  extra_same m (extra s e) = paren_same m 0 false e

  row_same : (row : Row) → row_measure linking (paren_row row) ≡ row_measure linking row
  row_same (ended s) = refl
  row_same (only x s) = element_same x
  row_same (then x s xs) = let one = element_same x in let two = row_same xs in omega arith

  element_same : (x : Element) → element_measure linking (paren_element x) ≡ element_measure linking x
  element_same (plain e) = paren_same 0 0 false e
  element_same (spread s e) = paren_same 0 0 false e
  element_same (pair x s t e) = paren_same 0 0 false e
  element_same (argument n s e) = paren_same 0 0 false e

  attributes_same : (ats : Attributes) → attributes_measure linking (paren_attributes ats) ≡ attributes_measure linking ats
  attributes_same no_attributes = refl
  attributes_same (bare n ats) = attributes_same ats
  attributes_same (quoted n s x t ats) = attributes_same ats
  attributes_same (valued n s b e c ats) = let one = paren_same 0 0 false e in let two = attributes_same ats in omega arith
  attributes_same (spreading b s e c ats) = let one = paren_same 0 0 false e in let two = attributes_same ats in omega arith

  suffix_same : (s : Suffix) → suffix_measure linking (paren_suffix s) ≡ suffix_measure linking s
  suffix_same (Test s n w g) = let one = args_same g in omega arith
  suffix_same (Filter s w g) = let one = args_same g in omega arith
  suffix_same (Subscript s b) = let one = sub_same b in omega arith

  args_same : (g : Args) → args_measure linking (paren_args g) ≡ args_measure linking g
  args_same no_args = refl
  args_same (args s row) = row_same row

  operator_same : (o : Operator) → operator_measure linking (paren_operator o) ≡ operator_measure linking o
  operator_same (Binary o) = refl
  operator_same (Condition s c t) = paren_same 0 0 false c

-- Rows

in_front_few : (x : Element) (row : Row) → row_measure linking (in_front x row) ≤ element_measure linking x + row_measure linking row
in_front_few x (ended s) = omega arith
in_front_few x (only y s) = omega arith
in_front_few x (then y s ys) = omega arith

abbrev arguments_links : tree.Args → ℕ
arguments_links tree.NoArgs = 0
arguments_links (tree.Arg n e g) = links (tree_of e) + arguments_links g

arguments_row_few : (g : tree.Args) → row_measure linking (arguments_row g) ≤ arguments_links g
arguments_row_few tree.NoArgs = zero-le
arguments_row_few (tree.Arg n e g) =
    let one = in_front_few (argument (word n) nowhere (tree_of e)) (arguments_row g) in
    let two = arguments_row_few g in omega arith

args_of_few : (g : tree.Args) → args_measure linking (args_of g) ≤ arguments_links g
args_of_few tree.NoArgs = zero-le
args_of_few (tree.Arg n e g) = arguments_row_few (tree.Arg n e g)

put_few : (n : List ℕ) (e : Expr) (g : tree.Args) → arguments_links (put_arg n e g) ≤ links (tree_of e) + arguments_links g
put_few n e tree.NoArgs = omega arith
put_few n e (tree.Arg k f rest) =
    by_ordering (λ g. arguments_links g ≤ links (tree_of e) + arguments_links (tree.Arg k f rest))
    (slice_cmp nat_cmp n k) (tree.Arg n e (tree.Arg k f rest)) (tree.Arg k e rest) (tree.Arg k f (put_arg n e rest))
    (λ o. omega arith) (λ o. omega arith) (λ o. let more = put_few n e rest in omega arith)

abbrev entries_links : tree.Entries → ℕ
entries_links tree.NoEntries = 0
entries_links (tree.Entry k e es) = links (tree_of e) + entries_links es
entries_links (tree.SpreadEntry e es) = links (tree_of e) + entries_links es

abbrev pairs_links : Pairs → ℕ
pairs_links values.NoPairs = 0
pairs_links (values.OnePair k v ps) = links (value_tree v) + pairs_links ps

entries_row_few : (es : tree.Entries) → row_measure linking (entries_row es) ≤ entries_links es
entries_row_few tree.NoEntries = zero-le
entries_row_few (tree.Entry k e es) =
    let one = in_front_few (pair (key_literal k) nowhere nowhere (tree_of e)) (entries_row es) in
    let two = entries_row_few es in omega arith
entries_row_few (tree.SpreadEntry e es) =
    let one = in_front_few (spread nowhere (tree_of e)) (entries_row es) in
    let two = entries_row_few es in omega arith

pairs_row_few : (ps : Pairs) → row_measure linking (pairs_row ps) ≤ pairs_links ps
pairs_row_few values.NoPairs = zero-le
pairs_row_few (values.OnePair k v ps) =
    let one = in_front_few (pair (key_literal k) nowhere nowhere (value_tree v)) (pairs_row ps) in
    let two = pairs_row_few ps in omega arith

pairs_cond_few : (b : Bool) (ps qs : Pairs) (k : ℕ) → pairs_links ps ≤ k → pairs_links qs ≤ k → pairs_links (cond b ps qs) ≤ k
pairs_cond_few true ps qs k h g = h
pairs_cond_few false ps qs k h g = g

put_pair_few : (k : KeyVal) (v : Val) (ps : Pairs) → pairs_links (put_pair k v ps) ≤ links (value_tree v) + pairs_links ps
put_pair_few k v values.NoPairs = omega arith
put_pair_few k v (values.OnePair j u ps) =
    let more = put_pair_few k v ps in
    pairs_cond_few (key_eq k j) (values.OnePair j v ps) (values.OnePair j u (put_pair k v ps)) _ (omega arith) (omega arith)

abbrev ConstantsFew : ℕ → Option Pairs → Type 0
ConstantsFew k None = Unit {0}
ConstantsFew k (Some ps) = pairs_links ps ≤ k

constants_few : (k : ℕ) (es : tree.Entries) (ps : Pairs) → entries_links es + pairs_links ps ≤ k → ConstantsFew k (constant_entries es ps)
constants_few k tree.NoEntries ps h = omega arith
constants_few k (tree.Entry j (tree.Const v s) es) ps h =
    let one = put_pair_few j v ps in constants_few k es (put_pair j v ps) (omega arith)
constants_few k _ ps h = tt

map_few : (k : ℕ) (es : tree.Entries) (span : Span) (o : Option Pairs) → entries_links es ≤ k → ConstantsFew k o → links (tree_of (map_made es span o)) ≤ k
map_few k es span None h p = let low = entries_row_few es in omega arith
map_few k es span (Some ps) h p = let low = pairs_row_few ps in omega arith

-- Links, subscripts, negations and attributes

after_few : (ls more : Links) → links_measure linking (following ls more) ≡ links_measure linking ls + links_measure linking more
after_few no_links more = omega arith
after_few (field d n ls) more = let low = after_few ls more in omega arith
after_few (item b s ls) more = let low = after_few ls more in omega arith

with_field_few : (t : Tree) (o : Bool) (n : List ℕ) → links (with_field t o n) ≤ suc (links t)
with_field_few (Atomic (Chain v ls)) o n = let one = after_few ls (field (joint_for o) (word n) no_links) in omega arith
with_field_few _ o n = omega arith

with_sub_few : (t : Tree) (o : Bool) (s : Sub) → links (with_sub t o s) ≤ links t + suc (sub_measure linking s)
with_sub_few (Atomic (Chain v ls)) o s = let low = after_few ls (item (bracket_for o) s no_links) in omega arith
with_sub_few _ o s = omega arith

field_few : (c : Bool) (e : Expr) (d : Joint) (n : Name) → links (tree_of (field_output c e d n)) ≤ suc (links (tree_of e))
field_few true e d n = zero-le
field_few false e d n = with_field_few (tree_of e) (is_optional_joint d) n.text

negation_few : (t : Tree) → links (negation_of t) ≡ links t
negation_few (Suffixed a (Test s plainly v g)) = refl
negation_few (Infix a (Binary (Single In s)) b) = refl
negation_few _ = refl

number_few : (k : ℤ) → links (number_tree k) ≤ 0
number_few (pos n) = zero-le
number_few (negsuc n) = zero-le

prefix_few : (s : Sign) (e : Expr) (span : Span) → links (tree_of (prefixed s e span)) ≤ links (tree_of e)
prefix_few (Negative s) (tree.Const (values.I64 n) t) span = let low = number_few (neg_ℤ n) in omega arith
prefix_few (Negative s) _ span = le_refl _
prefix_few (Negates s) e span = let same = negation_few (tree_of e) in omega arith

attributes_cond : (b : Bool) (x y : Attributes) (k : ℕ) → attributes_measure linking x ≤ k → attributes_measure linking y ≤ k → attributes_measure linking (cond b x y) ≤ k
attributes_cond true x y k h g = h
attributes_cond false x y k h g = g

attribute_few : (n : List ℕ) (e : Expr) (t : Tree) (ats : Attributes) → attributes_measure linking (attribute n e t ats) ≤ links t + attributes_measure linking ats
attribute_few n (tree.Var v s) t ats =
    attributes_cond (bytes_eq n v) (bare (word n) ats) (valued (word n) nowhere nowhere t nowhere ats) _ (omega arith) (omega arith)
attribute_few n (tree.Const (values.Text text) s) t ats = omega arith
attribute_few n _ t ats = omega arith

value_few : (x : Lit) (s : Span) → links (tree_of (tree.Const (literal_value x) s)) ≤ 0
value_few (Number n) s = number_few n
value_few (Quoted q) s = zero-le
value_few (Truth b) s = zero-le

mutual
  pub written_few : (l : Bool) (t : Tree) → links (tree_of (output l t)) ≤ links t
  written_few l (Atomic a) = atom_few l a
  written_few l (Prefix s e) =
      let one = prefix_few s (output l e) (spanning (sign_span s) (last e)) in let two = written_few l e in omega arith
  written_few l (Suffixed a (Test s plainly v g)) = let one = written_few l a in let two = args_few l g in omega arith
  written_few l (Suffixed a (Test s (negated u) v g)) = let one = written_few l a in let two = args_few l g in omega arith
  written_few l (Suffixed a (Filter s v g)) = let one = written_few l a in let two = args_few l g in omega arith
  written_few l (Suffixed a (Subscript s b)) = let one = written_few l a in let two = sub_few l false (output l a) b in omega arith
  written_few l (Infix a (Binary (Single o s)) b) = let one = written_few l a in let two = written_few l b in omega arith
  written_few l (Infix a (Binary (NotIn s t)) b) = let one = written_few l a in let two = written_few l b in omega arith
  written_few l (Infix a (Condition s c t) b) =
      let one = written_few l a in let two = written_few l b in let three = written_few l c in omega arith

  atom_few : (l : Bool) (a : Atom) → links (tree_of (output l (Atomic a))) ≤ atom_measure linking a
  atom_few l (Literal x s) = value_few x s
  atom_few l (Null v) = zero-le
  atom_few l (Chain v ls) = let low = links_few l (of_loop l v) (tree.Var v.text v.span) ls in omega arith
  atom_few l (Call v s row) =
      let one = arguments_row_few (arguments_output l row tree.NoArgs) in
      let two = arguments_few l row tree.NoArgs in omega arith
  atom_few l (Paren s e t) = written_few l e
  atom_few l (Array s row) =
      subst (λ t. links t ≤ atom_measure linking (Array s row)) (sym (array_tree (items_output l row) (spanning s (row_end row)))) (items_few l row)
  atom_few l (Comprehension s e f v u i t g c) =
      let one = written_few l e in let two = written_few l t in let three = extra_few l g in omega arith
  atom_few l (Map s row) =
      let es = entries_few l row in
      map_few (row_measure linking row) (entries_output l row) (spanning s (row_end row)) (constant_entries (entries_output l row) values.NoPairs) es
      (constants_few (row_measure linking row) (entries_output l row) values.NoPairs (omega arith))
  atom_few l (Component s v ds ats t u) = attributes_few l ats

  links_few : (l c : Bool) (e : Expr) (ls : Links) → links (tree_of (links_output l c e ls)) ≤ links (tree_of e) + links_measure linking ls
  links_few l c e no_links = omega arith
  links_few l c e (field d v ls) =
      let one = field_few c e d v in let two = links_few l c (field_output c e d v) ls in omega arith
  links_few l c e (item b s ls) =
      let one = sub_few l (is_optional_bracket b) e s in
      let two = links_few l c (sub_output l (is_optional_bracket b) e s) ls in omega arith

  sub_few : (l o : Bool) (e : Expr) (s : Sub) → links (tree_of (sub_output l o e s)) ≤ links (tree_of e) + suc (sub_measure linking s)
  sub_few l o e (index i c) =
      let one = written_few l i in let two = with_sub_few (tree_of e) o (index (tree_of (output l i)) nowhere) in omega arith
  sub_few l o e (slice a s b x c) =
      let one = part_few l a in
      let two = part_few l b in
      let three = extra_few l x in
      let four = with_sub_few (tree_of e) o (slice (part_of (part_output l a)) nowhere (part_of (part_output l b)) (extra_of (extra_output l x)) nowhere) in
      omega arith

  part_few : (l : Bool) (a : Part) → part_measure linking (part_of (part_output l a)) ≤ part_measure linking a
  part_few l absent = zero-le
  part_few l (present e) = written_few l e

  extra_few : (l : Bool) (x : Extra) → extra_measure linking (extra_of (extra_output l x)) ≤ extra_measure linking x
  extra_few l no_extra = zero-le
  extra_few l (extra s e) = written_few l e

  arguments_few : (l : Bool) (row : Row) (g : tree.Args) → arguments_links (arguments_output l row g) ≤ row_measure linking row + arguments_links g
  arguments_few l (ended s) g = omega arith
  arguments_few l (only x s) g = argument_few l x g
  arguments_few l (then x s xs) g =
      let one = argument_few l x g in let two = arguments_few l xs (argument_output l x g) in omega arith

  argument_few : (l : Bool) (x : Element) (g : tree.Args) → arguments_links (argument_output l x g) ≤ element_measure linking x + arguments_links g
  argument_few l (argument v s e) g = let one = written_few l e in let two = put_few v.text (output l e) g in omega arith
  argument_few l (plain e) g = omega arith
  argument_few l (spread s e) g = omega arith
  argument_few l (pair x s t e) g = omega arith

  items_few : (l : Bool) (row : Row) → row_measure linking (items_row (items_output l row)) ≤ row_measure linking row
  items_few l (ended s) = zero-le
  items_few l (only x s) = let one = item_few l x tree.NoItems in omega arith
  items_few l (then x s xs) = let one = item_few l x (items_output l xs) in let two = items_few l xs in omega arith

  item_few : (l : Bool) (x : Element) (is : tree.Items) → row_measure linking (items_row (item_output l x is)) ≤ element_measure linking x + row_measure linking (items_row is)
  item_few l (plain e) is = let one = written_few l e in let two = in_front_few (plain (tree_of (output l e))) (items_row is) in omega arith
  item_few l (spread s e) is = let one = written_few l e in let two = in_front_few (spread nowhere (tree_of (output l e))) (items_row is) in omega arith
  item_few l (pair x s t e) is = omega arith
  item_few l (argument v s e) is = omega arith

  entries_few : (l : Bool) (row : Row) → entries_links (entries_output l row) ≤ row_measure linking row
  entries_few l (ended s) = zero-le
  entries_few l (only x s) = let one = entry_few l x tree.NoEntries in omega arith
  entries_few l (then x s xs) = let one = entry_few l x (entries_output l xs) in let two = entries_few l xs in omega arith

  entry_few : (l : Bool) (x : Element) (es : tree.Entries) → entries_links (entry_output l x es) ≤ element_measure linking x + entries_links es
  entry_few l (pair x s t e) es = let one = written_few l e in omega arith
  entry_few l (spread s e) es = let one = written_few l e in omega arith
  entry_few l (plain e) es = omega arith
  entry_few l (argument v s e) es = omega arith

  attributes_few : (l : Bool) (ats : Attributes) → attributes_measure linking (attributes_of (attributes_output l ats)) ≤ attributes_measure linking ats
  attributes_few l no_attributes = zero-le
  attributes_few l (bare v ats) =
      let one = attribute_few v.text (tree.Var v.text v.span) (tree_of (tree.Var v.text v.span)) (attributes_of (attributes_output l ats)) in
      let two = attributes_few l ats in omega arith
  attributes_few l (quoted v s x t ats) = attributes_few l ats
  attributes_few l (valued v s b e c ats) =
      let one = attribute_few v.text (output l e) (tree_of (output l e)) (attributes_of (attributes_output l ats)) in
      let two = written_few l e in
      let three = attributes_few l ats in omega arith
  attributes_few l (spreading b s e c ats) = let two = written_few l e in let three = attributes_few l ats in omega arith

  args_few : (l : Bool) (g : Args) → args_measure linking (args_of (args_output l g)) ≤ args_measure linking g
  args_few l no_args = zero-le
  args_few l (args s row) =
      let one = args_of_few (arguments_output l row tree.NoArgs) in let two = arguments_few l row tree.NoArgs in omega arith

pub source_few : (l : Bool) (t : Tree) → links (source_tree (output l t)) ≤ links t
source_few l t = let one = paren_same 0 0 false (tree_of (output l t)) in let two = written_few l t in omega arith

-- what is written for the output of an expression is within the limits of the expression
pub source_within : (limits : Limits) (l : Bool) (t : Tree) → Holds IsGiven t → IsExpression l t → Within limits t → Within limits (source_tree (output l t))
source_within limits l t n h w =
    let few = source_few l t in
    let high = low openings by_opening openings_by in
    let nested = low subscripts by_subscript subscripts_by in
    let arrayed = low arrays by_array arrays_by in
    let one = w.depth in
    let two = w.few_links in
    let three = w.few_subscripts in
    let four = w.few_arrays in
    record { depth = omega arith; few_links = omega arith; few_subscripts = omega arith; few_arrays = omega arith }
  where
    low : (m : Measure) (w : Weight) → weighing w ≡ m → measure m (source_tree (output l t)) ≤ measure m t
    low m w same = subst (λ m. measure m (source_tree (output l t)) ≤ measure m t) same (source_low w l t n h)
