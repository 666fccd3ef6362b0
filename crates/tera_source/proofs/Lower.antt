-- What is written for the output of an expression weighs no more than the expression.
use Rattle.std.proofs.Common.{◌≡◌, ℕ, suc, ◌+◌, ◌≤◌, zero-le, le_refl, max, Bool, true, false, cond, List, [], ◌∷◌, Option, Some, None, bytes_eq, refl, sym, subst, arith, le-ltb}
use Rattle.std.specs.Prelude.{pos, negsuc}
use Rattle.std.specs.List.{AllByRecursion}
use Rattle.std.specs.Ordering.{nat_cmp}
use Rattle.std.specs.Cmp.Lexicographic.{slice_cmp}
use Rattle.tera_base.specs.declared.utils.Span.{Span}
use Rattle.tera_lexer.specs.code.Cursors.{nowhere}
use Rattle.tera_base.specs.Same.{key_eq}
use Rattle.tera_base.specs.Values as values
use Rattle.tera_ast.specs.Tree as tree
use Rattle.tera_base.specs.Values.{KeyVal, Val, Pairs}
use Rattle.tera_ast.specs.Tree.{Expr}
use Rattle.tera_grammar.specs.expressions.Concrete.{Name, Lit, Number, Quoted, Truth, Joint, plainly, negated, Single, NotIn, Kind, of_arguments, of_items, of_entries, Tree, Atomic, Prefix, Suffixed, Infix, Atom, Literal, Null, Chain, Call, Paren, Array, Comprehension, Map, Component, Links, no_links, field, item, Sub, index, slice, Part, absent, present, Extra, no_extra, extra, Row, ended, only, then, Element, plain, spread, pair, argument, Attributes, no_attributes, bare, quoted, valued, spreading, Test, Filter, Subscript, Args, no_args, args, Binary, Condition, literal_token}
use Rattle.tera_grammar.specs.expressions.Spans.{spanning, sign_span, first, last, row_end}
use Rattle.tera_grammar.specs.expressions.Powers.{sign_power, left_power, right_power, AtLeast, BeginsPlain}
use Rattle.tera_source.proofs.Depths.{Weight, deep, atom_deep, links_deep, sub_deep, part_deep, extra_deep, row_deep, element_deep, attributes_deep, args_deep}
use Rattle.tera_grammar.specs.expressions.Conditions.{IsExpression, IsAtom, AreLinks, IsSub, IsPart, IsExtra, IsRow, IsElement, AreAttributes, AreArgs}
use Rattle.tera_grammar.specs.expressions.Output.{literal_value, put_pair, put_arg, constant_entries, map_made, is_optional_joint, is_optional_bracket, of_loop, field_output, output, links_output, sub_output, part_output, extra_output, arguments_output, argument_output, items_output, item_output, entries_output, entry_output, attributes_output, args_output}
use Rattle.tera_source.specs.Source.{word, key_literal, in_front, value_tree, pairs_row, following, joint_for, bracket_for, with_field, with_sub, attribute, tree_of, part_of, extra_of, arguments_row, args_of, items_row, entries_row, attributes_of, source_tree, paren, paren_links, paren_sub, paren_part, paren_extra, paren_row, paren_element, paren_attributes, paren_args}
use Rattle.std.proofs.lemmas.Slice.Eq.{bytes_eq-Decides}
use Rattle.tera_source.proofs.Signs.{array_tree, infix_tree}
use Rattle.tera_spelling.specs.Given.{IsGiven}
use Rattle.tera_source.proofs.Holds.{Holds, HoldsAtom, HoldsLinks, HoldsSub, HoldsPart, HoldsExtra, HoldsRow, HoldsElement, HoldsAttributes, HoldsArgs}
use Rattle.tera_source.proofs.Heights.{close, prefix_low}
use Rattle.tera_source.proofs.Loose.{RightAtLeast, PlainIf}
use Rattle.tera_source.proofs.Sorted.{by_ordering}

at_zero : (rs : List ℕ) → AllByRecursion (λ r. 0 ≤ r) rs
at_zero [] = tt
at_zero (r ∷ rs) = (zero-le, at_zero rs)

plain_of : (p : Bool) (t u : Tree) → (BeginsPlain t → BeginsPlain u) → PlainIf p t → PlainIf p u
plain_of true t u f h = f h
plain_of false t u f h = tt

-- in any context
abbrev LowIn : Weight → Tree → ℕ → Type 0
LowIn w t k = (m q : ℕ) (p : Bool) → deep w (paren m q p t) ≤ k

-- Rows

in_front_low : (w : Weight) (x : Element) (row : Row) → row_deep w (paren_row (in_front x row)) ≤ max (element_deep w (paren_element x)) (row_deep w (paren_row row))
in_front_low w x (ended s) = omega arith
in_front_low w x (only y s) = omega arith
in_front_low w x (then y s ys) = omega arith

abbrev arguments_deep : Weight → tree.Args → ℕ
arguments_deep w tree.NoArgs = 0
arguments_deep w (tree.Arg n e g) = max (deep w (paren 0 0 false (tree_of e)) + w.opening) (arguments_deep w g)

arguments_row_low : (w : Weight) (g : tree.Args) → row_deep w (paren_row (arguments_row g)) ≤ arguments_deep w g
arguments_row_low w tree.NoArgs = zero-le
arguments_row_low w (tree.Arg n e g) =
    let one = in_front_low w (argument (word n) nowhere (tree_of e)) (arguments_row g) in
    let two = arguments_row_low w g in omega arith

args_of_low : (w : Weight) (g : tree.Args) → args_deep w (paren_args (args_of g)) ≤ arguments_deep w g
args_of_low w tree.NoArgs = zero-le
args_of_low w (tree.Arg n e g) = arguments_row_low w (tree.Arg n e g)

put_low : (w : Weight) (n : List ℕ) (e : Expr) (g : tree.Args) → arguments_deep w (put_arg n e g) ≤ max (deep w (paren 0 0 false (tree_of e)) + w.opening) (arguments_deep w g)
put_low w n e tree.NoArgs = omega arith
put_low w n e (tree.Arg k f rest) =
    by_ordering (λ g. arguments_deep w g ≤ max (deep w (paren 0 0 false (tree_of e)) + w.opening) (arguments_deep w (tree.Arg k f rest)))
    (slice_cmp nat_cmp n k) (tree.Arg n e (tree.Arg k f rest)) (tree.Arg k e rest) (tree.Arg k f (put_arg n e rest))
    (λ o. omega arith) (λ o. omega arith) (λ o. let more = put_low w n e rest in omega arith)

abbrev entries_deep : Weight → tree.Entries → ℕ
entries_deep w tree.NoEntries = 0
entries_deep w (tree.Entry k e es) = max (deep w (paren 0 0 false (tree_of e)) + w.opening) (entries_deep w es)
entries_deep w (tree.SpreadEntry e es) = max (deep w (paren 0 0 false (tree_of e)) + w.opening) (entries_deep w es)

abbrev pairs_deep : Weight → Pairs → ℕ
pairs_deep w values.NoPairs = 0
pairs_deep w (values.OnePair k v ps) = max (deep w (paren 0 0 false (value_tree v)) + w.opening) (pairs_deep w ps)

entries_row_low : (w : Weight) (es : tree.Entries) → row_deep w (paren_row (entries_row es)) ≤ entries_deep w es
entries_row_low w tree.NoEntries = zero-le
entries_row_low w (tree.Entry k e es) =
    let one = in_front_low w (pair (key_literal k) nowhere nowhere (tree_of e)) (entries_row es) in
    let two = entries_row_low w es in omega arith
entries_row_low w (tree.SpreadEntry e es) =
    let one = in_front_low w (spread nowhere (tree_of e)) (entries_row es) in
    let two = entries_row_low w es in omega arith

pairs_row_low : (w : Weight) (ps : Pairs) → row_deep w (paren_row (pairs_row ps)) ≤ pairs_deep w ps
pairs_row_low w values.NoPairs = zero-le
pairs_row_low w (values.OnePair k v ps) =
    let one = in_front_low w (pair (key_literal k) nowhere nowhere (value_tree v)) (pairs_row ps) in
    let two = pairs_row_low w ps in omega arith

pairs_cond_low : (w : Weight) (b : Bool) (ps qs : Pairs) (k : ℕ) → pairs_deep w ps ≤ k → pairs_deep w qs ≤ k → pairs_deep w (cond b ps qs) ≤ k
pairs_cond_low w true ps qs k h g = h
pairs_cond_low w false ps qs k h g = g

put_pair_low : (w : Weight) (k : KeyVal) (v : Val) (ps : Pairs) → pairs_deep w (put_pair k v ps) ≤ max (deep w (paren 0 0 false (value_tree v)) + w.opening) (pairs_deep w ps)
put_pair_low w k v values.NoPairs = omega arith
put_pair_low w k v (values.OnePair j u ps) =
    let more = put_pair_low w k v ps in
    pairs_cond_low w (key_eq k j) (values.OnePair j v ps) (values.OnePair j u (put_pair k v ps)) _ (omega arith) (omega arith)

abbrev ConstantsLow : Weight → ℕ → Option Pairs → Type 0
ConstantsLow w k None = Unit {0}
ConstantsLow w k (Some ps) = pairs_deep w ps ≤ k

constants_low : (w : Weight) (k : ℕ) (es : tree.Entries) (ps : Pairs) → entries_deep w es ≤ k → pairs_deep w ps ≤ k → ConstantsLow w k (constant_entries es ps)
constants_low w k tree.NoEntries ps h p = p
constants_low w k (tree.Entry j (tree.Const v s) es) ps h p =
    let one = put_pair_low w j v ps in constants_low w k es (put_pair j v ps) (omega arith) (omega arith)
constants_low w k _ ps h p = tt

map_low : (w : Weight) (k : ℕ) (es : tree.Entries) (span : Span) (o : Option Pairs) → entries_deep w es ≤ k → ConstantsLow w k o → LowIn w (tree_of (map_made es span o)) k
map_low w k es span None h p m q b = let low = entries_row_low w es in omega arith
map_low w k es span (Some ps) h p m q b = let low = pairs_row_low w ps in omega arith

-- Links and subscripts

after_low : (w : Weight) (ls more : Links) → links_deep w (paren_links (following ls more)) ≤ max (links_deep w (paren_links ls)) (links_deep w (paren_links more))
after_low w no_links more = omega arith
after_low w (field d n ls) more = after_low w ls more
after_low w (item b s ls) more = let low = after_low w ls more in omega arith

with_field_low : (w : Weight) (t : Tree) (o : Bool) (n : List ℕ) (k : ℕ) → LowIn w t k → LowIn w (with_field t o n) k
with_field_low w (Atomic (Chain v ls)) o n k h m q p =
    let one = after_low w ls (field (joint_for o) (word n) no_links) in let two = h m q p in omega arith
with_field_low w _ o n k h m q p = h m q p

with_sub_low : (w : Weight) (t : Tree) (o : Bool) (s : Sub) (h k m q : ℕ) (p : Bool) → deep w (paren m 21 p t) ≤ h → sub_deep w (paren_sub s) ≤ k →
    deep w (paren m q p (with_sub t o s)) ≤ max h (k + w.subscript)
with_sub_low w (Atomic (Chain v ls)) o s h k m q p one two = let low = after_low w ls (item (bracket_for o) s no_links) in omega arith
with_sub_low w _ o s h k m q p one two = omega arith

field_low : (w : Weight) (c : Bool) (e : Expr) (d : Joint) (n : Name) (k : ℕ) → LowIn w (tree_of e) k → LowIn w (tree_of (field_output c e d n)) k
field_low w true e d n k h m q p = zero-le
field_low w false e d n k h m q p = with_field_low w (tree_of e) (is_optional_joint d) n.text k h m q p

-- Attributes

attributes_cond : (w : Weight) (b : Bool) (x y : Attributes) (k : ℕ) → attributes_deep w (paren_attributes x) ≤ k → attributes_deep w (paren_attributes y) ≤ k →
    attributes_deep w (paren_attributes (cond b x y)) ≤ k
attributes_cond w true x y k h g = h
attributes_cond w false x y k h g = g

attribute_low : (w : Weight) (n : List ℕ) (e : Expr) (t : Tree) (ats : Attributes) →
    attributes_deep w (paren_attributes (attribute n e t ats)) ≤ max (deep w (paren 0 0 false t) + w.opening) (attributes_deep w (paren_attributes ats))
attribute_low w n (tree.Var v s) t ats =
    attributes_cond w (bytes_eq n v) (bare (word n) ats) (valued (word n) nowhere nowhere t nowhere ats) _ (omega arith) (omega arith)
attribute_low w n (tree.Const (values.Text text) s) t ats = omega arith
attribute_low w n _ t ats = omega arith

bare_low : (w : Weight) (n : List ℕ) (s : Span) (t : Tree) (ats : Attributes) → attributes_deep w (paren_attributes (attribute n (tree.Var n s) t ats)) ≤ attributes_deep w (paren_attributes ats)
bare_low w n s t ats =
    let same : bytes_eq n n ≡ true = (bytes_eq-Decides n n).1 refl in
    subst (λ b. attributes_deep w (paren_attributes (cond b (bare (word n) ats) (valued (word n) nowhere nowhere t nowhere ats))) ≤ attributes_deep w (paren_attributes ats)) (sym same) (le_refl _)

value_low : (w : Weight) (x : Lit) (s : Span) → IsGiven (literal_token x) → LowIn w (tree_of (tree.Const (literal_value x) s)) 0
value_low w (Number (pos n)) s h m q p = zero-le
value_low w (Number (negsuc n)) s (k, is, small) m q p = cc
value_low w (Quoted r) s h m q p = zero-le
value_low w (Truth b) s h m q p = zero-le

mutual
  pub written_low : (w : Weight) (l : Bool) (t : Tree) (m q : ℕ) (p : Bool) → Holds IsGiven t → IsExpression l t → AtLeast m t → RightAtLeast q t → PlainIf p t →
      deep w (paren m q p (tree_of (output l t))) ≤ deep w t
  written_low w l (Atomic a) m q p n h left right free = atom_low w l a n h m q p
  written_low w l (Prefix s e) m q true n h left right free = absurd free
  written_low w l (Prefix s e) m q false n h left right free =
      prefix_low w s (output l e) (spanning (sign_span s) (last e)) (deep w e) m q right.0
      (written_low w l e 0 0 false n h.2 (at_zero _) (at_zero _) tt) (written_low w l e (sign_power s) q true n h.2 h.0 right.1 h.1)
  written_low w l (Suffixed a (Test s plainly v g)) m q p n h left right free =
      let one = written_low w l a m 6 p n.0 h.1 left.1 h.0 (plain_of p (Suffixed a (Test s plainly v g)) a (λ x. x) free) in
      let two = args_low w l g n.1.1 h.2.1 in rw (le-ltb 5 m left.0) (omega arith)
  written_low w l (Suffixed a (Test s (negated u) v g)) m q p n h left right free =
      let one = written_low w l a m 6 p n.0 h.1 left.1 h.0 (plain_of p (Suffixed a (Test s (negated u) v g)) a (λ x. x) free) in
      let two = args_low w l g n.1.1 h.2.1 in rw (le-ltb 5 m left.0) (omega arith)
  written_low w l (Suffixed a (Filter s v g)) m q p n h left right free =
      let one = written_low w l a m 18 p n.0 h.1 left.1 h.0 (plain_of p (Suffixed a (Filter s v g)) a (λ x. x) free) in
      let two = args_low w l g n.1.1 h.2 in rw (le-ltb 17 m left.0) (omega arith)
  written_low w l (Suffixed a (Subscript s b)) m q p n h left right free =
      let one = written_low w l a m 21 p n.0 h.1 left (subst (λ rs. AllByRecursion (λ r. 21 ≤ r) rs) (sym h.0.0) tt)
      (plain_of p (Suffixed a (Subscript s b)) a (λ x. x) free) in
      sub_low w l false (output l a) b n.1 h.2 (deep w a) m q p one
  written_low w l (Infix a (Binary (Single o s)) b) m q p n h left right free =
      let one = written_low w l a m (suc (left_power (Binary (Single o s)))) p n.0 h.3 left.1 h.0 (plain_of p (Infix a (Binary (Single o s)) b) a (λ x. x) free) in
      let two = written_low w l b (right_power (Binary (Single o s))) q false n.2 h.5 h.1 right.1 tt in
      subst (λ x. deep w (paren m q p x) ≤ deep w (Infix a (Binary (Single o s)) b)) (sym (infix_tree o (output l a) (output l b) (spanning (first a) (last b))))
      (rw (le-ltb (left_power (Binary (Single o s))) m left.0, le-ltb (right_power (Binary (Single o s))) q right.0) (omega arith))
  written_low w l (Infix a (Binary (NotIn s t)) b) m q p n h left right free =
      let one = written_low w l a m 6 p n.0 h.3 left.1 h.0 (plain_of p (Infix a (Binary (NotIn s t)) b) a (λ x. x) free) in
      let two = written_low w l b 6 q false n.2 h.5 h.1 right.1 tt in
      rw (le-ltb 5 m left.0, le-ltb 6 q right.0) (omega arith)
  written_low w l (Infix a (Condition s c t) b) m q p n h left right free =
      let one = written_low w l a m 1 p n.0 h.3 left.1 h.0 (plain_of p (Infix a (Condition s c t) b) a (λ x. x) free) in
      let two = written_low w l b 0 q false n.2 h.5 h.1 right.1 tt in
      let three = written_low w l c 0 0 false n.1 h.4 (at_zero _) (at_zero _) tt in
      rw (le-ltb 0 m left.0, le-ltb 0 q right.0) (omega arith)

  atom_low : (w : Weight) (l : Bool) (a : Atom) → HoldsAtom IsGiven a → IsAtom l a → LowIn w (tree_of (output l (Atomic a))) (atom_deep w a)
  atom_low w l (Literal x s) n h m q p = value_low w x s n m q p
  atom_low w l (Null v) n h m q p = zero-le
  atom_low w l (Chain v ls) n h m q p =
      let low = links_low w l (of_loop l v) (tree.Var v.text v.span) ls n.1 h.1 0 (λ i j b. zero-le) m q p in omega arith
  atom_low w l (Call v s row) n h m q p =
      let one = arguments_row_low w (arguments_output l row tree.NoArgs) in
      let two = arguments_low w l row tree.NoArgs n.1 h.1 in omega arith
  atom_low w l (Paren s e t) n h m q p =
      let one = (close w (tree_of (output l e)) m q 0 0 p false).0 in
      let two = written_low w l e 0 0 false n h (at_zero _) (at_zero _) tt in omega arith
  atom_low w l (Array s row) n h m q p =
      let one = items_low w l row n h in
      subst (λ t. deep w (paren m q p t) ≤ atom_deep w (Array s row)) (sym (array_tree (items_output l row) (spanning s (row_end row)))) (omega arith)
  atom_low w l (Comprehension s e f v u i t g c) n h m q p =
      let one = written_low w l e 0 0 false n.0 h.2 (at_zero _) (at_zero _) tt in
      let two = written_low w l t 1 0 false n.1 h.3 h.1 (at_zero _) tt in
      let three = extra_low w l 1 g n.2 h.4 in omega arith
  atom_low w l (Map s row) n h m q p =
      let es = entries_low w l row n h in
      map_low w (row_deep w row) (entries_output l row) (spanning s (row_end row)) (constant_entries (entries_output l row) values.NoPairs) es
      (constants_low w (row_deep w row) (entries_output l row) values.NoPairs es zero-le) m q p
  atom_low w l (Component s v ds ats t u) n h m q p = attributes_low w l ats n.0 h

  links_low : (w : Weight) (l c : Bool) (e : Expr) (ls : Links) → HoldsLinks IsGiven ls → AreLinks l c ls → (k : ℕ) → LowIn w (tree_of e) k →
      LowIn w (tree_of (links_output l c e ls)) (max k (links_deep w ls))
  links_low w l c e no_links n h k low m q p = let one = low m q p in omega arith
  links_low w l c e (field d v ls) n h k low m q p = links_low w l c (field_output c e d v) ls n.1 h.1 k (field_low w c e d v k low) m q p
  links_low w l c e (item b s ls) n h k low m q p =
      let one = links_low w l c (sub_output l (is_optional_bracket b) e s) ls n.1 h.1 (max k (sub_deep w s + w.subscript))
      (λ i j r. sub_low w l (is_optional_bracket b) e s n.0 h.0 k i j r (low i 21 r)) m q p in omega arith

  sub_low : (w : Weight) (l o : Bool) (e : Expr) (s : Sub) → HoldsSub IsGiven s → IsSub l s → (k m q : ℕ) (p : Bool) → deep w (paren m 21 p (tree_of e)) ≤ k →
      deep w (paren m q p (tree_of (sub_output l o e s))) ≤ max k (sub_deep w s + w.subscript)
  sub_low w l o e (index i c) n h k m q p low =
      let one = written_low w l i 0 0 false n h (at_zero _) (at_zero _) tt in
      with_sub_low w (tree_of e) o (index (tree_of (output l i)) nowhere) k (sub_deep w (index i c)) m q p low (omega arith)
  sub_low w l o e (slice a s b x c) n h k m q p low =
      let one = part_low w l a n.0 h.0 in
      let two = part_low w l b n.1 h.1 in
      let three = extra_low w l 0 x n.2 h.2 in
      with_sub_low w (tree_of e) o (slice (part_of (part_output l a)) nowhere (part_of (part_output l b)) (extra_of (extra_output l x)) nowhere)
      k (sub_deep w (slice a s b x c)) m q p low (omega arith)

  part_low : (w : Weight) (l : Bool) (a : Part) → HoldsPart IsGiven a → IsPart l a → part_deep w (paren_part (part_of (part_output l a))) ≤ part_deep w a
  part_low w l absent n h = zero-le
  part_low w l (present e) n h = let one = written_low w l e 0 0 false n h (at_zero _) (at_zero _) tt in omega arith

  extra_low : (w : Weight) (l : Bool) (m : ℕ) (x : Extra) → HoldsExtra IsGiven x → IsExtra l m x →
      extra_deep w (paren_extra m (extra_of (extra_output l x))) ≤ extra_deep w x
  extra_low w l m no_extra n h = zero-le
  extra_low w l m (extra s e) n h = let one = written_low w l e m 0 false n h.1 h.0 (at_zero _) tt in omega arith

  arguments_low : (w : Weight) (l : Bool) (row : Row) (g : tree.Args) → HoldsRow IsGiven row → IsRow l of_arguments row →
      arguments_deep w (arguments_output l row g) ≤ max (row_deep w row) (arguments_deep w g)
  arguments_low w l (ended s) g n h = omega arith
  arguments_low w l (only x s) g n h = argument_low w l of_arguments x g n h
  arguments_low w l (then x s xs) g n h =
      let one = argument_low w l of_arguments x g n.0 h.0 in
      let two = arguments_low w l xs (argument_output l x g) n.1 h.1 in omega arith

  argument_low : (w : Weight) (l : Bool) (k : Kind) (x : Element) (g : tree.Args) → HoldsElement IsGiven x → IsElement l k x →
      arguments_deep w (argument_output l x g) ≤ max (element_deep w x) (arguments_deep w g)
  argument_low w l k (argument v s e) g n h =
      let one = written_low w l e 0 0 false n.1 h.1 (at_zero _) (at_zero _) tt in
      let two = put_low w v.text (output l e) g in omega arith
  argument_low w l k (plain e) g n h = omega arith
  argument_low w l k (spread s e) g n h = omega arith
  argument_low w l k (pair x s t e) g n h = omega arith

  items_low : (w : Weight) (l : Bool) (row : Row) → HoldsRow IsGiven row → IsRow l of_items row → row_deep w (paren_row (items_row (items_output l row))) ≤ row_deep w row
  items_low w l (ended s) n h = zero-le
  items_low w l (only x s) n h = let one = item_low w l of_items x tree.NoItems n h in omega arith
  items_low w l (then x s xs) n h =
      let one = item_low w l of_items x (items_output l xs) n.0 h.0 in
      let two = items_low w l xs n.1 h.1 in omega arith

  item_low : (w : Weight) (l : Bool) (k : Kind) (x : Element) (is : tree.Items) → HoldsElement IsGiven x → IsElement l k x →
      row_deep w (paren_row (items_row (item_output l x is))) ≤ max (element_deep w x) (row_deep w (paren_row (items_row is)))
  item_low w l k (plain e) is n h =
      let one = written_low w l e 0 0 false n h.1 (at_zero _) (at_zero _) tt in
      let two = in_front_low w (plain (tree_of (output l e))) (items_row is) in omega arith
  item_low w l k (spread s e) is n h =
      let one = written_low w l e 0 0 false n h.1 (at_zero _) (at_zero _) tt in
      let two = in_front_low w (spread nowhere (tree_of (output l e))) (items_row is) in omega arith
  item_low w l k (pair x s t e) is n h = omega arith
  item_low w l k (argument v s e) is n h = omega arith

  entries_low : (w : Weight) (l : Bool) (row : Row) → HoldsRow IsGiven row → IsRow l of_entries row → entries_deep w (entries_output l row) ≤ row_deep w row
  entries_low w l (ended s) n h = zero-le
  entries_low w l (only x s) n h = let one = entry_low w l of_entries x tree.NoEntries n h in omega arith
  entries_low w l (then x s xs) n h =
      let one = entry_low w l of_entries x (entries_output l xs) n.0 h.0 in
      let two = entries_low w l xs n.1 h.1 in omega arith

  entry_low : (w : Weight) (l : Bool) (k : Kind) (x : Element) (es : tree.Entries) → HoldsElement IsGiven x → IsElement l k x →
      entries_deep w (entry_output l x es) ≤ max (element_deep w x) (entries_deep w es)
  entry_low w l k (pair x s t e) es n h = let one = written_low w l e 0 0 false n.1 h.1 (at_zero _) (at_zero _) tt in omega arith
  entry_low w l k (spread s e) es n h = let one = written_low w l e 0 0 false n h.1 (at_zero _) (at_zero _) tt in omega arith
  entry_low w l k (plain e) es n h = omega arith
  entry_low w l k (argument v s e) es n h = omega arith

  attributes_low : (w : Weight) (l : Bool) (ats : Attributes) → HoldsAttributes IsGiven ats → AreAttributes l ats →
      attributes_deep w (paren_attributes (attributes_of (attributes_output l ats))) ≤ attributes_deep w ats
  attributes_low w l no_attributes n h = zero-le
  attributes_low w l (bare v ats) n h =
      let one = bare_low w v.text v.span (tree_of (tree.Var v.text v.span)) (attributes_of (attributes_output l ats)) in
      let two = attributes_low w l ats n.1 h in omega arith
  attributes_low w l (quoted v s x t ats) n h = attributes_low w l ats n.2 h
  attributes_low w l (valued v s b e c ats) n h =
      let one = attribute_low w v.text (output l e) (tree_of (output l e)) (attributes_of (attributes_output l ats)) in
      let two = written_low w l e 0 0 false n.1 h.0 (at_zero _) (at_zero _) tt in
      let three = attributes_low w l ats n.2 h.1 in omega arith
  attributes_low w l (spreading b s e c ats) n h =
      let two = written_low w l e 0 0 false n.0 h.0 (at_zero _) (at_zero _) tt in
      let three = attributes_low w l ats n.1 h.1 in omega arith

  args_low : (w : Weight) (l : Bool) (g : Args) → HoldsArgs IsGiven g → AreArgs l g → args_deep w (paren_args (args_of (args_output l g))) ≤ args_deep w g
  args_low w l no_args n h = zero-le
  args_low w l (args s row) n h =
      let one = args_of_low w (arguments_output l row tree.NoArgs) in
      let two = arguments_low w l row tree.NoArgs n h.0 in omega arith

-- no expression opens more, has more subscripts one inside the other, or more arrays
pub source_low : (w : Weight) (l : Bool) (t : Tree) → Holds IsGiven t → IsExpression l t → deep w (source_tree (output l t)) ≤ deep w t
source_low w l t n h = written_low w l t 0 0 false n h (at_zero _) (at_zero _) tt
