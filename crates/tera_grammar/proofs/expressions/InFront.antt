-- What is written has tokens of its own: its yield puts them in front of others, whatever these are.
use Rattle.std.proofs.Common.{◌≡◌, List, [], ◌∷◌, ◌++◌, refl, sym, ap, ◌∙◌}
use Rattle.tera_base.specs.declared.utils.Span.{Span}
use Rattle.tera_lexer.specs.grammar.Tokens.{Tok, Items, Token}
use Rattle.tera_grammar.specs.expressions.Marks.{Mark, If, Colon}
use Rattle.tera_grammar.specs.expressions.Companions.{Opened, kwargs_yield, Filtering, filter_yield, Path, path_yield, array_yield, map_yield}
use Rattle.tera_grammar.specs.expressions.Concrete.{Sign, Negative, Negates, Joint, plain_dot, optional_dot, Bracket, plain_bracket, optional_bracket, Negation, plainly, negated, Second, no_second, second, Dotted, no_dots, dots, Op, Single, NotIn, Kind, of_arguments, of_items, of_entries, Tree, Atomic, Prefix, Suffixed, Infix, Atom, Literal, Null, Chain, Call, Paren, Array, Comprehension, Map, Component, Links, no_links, field, item, Sub, index, slice, Part, absent, present, Extra, no_extra, extra, Row, ended, only, then, Element, plain, spread, pair, argument, Attributes, no_attributes, bare, quoted, valued, spreading, Suffix, Test, Filter, Subscript, Args, no_args, args, Operator, Binary, Condition, sign_yield, joint_yield, bracket_yield, negation_yield, second_yield, dotted_yield, op_yield, yield, atom_yield, links_yield, sub_yield, part_yield, extra_yield, row_yield, element_yield, attributes_yield, suffix_yield, args_yield, operator_yield}

-- tokens in front of others
abbrev pub in_front : List (Tok × Span) → Items → Items
in_front [] r = r
in_front (x ∷ xs) r = Token x.0 x.1 (in_front xs r)

front_both : (xs ys : List (Tok × Span)) (r : Items) → in_front (xs ++ ys) r ≡ in_front xs (in_front ys r)
front_both [] ys r = refl
front_both (x ∷ xs) ys r = ap (Token x.0 x.1) (front_both xs ys r)

-- a function on tokens puts some in front
pub record Puts (g : Items → Items) : Type 0 where
  pub tokens : List (Tok × Span)
  pub puts : (r : Items) → g r ≡ in_front tokens r

none : Puts (λ r. r)
none = record { tokens = []; puts = λ r. refl }

one : (t : Tok) (s : Span) → Puts (λ r. Token t s r)
one t s = record { tokens = (t, s) ∷ []; puts = λ r. refl }

before : {g : Items → Items} (t : Tok) (s : Span) → Puts g → Puts (λ r. Token t s (g r))
before t s p = record { tokens = (t, s) ∷ p.tokens; puts = λ r. ap (Token t s) (p.puts r) }

both : {g h : Items → Items} → Puts g → Puts h → Puts (λ r. g (h r))
both {g} {h} p q = record { tokens = p.tokens ++ q.tokens; puts = λ r. p.puts (h r) ∙ ap (in_front p.tokens) (q.puts r) ∙ sym (front_both p.tokens q.tokens r) }

sign_puts : (x : Sign) → Puts (sign_yield x)
sign_puts (Negative s) = one _ s
sign_puts (Negates s) = one _ s

joint_puts : (x : Joint) → Puts (joint_yield x)
joint_puts (plain_dot s) = one _ s
joint_puts (optional_dot s) = one _ s

bracket_puts : (x : Bracket) → Puts (bracket_yield x)
bracket_puts (plain_bracket s) = one _ s
bracket_puts (optional_bracket s) = one _ s

op_puts : (x : Op) → Puts (op_yield x)
op_puts (Single o s) = one _ s
op_puts (NotIn s t) = before _ s (one _ t)

negation_puts : (x : Negation) → Puts (negation_yield x)
negation_puts plainly = none
negation_puts (negated s) = one _ s

second_puts : (x : Second) → Puts (second_yield x)
second_puts no_second = none
second_puts (second s n) = before _ s (one _ n.span)

pub dotted_puts : (x : Dotted) → Puts (dotted_yield x)
dotted_puts no_dots = none
dotted_puts (dots s n ds) = before _ s (before _ n.span (dotted_puts ds))

mutual
  pub yield_puts : (t : Tree) → Puts (yield t)
  yield_puts (Atomic a) = atom_puts a
  yield_puts (Prefix s e) = both (sign_puts s) (yield_puts e)
  yield_puts (Suffixed a s) = both (yield_puts a) (suffix_puts s)
  yield_puts (Infix a o b) = both (yield_puts a) (both (operator_puts o) (yield_puts b))

  atom_puts : (a : Atom) → Puts (atom_yield a)
  atom_puts (Literal l s) = one _ s
  atom_puts (Null n) = one _ n.span
  atom_puts (Chain n ls) = before _ n.span (links_puts ls)
  atom_puts (Call n s row) = before _ n.span (before _ s (row_puts of_arguments row))
  atom_puts (Paren s e t) = before _ s (both (yield_puts e) (one _ t))
  atom_puts (Array s row) = before _ s (row_puts of_items row)
  atom_puts (Comprehension s e f n m i t g c) =
      before _ s (both (yield_puts e) (before _ f (before _ n.span (both (second_puts m) (before _ i (both (yield_puts t) (both (extra_puts If g) (one _ c))))))))
  atom_puts (Map s row) = before _ s (row_puts of_entries row)
  atom_puts (Component s n ds ats t u) = before _ s (before _ n.span (both (dotted_puts ds) (both (attributes_puts ats) (before _ t (one _ u)))))

  links_puts : (ls : Links) → Puts (links_yield ls)
  links_puts no_links = none
  links_puts (field d n ls) = both (joint_puts d) (before _ n.span (links_puts ls))
  links_puts (item b s ls) = both (bracket_puts b) (both (sub_puts s) (links_puts ls))

  sub_puts : (s : Sub) → Puts (sub_yield s)
  sub_puts (index e c) = both (yield_puts e) (one _ c)
  sub_puts (slice a s b x c) = both (part_puts a) (before _ s (both (part_puts b) (both (extra_puts Colon x) (one _ c))))

  part_puts : (p : Part) → Puts (part_yield p)
  part_puts absent = none
  part_puts (present e) = yield_puts e

  extra_puts : (m : Mark) (x : Extra) → Puts (extra_yield m x)
  extra_puts m no_extra = none
  extra_puts m (extra s e) = before _ s (yield_puts e)

  pub row_puts : (k : Kind) (row : Row) → Puts (row_yield k row)
  row_puts k (ended s) = one _ s
  row_puts k (only x s) = both (element_puts x) (one _ s)
  row_puts k (then x s xs) = both (element_puts x) (before _ s (row_puts k xs))

  element_puts : (x : Element) → Puts (element_yield x)
  element_puts (plain e) = yield_puts e
  element_puts (spread s e) = before _ s (yield_puts e)
  element_puts (pair l s t e) = before _ s (before _ t (yield_puts e))
  element_puts (argument n s e) = before _ n.span (before _ s (yield_puts e))

  pub attributes_puts : (x : Attributes) → Puts (attributes_yield x)
  attributes_puts no_attributes = none
  attributes_puts (bare n ats) = before _ n.span (attributes_puts ats)
  attributes_puts (quoted n s q t ats) = before _ n.span (before _ s (before _ t (attributes_puts ats)))
  attributes_puts (valued n s b e c ats) = before _ n.span (before _ s (before _ b (both (yield_puts e) (before _ c (attributes_puts ats)))))
  attributes_puts (spreading b s e c ats) = before _ b (before _ s (both (yield_puts e) (before _ c (attributes_puts ats))))

  suffix_puts : (s : Suffix) → Puts (suffix_yield s)
  suffix_puts (Test s n w g) = before _ s (both (negation_puts n) (before _ w.span (args_puts g)))
  suffix_puts (Filter s w g) = before _ s (before _ w.span (args_puts g))
  suffix_puts (Subscript s b) = before _ s (sub_puts b)

  pub args_puts : (g : Args) → Puts (args_yield g)
  args_puts no_args = none
  args_puts (args s row) = before _ s (row_puts of_arguments row)

  operator_puts : (o : Operator) → Puts (operator_yield o)
  operator_puts (Binary o) = op_puts o
  operator_puts (Condition s c t) = before _ s (both (yield_puts c) (one _ t))

-- what is made of expressions
pub kwargs_puts : (x : Opened) → Puts (kwargs_yield x)
kwargs_puts x = before _ x.mark (row_puts of_arguments x.row)

pub filter_puts : (x : Filtering) → Puts (filter_yield x)
filter_puts x = before _ x.name.span (args_puts x.args)

pub path_puts : (x : Path) → Puts (path_yield x)
path_puts x = before _ x.name.span (dotted_puts x.further)

pub array_puts : (x : Opened) → Puts (array_yield x)
array_puts x = before _ x.mark (row_puts of_items x.row)

pub map_puts : (x : Opened) → Puts (map_yield x)
map_puts x = before _ x.mark (row_puts of_entries x.row)
