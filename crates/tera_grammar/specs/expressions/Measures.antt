-- How large an expression is, and the limits. There are four numbers, and one definition serves for all: what is inside
-- is measured first, something is added for what it is in, and the parts of one expression are joined.
use Rattle.std.specs.Prelude.{ℕ, suc, ◌+◌, max, ◌≤◌}
use Rattle.tera_grammar.specs.Limits.{Limits}
use Rattle.tera_grammar.specs.expressions.Concrete.{Tree, Atomic, Prefix, Suffixed, Infix, Atom, Literal, Null, Chain, Call, Paren, Array, Comprehension, Map, Component, Links, no_links, field, item, Sub, index, slice, Part, absent, present, Extra, no_extra, extra, Row, ended, only, then, Element, plain, spread, pair, argument, Attributes, no_attributes, bare, quoted, valued, spreading, Suffix, Test, Filter, Subscript, Args, no_args, args, Operator, Binary, Condition}

-- how the parts of an expression are joined; and what is made of a part that is an expression of its own, of what is in
-- a subscript, in an array, and of what a link holds
pub record Measure : Type 0 where
  pub join : ℕ → ℕ → ℕ
  pub opening : ℕ → ℕ
  pub subscript : ℕ → ℕ
  pub array : ℕ → ℕ
  pub link : ℕ → ℕ

-- A left operand, and what a test and a filter are of, open no expression; all other parts do. A comprehension is an
-- array around its element alone. The links are the binary operators, tests, filters, dots of chains and subscripts;
-- `not in` and `is not` are one; ternaries, prefixes, calls and the dots of a component's name are none.
abbrev mutual
  pub measure : Measure → Tree → ℕ
  measure w (Atomic a) = atom_measure w a
  measure w (Prefix s e) = w.opening (measure w e)
  measure w (Suffixed a s) = w.join (measure w a) (suffix_measure w s)
  measure w (Infix a o b) = w.join (measure w a) (w.join (operator_measure w o) (w.opening (measure w b)))

  pub atom_measure : Measure → Atom → ℕ
  atom_measure w (Literal l s) = 0
  atom_measure w (Null n) = 0
  atom_measure w (Chain n ls) = links_measure w ls
  atom_measure w (Call n s row) = row_measure w row
  atom_measure w (Paren s e t) = w.opening (measure w e)
  atom_measure w (Array s row) = w.array (row_measure w row)
  atom_measure w (Comprehension s element f n m i target guard c) =
      w.join (w.array (w.opening (measure w element))) (w.join (w.opening (measure w target)) (extra_measure w guard))
  atom_measure w (Map s row) = row_measure w row
  atom_measure w (Component s n ds ats t u) = attributes_measure w ats

  pub links_measure : Measure → Links → ℕ
  links_measure w no_links = 0
  links_measure w (field d n ls) = w.link (links_measure w ls)
  links_measure w (item b s ls) = w.link (w.join (w.subscript (sub_measure w s)) (links_measure w ls))

  pub sub_measure : Measure → Sub → ℕ
  sub_measure w (index e c) = w.opening (measure w e)
  sub_measure w (slice start s stop step c) = w.join (part_measure w start) (w.join (part_measure w stop) (extra_measure w step))

  pub part_measure : Measure → Part → ℕ
  part_measure w absent = 0
  part_measure w (present e) = w.opening (measure w e)

  pub extra_measure : Measure → Extra → ℕ
  extra_measure w no_extra = 0
  extra_measure w (extra s e) = w.opening (measure w e)

  pub row_measure : Measure → Row → ℕ
  row_measure w (ended s) = 0
  row_measure w (only x s) = element_measure w x
  row_measure w (then x s xs) = w.join (element_measure w x) (row_measure w xs)

  pub element_measure : Measure → Element → ℕ
  element_measure w (plain e) = w.opening (measure w e)
  element_measure w (spread s e) = w.opening (measure w e)
  element_measure w (pair l s t e) = w.opening (measure w e)
  element_measure w (argument n s e) = w.opening (measure w e)

  pub attributes_measure : Measure → Attributes → ℕ
  attributes_measure w no_attributes = 0
  attributes_measure w (bare n ats) = attributes_measure w ats
  attributes_measure w (quoted n s q t ats) = attributes_measure w ats
  attributes_measure w (valued n s b e c ats) = w.join (w.opening (measure w e)) (attributes_measure w ats)
  attributes_measure w (spreading b s e c ats) = w.join (w.opening (measure w e)) (attributes_measure w ats)

  pub suffix_measure : Measure → Suffix → ℕ
  suffix_measure w (Test s n x g) = w.link (args_measure w g)
  suffix_measure w (Filter s x g) = w.link (args_measure w g)
  suffix_measure w (Subscript s b) = w.link (w.subscript (sub_measure w b))

  pub args_measure : Measure → Args → ℕ
  args_measure w no_args = 0
  args_measure w (args s row) = row_measure w row

  pub operator_measure : Measure → Operator → ℕ
  operator_measure w (Binary o) = w.link 0
  operator_measure w (Condition s c t) = w.opening (measure w c)

-- how many expressions are opened one in another; how many subscripts, and how many arrays, are one in another
abbrev pub openings : Measure
openings = record { join = max; opening = λ n. n + 1; subscript = λ n. n; array = λ n. n; link = λ n. n }

abbrev pub subscripts : Measure
subscripts = record { join = max; opening = λ n. n; subscript = λ n. n + 1; array = λ n. n; link = λ n. n }

abbrev pub arrays : Measure
arrays = record { join = max; opening = λ n. n; subscript = λ n. n; array = λ n. n + 1; link = λ n. n }

-- how many links there are, at any depth
abbrev pub linking : Measure
linking = record { join = λ m n. m + n; opening = λ n. n; subscript = λ n. n; array = λ n. n; link = suc }

-- The height of an expression: one for itself, and one for each expression that is opened in it, along the deepest way
-- inside. So an expression that opens none has the height 1.
abbrev pub height : Tree → ℕ
height t = suc (measure openings t)

abbrev pub links : Tree → ℕ
links t = measure linking t

-- one outermost expression within the limits
pub record Within (limits : Limits) (t : Tree) : Type 0 where
  pub depth : height t ≤ limits.depth
  pub few_links : links t ≤ limits.links
  pub few_subscripts : measure subscripts t ≤ limits.subscripts
  pub few_arrays : measure arrays t ≤ limits.arrays

-- something holds of each value of a row
abbrev pub EachElement : (Tree → Type 0) → Element → Type 0
EachElement P (plain e) = P e
EachElement P (spread s e) = P e
EachElement P (pair l s t e) = P e
EachElement P (argument n s e) = P e

abbrev pub EachRow : (Tree → Type 0) → Row → Type 0
EachRow P (ended s) = Unit {0}
EachRow P (only x s) = EachElement P x
EachRow P (then x s xs) = EachElement P x × EachRow P xs

-- and of each value of attributes
abbrev pub EachAttribute : (Tree → Type 0) → Attributes → Type 0
EachAttribute P no_attributes = Unit {0}
EachAttribute P (bare n ats) = EachAttribute P ats
EachAttribute P (quoted n s q t ats) = EachAttribute P ats
EachAttribute P (valued n s b e c ats) = P e × EachAttribute P ats
EachAttribute P (spreading b s e c ats) = P e × EachAttribute P ats
