-- The source text of an expression: the tree that is written for it, its parentheses, and its text.
use Rattle.std.specs.Prelude.{ℕ, ℤ, Bool, suc, true, false, ◌||◌, ltb, cond, nat_eq, pos, negsuc, List, [], ◌∷◌, Option, Some, None, codes}
use Rattle.std.specs.List.{list_any}
use Rattle.std.specs.Str.{bytes_eq}
use Rattle.tera_lexer.specs.grammar.Bytes.{dot}
use Rattle.tera_lexer.specs.grammar.Tokens.{Ended}
use Rattle.tera_lexer.specs.code.Cursors.{nowhere}
use Rattle.tera_base.specs.Values as values
use Rattle.tera_base.specs.Values.{KeyVal, TextKey, I64Key, TruthKey, Val, Vals, Pairs}
use Rattle.tera_ast.specs.declared.ast.BinaryOperator as declared
use Rattle.tera_ast.specs.declared.ast.BinaryOperator.TheVariants as binary
use Rattle.tera_ast.specs.declared.ast.UnaryOperator.TheVariants as unary
use Rattle.tera_ast.specs.Tree as tree
use Rattle.tera_ast.specs.Tree.{Expr}
use Rattle.tera_grammar.specs.expressions.Operators.{BinaryOperator, Mul, Div, Mod, Plus, Minus, FloorDiv, Power, LessThan, GreaterThan, LessThanOrEqual, GreaterThanOrEqual, Equal, NotEqual, And, Or, StrConcat, In}
use Rattle.tera_grammar.specs.expressions.Concrete.{Name, Quote, Simple, Escaped, Lit, Number, Quoted, Truth, Negative, Negates, Joint, plain_dot, optional_dot, Bracket, plain_bracket, optional_bracket, plainly, negated, Second, no_second, second, no_dots, dots, Single, NotIn, Tree, Atomic, Prefix, Suffixed, Infix, Atom, Literal, Null, Chain, Call, Paren, Array, Comprehension, Map, Component, Links, no_links, field, item, Sub, index, slice, Part, absent, present, Extra, no_extra, extra, Row, ended, only, then, Element, plain, spread, pair, argument, Attributes, no_attributes, bare, quoted, valued, spreading, Suffix, Test, Filter, Subscript, Args, no_args, args, Operator, Binary, Condition, yield}
use Rattle.tera_grammar.specs.expressions.Powers.{test_power, filter_power, sign_power, left_power, right_power}
use Rattle.tera_grammar.specs.expressions.Companions.{Path}
use Rattle.tera_spelling.specs.Spelling.{is_special, tokens_text}

-- what is written is in no source, and each of its tokens nowhere
abbrev pub word : List ℕ → Name
word text = record { text = text; span = nowhere }

abbrev pub literal : Lit → Tree
literal x = Atomic (Literal x nowhere)

-- a string, which has escapes where its text has something special
abbrev pub quote : List ℕ → Quote
quote text = cond (list_any is_special text) (Escaped text) (Simple text)

abbrev pub string : List ℕ → Lit
string text = Quoted (quote text)

abbrev pub key_literal : KeyVal → Lit
key_literal (TextKey text) = string text
key_literal (I64Key n) = Number n
key_literal (TruthKey b) = Truth b

-- a negative number takes a prefix
abbrev pub number_tree : ℤ → Tree
number_tree (pos n) = literal (Number (pos n))
number_tree (negsuc n) = Prefix (Negative nowhere) (literal (Number (pos (suc n))))

-- one more element in front; no comma is before the closing mark
abbrev pub in_front : Element → Row → Row
in_front x (ended s) = only x s
in_front x xs = then x nowhere xs

-- a constant; a value of another kind is in no expression of a template
abbrev mutual
  pub value_tree : Val → Tree
  value_tree (values.Truth b) = literal (Truth b)
  value_tree (values.I64 n) = number_tree n
  value_tree (values.Text text) = literal (string text)
  value_tree (values.Array vs) = Atomic (Array nowhere (values_row vs))
  value_tree (values.Map ps) = Atomic (Map nowhere (pairs_row ps))
  value_tree _ = Atomic (Null (word (codes "none")))

  pub values_row : Vals → Row
  values_row values.NoVals = ended nowhere
  values_row (values.OneVal v vs) = in_front (plain (value_tree v)) (values_row vs)

  pub pairs_row : Pairs → Row
  pairs_row values.NoPairs = ended nowhere
  pairs_row (values.OnePair k v ps) = in_front (pair (key_literal k) nowhere nowhere (value_tree v)) (pairs_row ps)

-- the operator that is written for one of the tree; the last two are in no expression of a template
abbrev pub operator_for : declared.BinaryOperator → BinaryOperator
operator_for binary.Mul = Mul
operator_for binary.Div = Div
operator_for binary.Mod = Mod
operator_for binary.Plus = Plus
operator_for binary.Minus = Minus
operator_for binary.FloorDiv = FloorDiv
operator_for binary.Power = Power
operator_for binary.LessThan = LessThan
operator_for binary.GreaterThan = GreaterThan
operator_for binary.LessThanOrEqual = LessThanOrEqual
operator_for binary.GreaterThanOrEqual = GreaterThanOrEqual
operator_for binary.Equal = Equal
operator_for binary.NotEqual = NotEqual
operator_for binary.And = And
operator_for binary.Or = Or
operator_for binary.StrConcat = StrConcat
operator_for binary.In = In
operator_for binary.Is = In
operator_for binary.Pipe = In

-- the last link of a chain
abbrev pub following : Links → Links → Links
following no_links last = last
following (field d n ls) last = field d n (following ls last)
following (item b s ls) last = item b s (following ls last)

abbrev pub joint_for : Bool → Joint
joint_for optional = cond optional (optional_dot nowhere) (plain_dot nowhere)

abbrev pub bracket_for : Bool → Bracket
bracket_for optional = cond optional (optional_bracket nowhere) (plain_bracket nowhere)

-- a variable takes all its links into its chain; nothing else has fields
abbrev pub with_field : Tree → Bool → List ℕ → Tree
with_field (Atomic (Chain n ls)) optional name = Atomic (Chain n (following ls (field (joint_for optional) (word name) no_links)))
with_field t optional name = t

abbrev pub with_sub : Tree → Bool → Sub → Tree
with_sub (Atomic (Chain n ls)) optional s = Atomic (Chain n (following ls (item (bracket_for optional) s no_links)))
with_sub t optional s = Suffixed t (Subscript nowhere s)

-- a test and `in` take the negation into themselves
abbrev pub negation_of : Tree → Tree
negation_of (Suffixed a (Test s plainly w g)) = Suffixed a (Test s (negated nowhere) w g)
negation_of (Infix a (Binary (Single In s)) b) = Infix a (Binary (NotIn nowhere nowhere)) b
negation_of t = Prefix (Negates nowhere) t

abbrev pub first_variable : Option (List ℕ) → List ℕ → Name
first_variable None value = word value
first_variable (Some key) value = word key

abbrev pub second_variable : Option (List ℕ) → List ℕ → Second
second_variable None value = no_second
second_variable (Some key) value = second nowhere (word value)

-- the names between the dots of a component's name
abbrev pub longer : ℕ → Path → Path
longer b x = record { name = word (b ∷ x.name.text); further = x.further }

abbrev pub path_from : List ℕ → Path
path_from [] = record { name = word []; further = no_dots }
path_from (b ∷ bs) = cond (nat_eq b dot)
    (record { name = word []; further = dots nowhere (path_from bs).name (path_from bs).further })
    (longer b (path_from bs))

-- the name of an attribute is a text
abbrev pub key_text : KeyVal → List ℕ
key_text (TextKey text) = text
key_text _ = []

-- a name alone is the variable of that name
abbrev pub attribute : List ℕ → Expr → Tree → Attributes → Attributes
attribute n (tree.Var name s) t ats = cond (bytes_eq n name) (bare (word n) ats) (valued (word n) nowhere nowhere t nowhere ats)
attribute n (tree.Const (values.Text text) s) t ats = quoted (word n) nowhere (quote text) nowhere ats
attribute n e t ats = valued (word n) nowhere nowhere t nowhere ats

-- an expression, without parentheses
abbrev mutual
  pub tree_of : Expr → Tree
  tree_of (tree.Const v s) = value_tree v
  tree_of (tree.Var name s) = Atomic (Chain (word name) no_links)
  tree_of (tree.GetAttr e name o s) = with_field (tree_of e) o name
  tree_of (tree.GetItem e i o s) = with_sub (tree_of e) o (index (tree_of i) nowhere)
  tree_of (tree.Slice e a b c o s) = with_sub (tree_of e) o (slice (part_of a) nowhere (part_of b) (extra_of c) nowhere)
  tree_of (tree.UnaryOperation unary.Not e s) = negation_of (tree_of e)
  tree_of (tree.UnaryOperation unary.Minus e s) = Prefix (Negative nowhere) (tree_of e)
  tree_of (tree.BinaryOperation o a b s) = Infix (tree_of a) (Binary (Single (operator_for o) nowhere)) (tree_of b)
  tree_of (tree.Test e name g s) = Suffixed (tree_of e) (Test nowhere plainly (word name) (args_of g))
  tree_of (tree.Filter e name g s) = Suffixed (tree_of e) (Filter nowhere (word name) (args_of g))
  tree_of (tree.FunctionCall name g s) = Atomic (Call (word name) nowhere (arguments_row g))
  tree_of (tree.Ternary c a b s) = Infix (tree_of a) (Condition nowhere (tree_of c) nowhere) (tree_of b)
  tree_of (tree.Array is s) = Atomic (Array nowhere (items_row is))
  tree_of (tree.Map es s) = Atomic (Map nowhere (entries_row es))
  tree_of (tree.ListComprehension e k v t c s) =
      Atomic (Comprehension nowhere (tree_of e) nowhere (first_variable k v) (second_variable k v) nowhere (tree_of t) (extra_of c) nowhere)
  tree_of (tree.ComponentCall name es body closes s) =
      Atomic (Component nowhere (path_from name).name (path_from name).further (attributes_of es) nowhere nowhere)

  pub part_of : tree.MaybeExpr → Part
  part_of tree.NoExpr = absent
  part_of (tree.OneExpr e) = present (tree_of e)

  pub extra_of : tree.MaybeExpr → Extra
  extra_of tree.NoExpr = no_extra
  extra_of (tree.OneExpr e) = extra nowhere (tree_of e)

  pub arguments_row : tree.Args → Row
  arguments_row tree.NoArgs = ended nowhere
  arguments_row (tree.Arg name e g) = in_front (argument (word name) nowhere (tree_of e)) (arguments_row g)

  -- of a test or a filter
  pub args_of : tree.Args → Args
  args_of tree.NoArgs = no_args
  args_of (tree.Arg name e g) = args nowhere (in_front (argument (word name) nowhere (tree_of e)) (arguments_row g))

  pub items_row : tree.Items → Row
  items_row tree.NoItems = ended nowhere
  items_row (tree.Item e is) = in_front (plain (tree_of e)) (items_row is)
  items_row (tree.SpreadItem e is) = in_front (spread nowhere (tree_of e)) (items_row is)

  pub entries_row : tree.Entries → Row
  entries_row tree.NoEntries = ended nowhere
  entries_row (tree.Entry k e es) = in_front (pair (key_literal k) nowhere nowhere (tree_of e)) (entries_row es)
  entries_row (tree.SpreadEntry e es) = in_front (spread nowhere (tree_of e)) (entries_row es)

  pub attributes_of : tree.Entries → Attributes
  attributes_of tree.NoEntries = no_attributes
  attributes_of (tree.Entry k e es) = attribute (key_text k) e (tree_of e) (attributes_of es)
  attributes_of (tree.SpreadEntry e es) = spreading nowhere nowhere (tree_of e) nowhere (attributes_of es)

-- the least right power that a suffix asks for on its operand's right spine; before a subscript all is closed
abbrev pub asked : Suffix → ℕ
asked (Test s n w g) = suc test_power
asked (Filter s w g) = suc filter_power
asked (Subscript s b) = 21

-- whether a suffix breaks a least left power
abbrev pub kept_out : ℕ → Suffix → Bool
kept_out m (Test s n w g) = ltb test_power m
kept_out m (Filter s w g) = ltb filter_power m
kept_out m (Subscript s b) = false

abbrev pub in_parens : Tree → Tree
in_parens t = Atomic (Paren nowhere t nowhere)

-- The nodes above a tree, with no parentheses between, ask for a least left power m on its left spine, for a least
-- right power q on its right spine, and maybe that it begin with no prefix. A node that breaks this is in parentheses,
-- after which nothing is asked.
abbrev mutual
  pub paren : ℕ → ℕ → Bool → Tree → Tree
  paren m q p (Atomic a) = Atomic (paren_atom a)
  paren m q p (Prefix s e) = cond (p || ltb (sign_power s) q)
      (in_parens (Prefix s (paren (sign_power s) 0 true e)))
      (Prefix s (paren (sign_power s) q true e))
  paren m q p (Suffixed a s) = cond (kept_out m s)
      (in_parens (Suffixed (paren 0 (asked s) false a) (paren_suffix s)))
      (Suffixed (paren m (asked s) p a) (paren_suffix s))
  paren m q p (Infix a o b) = cond (ltb (left_power o) m || ltb (right_power o) q)
      (in_parens (Infix (paren 0 (suc (left_power o)) false a) (paren_operator o) (paren (right_power o) 0 false b)))
      (Infix (paren m (suc (left_power o)) p a) (paren_operator o) (paren (right_power o) q false b))

  pub paren_atom : Atom → Atom
  paren_atom (Literal x s) = Literal x s
  paren_atom (Null n) = Null n
  paren_atom (Chain n ls) = Chain n (paren_links ls)
  paren_atom (Call n s row) = Call n s (paren_row row)
  paren_atom (Paren s e t) = Paren s (paren 0 0 false e) t
  paren_atom (Array s row) = Array s (paren_row row)
  paren_atom (Comprehension s e f n m i t g c) =
      Comprehension s (paren 0 0 false e) f n m i (paren 1 0 false t) (paren_extra 1 g) c
  paren_atom (Map s row) = Map s (paren_row row)
  paren_atom (Component s n ds ats t u) = Component s n ds (paren_attributes ats) t u

  pub paren_links : Links → Links
  paren_links no_links = no_links
  paren_links (field d n ls) = field d n (paren_links ls)
  paren_links (item b s ls) = item b (paren_sub s) (paren_links ls)

  pub paren_sub : Sub → Sub
  paren_sub (index e c) = index (paren 0 0 false e) c
  paren_sub (slice a s b x c) = slice (paren_part a) s (paren_part b) (paren_extra 0 x) c

  pub paren_part : Part → Part
  paren_part absent = absent
  paren_part (present e) = present (paren 0 0 false e)

  pub paren_extra : ℕ → Extra → Extra
  paren_extra m no_extra = no_extra
  paren_extra m (extra s e) = extra s (paren m 0 false e)

  pub paren_row : Row → Row
  paren_row (ended s) = ended s
  paren_row (only x s) = only (paren_element x) s
  paren_row (then x s xs) = then (paren_element x) s (paren_row xs)

  pub paren_element : Element → Element
  paren_element (plain e) = plain (paren 0 0 false e)
  paren_element (spread s e) = spread s (paren 0 0 false e)
  paren_element (pair x s t e) = pair x s t (paren 0 0 false e)
  paren_element (argument n s e) = argument n s (paren 0 0 false e)

  pub paren_attributes : Attributes → Attributes
  paren_attributes no_attributes = no_attributes
  paren_attributes (bare n ats) = bare n (paren_attributes ats)
  paren_attributes (quoted n s x t ats) = quoted n s x t (paren_attributes ats)
  paren_attributes (valued n s b e c ats) = valued n s b (paren 0 0 false e) c (paren_attributes ats)
  paren_attributes (spreading b s e c ats) = spreading b s (paren 0 0 false e) c (paren_attributes ats)

  pub paren_suffix : Suffix → Suffix
  paren_suffix (Test s n w g) = Test s n w (paren_args g)
  paren_suffix (Filter s w g) = Filter s w (paren_args g)
  paren_suffix (Subscript s b) = Subscript s (paren_sub b)

  pub paren_args : Args → Args
  paren_args no_args = no_args
  paren_args (args s row) = args s (paren_row row)

  pub paren_operator : Operator → Operator
  paren_operator (Binary o) = Binary o
  paren_operator (Condition s c t) = Condition s (paren 0 0 false c) t

-- the tree that is written for an expression
abbrev pub source_tree : Expr → Tree
source_tree e = paren 0 0 false (tree_of e)

abbrev pub source_text : Expr → List ℕ
source_text e = tokens_text (yield (source_tree e) Ended)

-- a component with a body is not an expression of a template
abbrev pub source_of : Expr → Option (List ℕ)
source_of (tree.ComponentCall name es body false s) = None
source_of e = Some (source_text e)
