-- What an expression is read as. `in_loop` says whether it is in a loop. Parentheses have no node.
use Rattle.std.specs.Prelude.{ℕ, Bool, true, false, ◌&&◌, cond, neg_ℤ, List, [], ◌++◌, Option, Some, None, codes}
use Rattle.std.specs.Ordering.{nat_cmp, match_ordering}
use Rattle.std.specs.Cmp.Lexicographic.{slice_cmp}
use Rattle.tera_base.specs.Same.{key_eq}
use Rattle.tera_base.specs.Values as values
use Rattle.tera_base.specs.declared.utils.Span.{Span}
use Rattle.tera_ast.specs.declared.ast.BinaryOperator.TheVariants as binary
use Rattle.tera_ast.specs.declared.ast.UnaryOperator.TheVariants as unary
use Rattle.tera_ast.specs.Tree as tree
use Rattle.tera_base.specs.Values.{KeyVal, TextKey, I64Key, TruthKey, Val, Vals, Pairs, NoPairs}
use Rattle.tera_ast.specs.Tree.{Expr}
use Rattle.tera_grammar.specs.expressions.Operators.{operator_made}
use Rattle.tera_grammar.specs.expressions.Concrete.{Name, Quote, Simple, Escaped, Lit, Number, Quoted, Truth, Sign, Negative, Negates, Joint, plain_dot, optional_dot, Bracket, plain_bracket, optional_bracket, Negation, plainly, negated, Second, no_second, second, Dotted, no_dots, dots, Op, Single, NotIn, Tree, Atomic, Prefix, Suffixed, Infix, Atom, Literal, Null, Chain, Call, Paren, Array, Comprehension, Map, Component, Links, no_links, field, item, Sub, index, slice, Part, absent, present, Extra, no_extra, extra, Row, ended, only, then, Element, plain, spread, pair, argument, Attributes, no_attributes, bare, quoted, valued, spreading, Suffix, Test, Filter, Subscript, Args, no_args, args, Operator, Binary, Condition}
use Rattle.tera_grammar.specs.expressions.Spans.{spanning, sign_span, row_end, args_end, first, last}
use Rattle.tera_grammar.specs.Words.{is_loop}
-- where an expression is
pub use Rattle.tera_ast.specs.Spans.{expr_span as place_of}

abbrev pub quote_text : Quote → List ℕ
quote_text (Simple text) = text
quote_text (Escaped text) = text

-- the value, and the key, that a literal is
abbrev pub literal_value : Lit → Val
literal_value (Number n) = values.I64 n
literal_value (Quoted q) = values.Text (quote_text q)
literal_value (Truth b) = values.Truth b

abbrev pub key_of : Lit → KeyVal
key_of (Number n) = I64Key n
key_of (Quoted q) = TextKey (quote_text q)
key_of (Truth b) = TruthKey b

-- a new key goes last; a key that is there keeps its place and takes the later value
abbrev pub put_pair : KeyVal → Val → Pairs → Pairs
put_pair k v NoPairs = values.OnePair k v NoPairs
put_pair k v (values.OnePair l u ps) = cond (key_eq k l) (values.OnePair l v ps) (values.OnePair l u (put_pair k v ps))

-- the argument is where the byte order of the argument_names puts it
abbrev pub put_arg : List ℕ → Expr → tree.Args → tree.Args
put_arg n e tree.NoArgs = tree.Arg n e tree.NoArgs
put_arg n e (tree.Arg m f rest) =
    match_ordering (slice_cmp nat_cmp n m) (tree.Arg n e (tree.Arg m f rest)) (tree.Arg m e rest) (tree.Arg m f (put_arg n e rest))

-- the constants that the items are, where all are constants
abbrev pub with_value : Val → Option Vals → Option Vals
with_value v None = None
with_value v (Some vs) = Some (values.OneVal v vs)

abbrev pub constant_items : tree.Items → Option Vals
constant_items tree.NoItems = Some values.NoVals
constant_items (tree.Item (tree.Const v s) is) = with_value v (constant_items is)
constant_items _ = None

-- the pairs of constants that the entries are, put after those that are there
abbrev pub constant_entries : tree.Entries → Pairs → Option Pairs
constant_entries tree.NoEntries ps = Some ps
constant_entries (tree.Entry k (tree.Const v s) es) ps = constant_entries es (put_pair k v ps)
constant_entries _ ps = None

abbrev pub array_made : tree.Items → Span → Option Vals → Expr
array_made is span (Some vs) = tree.Const (values.Array vs) span
array_made is span None = tree.Array is span

abbrev pub array_of : tree.Items → Span → Expr
array_of is span = array_made is span (constant_items is)

abbrev pub map_made : tree.Entries → Span → Option Pairs → Expr
map_made es span (Some ps) = tree.Const (values.Map ps) span
map_made es span None = tree.Map es span

abbrev pub map_of : tree.Entries → Span → Expr
map_of es span = map_made es span (constant_entries es NoPairs)

-- a minus before a whole number is that number's negation
abbrev pub prefixed : Sign → Expr → Span → Expr
prefixed (Negative s) (tree.Const (values.I64 n) t) span = tree.Const (values.I64 (neg_ℤ n)) span
prefixed (Negative s) e span = tree.UnaryOperation unary.Minus e span
prefixed (Negates s) e span = tree.UnaryOperation unary.Not e span

abbrev pub is_unary : Expr → Bool
is_unary (tree.UnaryOperation o e span) = true
is_unary _ = false

abbrev pub is_optional_joint : Joint → Bool
is_optional_joint (plain_dot s) = false
is_optional_joint (optional_dot s) = true

abbrev pub is_optional_bracket : Bracket → Bool
is_optional_bracket (plain_bracket s) = false
is_optional_bracket (optional_bracket s) = true

-- whether the fields of a chain are those of a loop: it is in one and begins with `loop`
abbrev pub of_loop : Bool → Name → Bool
of_loop in_loop n = in_loop && is_loop n.text

-- a field of an expression; one of a loop is a variable of its own
abbrev pub field_output : Bool → Expr → Joint → Name → Expr
field_output true e d n = tree.Var (codes "__tera_loop_" ++ n.text) n.span
field_output false e d n = tree.GetAttr e n.text (is_optional_joint d) n.span

abbrev pub negation_output : Negation → Expr → Span → Expr
negation_output plainly e span = e
negation_output (negated s) e span = tree.UnaryOperation unary.Not e span

abbrev pub op_output : Op → Expr → Expr → Span → Expr
op_output (Single o s) a b span = tree.BinaryOperation (operator_made o) a b span
op_output (NotIn s t) a b span = tree.UnaryOperation unary.Not (tree.BinaryOperation binary.In a b span) span

-- the variables of a comprehension: of two the first is that of the keys
abbrev pub key_variable : Name → Second → Option (List ℕ)
key_variable n no_second = None
key_variable n (second s m) = Some n.text

abbrev pub value_variable : Name → Second → List ℕ
value_variable n no_second = n.text
value_variable n (second s m) = m.text

abbrev pub dotted_text : Dotted → List ℕ
dotted_text no_dots = []
dotted_text (dots s n ds) = codes "." ++ (n.text ++ dotted_text ds)

abbrev pub component_text : Name → Dotted → List ℕ
component_text n ds = n.text ++ dotted_text ds

abbrev mutual
  pub output : Bool → Tree → Expr
  output in_loop (Atomic a) = atom_output in_loop a
  output in_loop (Prefix s e) = prefixed s (output in_loop e) (spanning (sign_span s) (last e))
  output in_loop (Suffixed a s) = suffix_output in_loop (first a) (output in_loop a) s
  output in_loop (Infix a o b) = operator_output in_loop (spanning (first a) (last b)) (output in_loop a) o (output in_loop b)

  pub atom_output : Bool → Atom → Expr
  atom_output in_loop (Literal x s) = tree.Const (literal_value x) s
  atom_output in_loop (Null n) = tree.Const values.Nothing n.span
  atom_output in_loop (Chain n ls) = links_output in_loop (of_loop in_loop n) (tree.Var n.text n.span) ls
  atom_output in_loop (Call n s row) = tree.FunctionCall n.text (arguments_output in_loop row tree.NoArgs) (spanning n.span (row_end row))
  atom_output in_loop (Paren s e t) = output in_loop e
  atom_output in_loop (Array s row) = array_of (items_output in_loop row) (spanning s (row_end row))
  atom_output in_loop (Comprehension s element f n m i target guard c) =
      tree.ListComprehension (output in_loop element) (key_variable n m) (value_variable n m) (output in_loop target)
      (extra_output in_loop guard) (spanning s c)
  atom_output in_loop (Map s row) = map_of (entries_output in_loop row) (spanning s (row_end row))
  atom_output in_loop (Component s n ds ats t u) =
      tree.ComponentCall (component_text n ds) (attributes_output in_loop ats) tree.NoNodes true (spanning s u)

  -- a chain up to here, and its further links
  pub links_output : Bool → Bool → Expr → Links → Expr
  links_output in_loop looping e no_links = e
  links_output in_loop looping e (field d n ls) = links_output in_loop looping (field_output looping e d n) ls
  links_output in_loop looping e (item b s ls) = links_output in_loop looping (sub_output in_loop (is_optional_bracket b) e s) ls

  pub sub_output : Bool → Bool → Expr → Sub → Expr
  sub_output in_loop optional e (index i c) = tree.GetItem e (output in_loop i) optional (spanning (place_of e) c)
  sub_output in_loop optional e (slice start s stop step c) =
      tree.Slice e (part_output in_loop start) (part_output in_loop stop) (extra_output in_loop step) optional (spanning (place_of e) c)

  pub part_output : Bool → Part → tree.MaybeExpr
  part_output in_loop absent = tree.NoExpr
  part_output in_loop (present e) = tree.OneExpr (output in_loop e)

  pub extra_output : Bool → Extra → tree.MaybeExpr
  extra_output in_loop no_extra = tree.NoExpr
  extra_output in_loop (extra s e) = tree.OneExpr (output in_loop e)

  -- the arguments, put to those before them
  pub arguments_output : Bool → Row → tree.Args → tree.Args
  arguments_output in_loop (ended s) rest = rest
  arguments_output in_loop (only x s) rest = argument_output in_loop x rest
  arguments_output in_loop (then x s xs) rest = arguments_output in_loop xs (argument_output in_loop x rest)

  pub argument_output : Bool → Element → tree.Args → tree.Args
  argument_output in_loop (argument n s e) rest = put_arg n.text (output in_loop e) rest
  argument_output in_loop _ rest = rest

  pub items_output : Bool → Row → tree.Items
  items_output in_loop (ended s) = tree.NoItems
  items_output in_loop (only x s) = item_output in_loop x tree.NoItems
  items_output in_loop (then x s xs) = item_output in_loop x (items_output in_loop xs)

  pub item_output : Bool → Element → tree.Items → tree.Items
  item_output in_loop (plain e) is = tree.Item (output in_loop e) is
  item_output in_loop (spread s e) is = tree.SpreadItem (output in_loop e) is
  item_output in_loop _ is = is

  pub entries_output : Bool → Row → tree.Entries
  entries_output in_loop (ended s) = tree.NoEntries
  entries_output in_loop (only x s) = entry_output in_loop x tree.NoEntries
  entries_output in_loop (then x s xs) = entry_output in_loop x (entries_output in_loop xs)

  pub entry_output : Bool → Element → tree.Entries → tree.Entries
  entry_output in_loop (pair x s t e) es = tree.Entry (key_of x) (output in_loop e) es
  entry_output in_loop (spread s e) es = tree.SpreadEntry (output in_loop e) es
  entry_output in_loop _ es = es

  pub attributes_output : Bool → Attributes → tree.Entries
  attributes_output in_loop no_attributes = tree.NoEntries
  attributes_output in_loop (bare n ats) = tree.Entry (TextKey n.text) (tree.Var n.text n.span) (attributes_output in_loop ats)
  attributes_output in_loop (quoted n s q t ats) = tree.Entry (TextKey n.text) (tree.Const (values.Text (quote_text q)) t)
      (attributes_output in_loop ats)
  attributes_output in_loop (valued n s b e c ats) = tree.Entry (TextKey n.text) (output in_loop e) (attributes_output in_loop ats)
  attributes_output in_loop (spreading b s e c ats) = tree.SpreadEntry (output in_loop e) (attributes_output in_loop ats)

  -- a suffix after an operand that begins here
  pub suffix_output : Bool → Span → Expr → Suffix → Expr
  suffix_output in_loop start e (Test s n w g) =
      negation_output n (tree.Test e w.text (args_output in_loop g) (spanning w.span (args_end w g))) (spanning start (args_end w g))
  suffix_output in_loop start e (Filter s w g) = tree.Filter e w.text (args_output in_loop g) (spanning w.span (args_end w g))
  suffix_output in_loop start e (Subscript s b) = sub_output in_loop false e b

  pub args_output : Bool → Args → tree.Args
  args_output in_loop no_args = tree.NoArgs
  args_output in_loop (args s row) = arguments_output in_loop row tree.NoArgs

  pub operator_output : Bool → Span → Expr → Operator → Expr → Expr
  operator_output in_loop span a (Binary o) b = op_output o a b span
  operator_output in_loop span a (Condition s c t) b = tree.Ternary (output in_loop c) a b span
