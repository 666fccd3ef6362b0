-- The expressions as they are written, parentheses included, and their tokens. A tree keeps every token that it is
-- written with, so `yield` gives them all, in front of others. In the files on expressions e, a, b are expressions, n,
-- m, w names, x and row what their types say, r the tokens after; the other letters are spans of marks.
use Rattle.std.specs.Prelude.{ℕ, ℤ, Bool, List}
use Rattle.tera_base.specs.declared.utils.Span.{Span}
use Rattle.tera_lexer.specs.grammar.Tokens as toks
use Rattle.tera_lexer.specs.grammar.Tokens.{Tok, Items, Token}
use Rattle.tera_grammar.specs.expressions.Operators.{BinaryOperator, Div, GreaterThan, In, LessThan, Minus}
use Rattle.tera_grammar.specs.expressions.Marks.{Mark, mark, LeftParen, RightParen, LeftBracket, RightBracket, QuestionBracket, LeftBrace, RightBrace, Comma, Colon, Dot, QuestionDot, Spread, Assign, Bar, Not, Is, If, Else, For, Operation}

-- a name, and where it is
pub record Name : Type 0 where
  pub text : List ℕ
  pub span : Span

-- a string without escapes, and one with some, by its value
pub data Quote : Type 0 where
  Simple : List ℕ → Quote
  Escaped : List ℕ → Quote

-- a literal, which may be a key: a number, a string, one of the two truths
pub data Lit : Type 0 where
  Number : ℤ → Lit
  Quoted : Quote → Lit
  Truth : Bool → Lit

-- the prefixes `-` and `not`
pub data Sign : Type 0 where
  Negative : Span → Sign
  Negates : Span → Sign

-- `.` and `?.`; `[` and `?[`
pub data Joint : Type 0 where
  plain_dot : Span → Joint
  optional_dot : Span → Joint

pub data Bracket : Type 0 where
  plain_bracket : Span → Bracket
  optional_bracket : Span → Bracket

-- the `not` of `is not`
pub data Negation : Type 0 where
  plainly : Negation
  negated : Span → Negation

-- the second variable of a comprehension, after a comma
pub data Second : Type 0 where
  no_second : Second
  second : Span → Name → Second

-- the further names of a component
pub data Dotted : Type 0 where
  no_dots : Dotted
  dots : Span → Name → Dotted → Dotted

-- a binary operator: of one token, or `not in`
pub data Op : Type 0 where
  Single : BinaryOperator → Span → Op
  NotIn : Span → Span → Op

-- the kinds of rows: the arguments of a call, the items of an array, the entries of a map
pub data Kind : Type 0 where
  of_arguments of_items of_entries : Kind

-- A suffix closes its operand on the right; an operator is between two operands, and the `if c else` of a ternary is
-- one.
mutual
  pub data Tree : Type 0 where
    Atomic : Atom → Tree
    Prefix : Sign → Tree → Tree
    Suffixed : Tree → Suffix → Tree
    Infix : Tree → Operator → Tree → Tree

  pub data Atom : Type 0 where
    Literal : Lit → Span → Atom
    -- a word for no value
    Null : Name → Atom
    Chain : Name → Links → Atom
    -- the name, `(`, the arguments up to `)`
    Call : Name → Span → Row → Atom
    Paren : Span → Tree → Span → Atom
    -- `[`, and the items up to `]`
    Array : Span → Row → Atom
    -- `[`, the element, `for`, the variables, `in`, the target, the condition after `if`, `]`
    Comprehension : Span → Tree → Span → Name → Second → Span → Tree → Extra → Span → Atom
    -- `{`, and the entries up to `}`
    Map : Span → Row → Atom
    -- `<`, the name, the attributes, `/`, `>`
    Component : Span → Name → Dotted → Attributes → Span → Span → Atom

  -- what hangs on a name: `.name`, `?.name`, `[..]`, `?[..]`
  pub data Links : Type 0 where
    no_links : Links
    field : Joint → Name → Links → Links
    item : Bracket → Sub → Links → Links

  -- what comes after an opening bracket, up to the closing one: an expression; or the start, `:`, the end, and the step
  -- after a second `:`
  pub data Sub : Type 0 where
    index : Tree → Span → Sub
    slice : Part → Span → Part → Extra → Span → Sub

  pub data Part : Type 0 where
    absent : Part
    present : Tree → Part

  -- an expression after a mark of its own, or none: the step of a slice, the condition of a comprehension
  pub data Extra : Type 0 where
    no_extra : Extra
    extra : Span → Tree → Extra

  -- what comes after an opening bracket, up to the closing one: elements parted by commas, of which one may come after
  -- the last
  pub data Row : Type 0 where
    ended : Span → Row
    only : Element → Span → Row
    then : Element → Span → Row → Row

  pub data Element : Type 0 where
    plain : Tree → Element
    spread : Span → Tree → Element
    -- the key, `:`, the value
    pair : Lit → Span → Span → Tree → Element
    -- the name, `=`, the value
    argument : Name → Span → Tree → Element

  -- an attribute is a name; or a name, `=` and a string; or a name, `=` and an expression in braces; or `...`
  -- and an expression in braces
  pub data Attributes : Type 0 where
    no_attributes : Attributes
    bare : Name → Attributes → Attributes
    quoted : Name → Span → Quote → Span → Attributes → Attributes
    valued : Name → Span → Span → Tree → Span → Attributes → Attributes
    spreading : Span → Span → Tree → Span → Attributes → Attributes

  -- `is`, the `not` after it, the name of the test and its arguments; the bar, the name of the filter and its
  -- arguments; `[` and what comes after it
  pub data Suffix : Type 0 where
    Test : Span → Negation → Name → Args → Suffix
    Filter : Span → Name → Args → Suffix
    Subscript : Span → Sub → Suffix

  pub data Args : Type 0 where
    no_args : Args
    args : Span → Row → Args

  -- `if`, the condition and `else`
  pub data Operator : Type 0 where
    Binary : Op → Operator
    Condition : Span → Tree → Span → Operator

-- the token of a string, and of a literal
abbrev pub quote_token : Quote → Tok
quote_token (Simple text) = toks.Str text
quote_token (Escaped text) = toks.Escaped text

abbrev pub literal_token : Lit → Tok
literal_token (Number n) = toks.Integer n
literal_token (Quoted q) = quote_token q
literal_token (Truth b) = toks.Truth b

abbrev pub name_yield : Name → Items → Items
name_yield n r = Token (toks.Ident n.text) n.span r

abbrev pub sign_yield : Sign → Items → Items
sign_yield (Negative s) r = mark (Operation Minus) s r
sign_yield (Negates s) r = mark Not s r

abbrev pub joint_yield : Joint → Items → Items
joint_yield (plain_dot s) r = mark Dot s r
joint_yield (optional_dot s) r = mark QuestionDot s r

abbrev pub bracket_yield : Bracket → Items → Items
bracket_yield (plain_bracket s) r = mark LeftBracket s r
bracket_yield (optional_bracket s) r = mark QuestionBracket s r

abbrev pub negation_yield : Negation → Items → Items
negation_yield plainly r = r
negation_yield (negated s) r = mark Not s r

abbrev pub second_yield : Second → Items → Items
second_yield no_second r = r
second_yield (second s n) r = mark Comma s (name_yield n r)

abbrev pub dotted_yield : Dotted → Items → Items
dotted_yield no_dots r = r
dotted_yield (dots s n ds) r = mark Dot s (name_yield n (dotted_yield ds r))

abbrev pub op_yield : Op → Items → Items
op_yield (Single o s) r = mark (Operation o) s r
op_yield (NotIn s t) r = mark Not s (mark (Operation In) t r)

-- the mark that closes a row
abbrev pub closing : Kind → Mark
closing of_arguments = RightParen
closing of_items = RightBracket
closing of_entries = RightBrace

-- the tokens of an expression, in front of others
abbrev mutual
  pub yield : Tree → Items → Items
  yield (Atomic a) r = atom_yield a r
  yield (Prefix s e) r = sign_yield s (yield e r)
  yield (Suffixed a s) r = yield a (suffix_yield s r)
  yield (Infix a o b) r = yield a (operator_yield o (yield b r))

  pub atom_yield : Atom → Items → Items
  atom_yield (Literal l s) r = Token (literal_token l) s r
  atom_yield (Null n) r = name_yield n r
  atom_yield (Chain n ls) r = name_yield n (links_yield ls r)
  atom_yield (Call n s row) r = name_yield n (mark LeftParen s (row_yield of_arguments row r))
  atom_yield (Paren s e t) r = mark LeftParen s (yield e (mark RightParen t r))
  atom_yield (Array s row) r = mark LeftBracket s (row_yield of_items row r)
  atom_yield (Comprehension s element f n m i target guard c) r =
      mark LeftBracket s (yield element (mark For f (name_yield n (second_yield m
      (mark (Operation In) i (yield target (extra_yield If guard (mark RightBracket c r))))))))
  atom_yield (Map s row) r = mark LeftBrace s (row_yield of_entries row r)
  atom_yield (Component s n ds ats t u) r =
      mark (Operation LessThan) s (name_yield n (dotted_yield ds (attributes_yield ats
      (mark (Operation Div) t (mark (Operation GreaterThan) u r)))))

  pub links_yield : Links → Items → Items
  links_yield no_links r = r
  links_yield (field d n ls) r = joint_yield d (name_yield n (links_yield ls r))
  links_yield (item b s ls) r = bracket_yield b (sub_yield s (links_yield ls r))

  pub sub_yield : Sub → Items → Items
  sub_yield (index e c) r = yield e (mark RightBracket c r)
  sub_yield (slice start s stop step c) r =
      part_yield start (mark Colon s (part_yield stop (extra_yield Colon step (mark RightBracket c r))))

  pub part_yield : Part → Items → Items
  part_yield absent r = r
  part_yield (present e) r = yield e r

  pub extra_yield : Mark → Extra → Items → Items
  extra_yield m no_extra r = r
  extra_yield m (extra s e) r = mark m s (yield e r)

  pub row_yield : Kind → Row → Items → Items
  row_yield k (ended s) r = mark (closing k) s r
  row_yield k (only x s) r = element_yield x (mark (closing k) s r)
  row_yield k (then x s xs) r = element_yield x (mark Comma s (row_yield k xs r))

  pub element_yield : Element → Items → Items
  element_yield (plain e) r = yield e r
  element_yield (spread s e) r = mark Spread s (yield e r)
  element_yield (pair l s t e) r = Token (literal_token l) s (mark Colon t (yield e r))
  element_yield (argument n s e) r = name_yield n (mark Assign s (yield e r))

  pub attributes_yield : Attributes → Items → Items
  attributes_yield no_attributes r = r
  attributes_yield (bare n ats) r = name_yield n (attributes_yield ats r)
  attributes_yield (quoted n s q t ats) r = name_yield n (mark Assign s (Token (quote_token q) t (attributes_yield ats r)))
  attributes_yield (valued n s b e c ats) r = name_yield n (mark Assign s
      (mark LeftBrace b (yield e (mark RightBrace c (attributes_yield ats r)))))
  attributes_yield (spreading b s e c ats) r = mark LeftBrace b
      (mark Spread s (yield e (mark RightBrace c (attributes_yield ats r))))

  pub suffix_yield : Suffix → Items → Items
  suffix_yield (Test s n w g) r = mark Is s (negation_yield n (name_yield w (args_yield g r)))
  suffix_yield (Filter s w g) r = mark Bar s (name_yield w (args_yield g r))
  suffix_yield (Subscript s b) r = mark LeftBracket s (sub_yield b r)

  pub args_yield : Args → Items → Items
  args_yield no_args r = r
  args_yield (args s row) r = mark LeftParen s (row_yield of_arguments row r)

  pub operator_yield : Operator → Items → Items
  operator_yield (Binary o) r = op_yield o r
  operator_yield (Condition s c t) r = mark If s (yield c (mark Else t r))
