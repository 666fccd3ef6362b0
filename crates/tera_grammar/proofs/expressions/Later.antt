-- What holds of tokens and passes to tokens in front of them holds of an expression in front of them: as that a fault
-- comes after.
use Rattle.std.proofs.Common.{◌≡◌, true, refl}
use Rattle.tera_base.specs.declared.utils.Span.{Span}
use Rattle.tera_lexer.specs.grammar.Tokens.{Tok, Items, Token}
use Rattle.tera_lexer.specs.grammar.Tiling.{in_tag_after}
use Rattle.tera_grammar.specs.expressions.Operators.{BinaryOperator, Mul, Div, Mod, Plus, Minus, FloorDiv, Power, LessThan, GreaterThan, LessThanOrEqual, GreaterThanOrEqual, Equal, NotEqual, And, Or, StrConcat, In}
use Rattle.tera_grammar.specs.expressions.Marks.{Mark, LeftParen, RightParen, LeftBracket, RightBracket, QuestionBracket, LeftBrace, RightBrace, Comma, Colon, Dot, QuestionDot, Spread, Assign, Bar, At, Not, Is, If, Else, For, Operation, Other, operator_token, mark_token}
use Rattle.tera_grammar.specs.expressions.Concrete.{Quote, Simple, Escaped, Lit, Number, Quoted, Truth, quote_token, literal_token, closing, Sign, Negative, Negates, Joint, plain_dot, optional_dot, Bracket, plain_bracket, optional_bracket, Negation, plainly, negated, Second, no_second, second, Dotted, no_dots, dots, Op, Single, NotIn, Kind, of_arguments, of_items, of_entries, Tree, Atomic, Prefix, Suffixed, Infix, Atom, Literal, Null, Chain, Call, Paren, Array, Comprehension, Map, Component, Links, no_links, field, item, Sub, index, slice, Part, absent, present, Extra, no_extra, extra, Row, ended, only, then, Element, plain, spread, pair, argument, Attributes, no_attributes, bare, quoted, valued, spreading, Suffix, Test, Filter, Subscript, Args, no_args, args, Operator, Binary, Condition, sign_yield, joint_yield, bracket_yield, negation_yield, second_yield, dotted_yield, op_yield, yield, atom_yield, links_yield, sub_yield, part_yield, extra_yield, row_yield, element_yield, attributes_yield, suffix_yield, args_yield, operator_yield}

-- a token that is not a marker
abbrev pub IsInside : Tok → Type 0
IsInside t = in_tag_after true t ≡ true

operator_inside : (o : BinaryOperator) → IsInside (operator_token o)
operator_inside Mul = refl
operator_inside Div = refl
operator_inside Mod = refl
operator_inside Plus = refl
operator_inside Minus = refl
operator_inside FloorDiv = refl
operator_inside Power = refl
operator_inside LessThan = refl
operator_inside GreaterThan = refl
operator_inside LessThanOrEqual = refl
operator_inside GreaterThanOrEqual = refl
operator_inside Equal = refl
operator_inside NotEqual = refl
operator_inside And = refl
operator_inside Or = refl
operator_inside StrConcat = refl
operator_inside In = refl

pub mark_inside : (m : Mark) → IsInside (mark_token m)
mark_inside LeftParen = refl
mark_inside RightParen = refl
mark_inside LeftBracket = refl
mark_inside RightBracket = refl
mark_inside QuestionBracket = refl
mark_inside LeftBrace = refl
mark_inside RightBrace = refl
mark_inside Comma = refl
mark_inside Colon = refl
mark_inside Dot = refl
mark_inside QuestionDot = refl
mark_inside Spread = refl
mark_inside Assign = refl
mark_inside Bar = refl
mark_inside At = refl
mark_inside Not = refl
mark_inside Is = refl
mark_inside If = refl
mark_inside Else = refl
mark_inside For = refl
mark_inside (Operation o) = operator_inside o
mark_inside Other = refl

quote_inside : (q : Quote) → IsInside (quote_token q)
quote_inside (Simple text) = refl
quote_inside (Escaped text) = refl

literal_inside : (l : Lit) → IsInside (literal_token l)
literal_inside (Number n) = refl
literal_inside (Quoted q) = quote_inside q
literal_inside (Truth b) = refl

module _ (P : Items → Type 0) (later : (t : Tok) (s : Span) (r : Items) → IsInside t → P r → P (Token t s r)) where
  sign_later : (x : Sign) (r : Items) → P r → P (sign_yield x r)
  sign_later (Negative s) r h = later _ s r refl h
  sign_later (Negates s) r h = later _ s r refl h

  joint_later : (x : Joint) (r : Items) → P r → P (joint_yield x r)
  joint_later (plain_dot s) r h = later _ s r refl h
  joint_later (optional_dot s) r h = later _ s r refl h

  bracket_later : (x : Bracket) (r : Items) → P r → P (bracket_yield x r)
  bracket_later (plain_bracket s) r h = later _ s r refl h
  bracket_later (optional_bracket s) r h = later _ s r refl h

  op_later : (x : Op) (r : Items) → P r → P (op_yield x r)
  op_later (Single o s) r h = later _ s r (operator_inside o) h
  op_later (NotIn s t) r h = later _ s _ refl (later _ t r refl h)

  negation_later : (x : Negation) (r : Items) → P r → P (negation_yield x r)
  negation_later plainly r h = h
  negation_later (negated s) r h = later _ s r refl h

  second_later : (x : Second) (r : Items) → P r → P (second_yield x r)
  second_later no_second r h = h
  second_later (second s n) r h = later _ s _ refl (later _ n.span r refl h)

  pub dotted_later : (x : Dotted) (r : Items) → P r → P (dotted_yield x r)
  dotted_later no_dots r h = h
  dotted_later (dots s n ds) r h = later _ s _ refl (later _ n.span _ refl (dotted_later ds r h))

  mutual
    pub yield_later : (t : Tree) (r : Items) → P r → P (yield t r)
    yield_later (Atomic a) r h = atom_later a r h
    yield_later (Prefix s e) r h = sign_later s _ (yield_later e r h)
    yield_later (Suffixed a s) r h = yield_later a _ (suffix_later s r h)
    yield_later (Infix a o b) r h = yield_later a _ (operator_later o _ (yield_later b r h))

    atom_later : (a : Atom) (r : Items) → P r → P (atom_yield a r)
    atom_later (Literal l s) r h = later _ s r (literal_inside l) h
    atom_later (Null n) r h = later _ n.span r refl h
    atom_later (Chain n ls) r h = later _ n.span _ refl (links_later ls r h)
    atom_later (Call n s row) r h = later _ n.span _ refl (later _ s _ refl (row_later of_arguments row r h))
    atom_later (Paren s e t) r h = later _ s _ refl (yield_later e _ (later _ t r refl h))
    atom_later (Array s row) r h = later _ s _ refl (row_later of_items row r h)
    atom_later (Comprehension s e f n m i t g c) r h =
        later _ s _ refl (yield_later e _ (later _ f _ refl (later _ n.span _ refl
        (second_later m _ (later _ i _ refl (yield_later t _ (extra_later If g _ (later _ c r refl h))))))))
    atom_later (Map s row) r h = later _ s _ refl (row_later of_entries row r h)
    atom_later (Component s n ds ats t u) r h = later _ s _ refl (later _ n.span _ refl
        (dotted_later ds _ (attributes_later ats _ (later _ t _ refl (later _ u r refl h)))))

    links_later : (ls : Links) (r : Items) → P r → P (links_yield ls r)
    links_later no_links r h = h
    links_later (field d n ls) r h = joint_later d _ (later _ n.span _ refl (links_later ls r h))
    links_later (item b s ls) r h = bracket_later b _ (sub_later s _ (links_later ls r h))

    sub_later : (s : Sub) (r : Items) → P r → P (sub_yield s r)
    sub_later (index e c) r h = yield_later e _ (later _ c r refl h)
    sub_later (slice a s b x c) r h = part_later a _ (later _ s _ refl (part_later b _ (extra_later Colon x _ (later _ c r refl h))))

    part_later : (p : Part) (r : Items) → P r → P (part_yield p r)
    part_later absent r h = h
    part_later (present e) r h = yield_later e r h

    extra_later : (m : Mark) (x : Extra) (r : Items) → P r → P (extra_yield m x r)
    extra_later m no_extra r h = h
    extra_later m (extra s e) r h = later _ s _ (mark_inside m) (yield_later e r h)

    pub row_later : (k : Kind) (row : Row) (r : Items) → P r → P (row_yield k row r)
    row_later k (ended s) r h = later _ s r (mark_inside (closing k)) h
    row_later k (only x s) r h = element_later x _ (later _ s r (mark_inside (closing k)) h)
    row_later k (then x s xs) r h = element_later x _ (later _ s _ refl (row_later k xs r h))

    element_later : (x : Element) (r : Items) → P r → P (element_yield x r)
    element_later (plain e) r h = yield_later e r h
    element_later (spread s e) r h = later _ s _ refl (yield_later e r h)
    element_later (pair l s t e) r h = later _ s _ (literal_inside l) (later _ t _ refl (yield_later e r h))
    element_later (argument n s e) r h = later _ n.span _ refl (later _ s _ refl (yield_later e r h))

    pub attributes_later : (x : Attributes) (r : Items) → P r → P (attributes_yield x r)
    attributes_later no_attributes r h = h
    attributes_later (bare n ats) r h = later _ n.span _ refl (attributes_later ats r h)
    attributes_later (quoted n s q t ats) r h = later _ n.span _ refl (later _ s _ refl (later _ t _ (quote_inside q) (attributes_later ats r h)))
    attributes_later (valued n s b e c ats) r h = later _ n.span _ refl
        (later _ s _ refl (later _ b _ refl (yield_later e _ (later _ c _ refl (attributes_later ats r h)))))
    attributes_later (spreading b s e c ats) r h = later _ b _ refl
        (later _ s _ refl (yield_later e _ (later _ c _ refl (attributes_later ats r h))))

    suffix_later : (s : Suffix) (r : Items) → P r → P (suffix_yield s r)
    suffix_later (Test s n w g) r h = later _ s _ refl (negation_later n _ (later _ w.span _ refl (args_later g r h)))
    suffix_later (Filter s w g) r h = later _ s _ refl (later _ w.span _ refl (args_later g r h))
    suffix_later (Subscript s b) r h = later _ s _ refl (sub_later b r h)

    pub args_later : (g : Args) (r : Items) → P r → P (args_yield g r)
    args_later no_args r h = h
    args_later (args s row) r h = later _ s _ refl (row_later of_arguments row r h)

    operator_later : (o : Operator) (r : Items) → P r → P (operator_yield o r)
    operator_later (Binary o) r h = op_later o r h
    operator_later (Condition s c t) r h = later _ s _ refl (yield_later c _ (later _ t r refl h))
