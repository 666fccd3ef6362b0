-- The tokens of what is written can be spelled, where its names, literals and strings can.
use Rattle.std.proofs.Common.{ℕ, suc, Bool, true, false, cond, ◌||◌, refl}
use Rattle.std.specs.Prelude.{ltb}
use Rattle.tera_base.specs.declared.utils.Span.{Span}
use Rattle.tera_lexer.specs.grammar.Tokens.{Items}
use Rattle.tera_grammar.specs.expressions.Operators.{BinaryOperator, Mul, Div, Mod, Plus, Minus, FloorDiv, Power, LessThan, GreaterThan, LessThanOrEqual, GreaterThanOrEqual, Equal, NotEqual, And, Or, StrConcat, In}
use Rattle.tera_grammar.specs.expressions.Marks.{Mark, mark, mark_token, LeftParen, RightParen, LeftBracket, RightBracket, QuestionBracket, LeftBrace, RightBrace, Comma, Colon, Dot, QuestionDot, Spread, Assign, Bar, At, Not, Is, If, Else, For, Operation, Other}
use Rattle.tera_grammar.specs.expressions.Concrete.{Sign, Negative, Negates, Joint, plain_dot, optional_dot, Bracket, plain_bracket, optional_bracket, Negation, plainly, negated, Second, no_second, second, Dotted, no_dots, dots, Single, NotIn, Kind, of_arguments, of_items, of_entries, Tree, Atomic, Prefix, Suffixed, Infix, Atom, Literal, Null, Chain, Call, Paren, Array, Comprehension, Map, Component, Links, no_links, field, item, Sub, index, slice, Part, absent, present, Extra, no_extra, extra, Row, ended, only, then, Element, plain, spread, pair, argument, Attributes, no_attributes, bare, quoted, valued, spreading, Suffix, Test, Filter, Subscript, Args, no_args, args, Op, Operator, Binary, Condition, yield, atom_yield, sign_yield, joint_yield, bracket_yield, negation_yield, second_yield, dotted_yield, op_yield, closing, links_yield, sub_yield, part_yield, extra_yield, row_yield, element_yield, attributes_yield, suffix_yield, args_yield, operator_yield}
use Rattle.tera_grammar.specs.expressions.Powers.{sign_power, left_power, right_power}
use Rattle.tera_spelling.specs.Spelling.{IsSpelled, AreSpelled}
use Rattle.tera_source.specs.Source.{asked, kept_out, paren, paren_atom, paren_links, paren_sub, paren_part, paren_extra, paren_row, paren_element, paren_attributes, paren_suffix, paren_args, paren_operator}
use Rattle.tera_source.proofs.Holds.{HoldsSecond, HoldsDotted, Holds, HoldsAtom, HoldsLinks, HoldsSub, HoldsPart, HoldsExtra, HoldsRow, HoldsElement, HoldsAttributes, HoldsSuffix, HoldsArgs, HoldsOperator}

abbrev IsWritten : Mark → Type 0
IsWritten Other = ⊥
IsWritten m = Unit {0}

operator_spelled : (o : BinaryOperator) → IsSpelled (mark_token (Operation o))
operator_spelled Mul = refl
operator_spelled Div = refl
operator_spelled Mod = refl
operator_spelled Plus = refl
operator_spelled Minus = refl
operator_spelled FloorDiv = refl
operator_spelled Power = refl
operator_spelled LessThan = refl
operator_spelled GreaterThan = refl
operator_spelled LessThanOrEqual = refl
operator_spelled GreaterThanOrEqual = refl
operator_spelled Equal = refl
operator_spelled NotEqual = refl
operator_spelled And = ((refl, (refl, (refl, tt))), refl)
operator_spelled Or = ((refl, (refl, tt)), refl)
operator_spelled StrConcat = refl
operator_spelled In = ((refl, (refl, tt)), refl)

mark_spelled : (m : Mark) → IsWritten m → IsSpelled (mark_token m)
mark_spelled LeftParen h = refl
mark_spelled RightParen h = refl
mark_spelled LeftBracket h = refl
mark_spelled RightBracket h = refl
mark_spelled QuestionBracket h = refl
mark_spelled LeftBrace h = refl
mark_spelled RightBrace h = refl
mark_spelled Comma h = refl
mark_spelled Colon h = refl
mark_spelled Dot h = refl
mark_spelled QuestionDot h = refl
mark_spelled Spread h = refl
mark_spelled Assign h = refl
mark_spelled Bar h = refl
mark_spelled At h = refl
mark_spelled Not h = ((refl, (refl, (refl, tt))), refl)
mark_spelled Is h = ((refl, (refl, tt)), refl)
mark_spelled If h = ((refl, (refl, tt)), refl)
mark_spelled Else h = ((refl, (refl, (refl, (refl, tt)))), refl)
mark_spelled For h = ((refl, (refl, (refl, tt))), refl)
mark_spelled (Operation o) h = operator_spelled o
mark_spelled Other h = absurd h

sign_spelled : (s : Sign) (r : Items) → AreSpelled r → AreSpelled (sign_yield s r)
sign_spelled (Negative s) r g = (mark_spelled (Operation Minus) tt, g)
sign_spelled (Negates s) r g = (mark_spelled Not tt, g)

joint_spelled : (d : Joint) (r : Items) → AreSpelled r → AreSpelled (joint_yield d r)
joint_spelled (plain_dot s) r g = (mark_spelled Dot tt, g)
joint_spelled (optional_dot s) r g = (mark_spelled QuestionDot tt, g)

bracket_spelled : (b : Bracket) (r : Items) → AreSpelled r → AreSpelled (bracket_yield b r)
bracket_spelled (plain_bracket s) r g = (mark_spelled LeftBracket tt, g)
bracket_spelled (optional_bracket s) r g = (mark_spelled QuestionBracket tt, g)

negation_spelled : (n : Negation) (r : Items) → AreSpelled r → AreSpelled (negation_yield n r)
negation_spelled plainly r g = g
negation_spelled (negated s) r g = (mark_spelled Not tt, g)

second_spelled : (m : Second) (r : Items) → HoldsSecond IsSpelled m → AreSpelled r → AreSpelled (second_yield m r)
second_spelled no_second r h g = g
second_spelled (second s n) r h g = (mark_spelled Comma tt, (h, g))

dotted_spelled : (ds : Dotted) (r : Items) → HoldsDotted IsSpelled ds → AreSpelled r → AreSpelled (dotted_yield ds r)
dotted_spelled no_dots r h g = g
dotted_spelled (dots s n ds) r h g = (mark_spelled Dot tt, (h.0, dotted_spelled ds r h.1 g))

op_spelled : (o : Op) (r : Items) → AreSpelled r → AreSpelled (op_yield o r)
op_spelled (Single o s) r g = (mark_spelled (Operation o) tt, g)
op_spelled (NotIn s t) r g = (mark_spelled Not tt, (mark_spelled (Operation In) tt, g))

closing_spelled : (k : Kind) (s : Span) (r : Items) → AreSpelled r → AreSpelled (mark (closing k) s r)
closing_spelled of_arguments s r g = (mark_spelled RightParen tt, g)
closing_spelled of_items s r g = (mark_spelled RightBracket tt, g)
closing_spelled of_entries s r g = (mark_spelled RightBrace tt, g)

spelled_cond : (b : Bool) (x y : Tree) (r : Items) → AreSpelled (yield x r) → AreSpelled (yield y r) → AreSpelled (yield (cond b x y) r)
spelled_cond true x y r one two = one
spelled_cond false x y r one two = two

mutual
  pub paren_spelled : (m q : ℕ) (p : Bool) (t : Tree) (r : Items) → Holds IsSpelled t → AreSpelled r → AreSpelled (yield (paren m q p t) r)
  paren_spelled m q p (Atomic a) r h g = atom_spelled a r h g
  paren_spelled m q p (Prefix s e) r h g =
      spelled_cond (p || ltb (sign_power s) q) _ _ r
      (mark_spelled LeftParen tt, sign_spelled s _ (paren_spelled (sign_power s) 0 true e _ h (mark_spelled RightParen tt, g)))
      (sign_spelled s _ (paren_spelled (sign_power s) q true e r h g))
  paren_spelled m q p (Suffixed a s) r h g =
      spelled_cond (kept_out m s) _ _ r
      (mark_spelled LeftParen tt, paren_spelled 0 (asked s) false a _ h.0 (suffix_spelled s _ h.1 (mark_spelled RightParen tt, g)))
      (paren_spelled m (asked s) p a _ h.0 (suffix_spelled s r h.1 g))
  paren_spelled m q p (Infix a o b) r h g =
      spelled_cond (ltb (left_power o) m || ltb (right_power o) q) _ _ r (
        mark_spelled LeftParen tt,
        paren_spelled 0 (suc (left_power o)) false a _ h.0
            (between_spelled o _ h.1 (paren_spelled (right_power o) 0 false b _ h.2 (mark_spelled RightParen tt, g))),
      )
      (paren_spelled m (suc (left_power o)) p a _ h.0 (between_spelled o _ h.1 (paren_spelled (right_power o) q false b r h.2 g)))

  atom_spelled : (a : Atom) (r : Items) → HoldsAtom IsSpelled a → AreSpelled r → AreSpelled (atom_yield (paren_atom a) r)
  atom_spelled (Literal x s) r h g = (h, g)
  atom_spelled (Null n) r h g = (h, g)
  atom_spelled (Chain n ls) r h g = (h.0, links_spelled ls r h.1 g)
  atom_spelled (Call n s row) r h g = (h.0, (mark_spelled LeftParen tt, row_spelled of_arguments row r h.1 g))
  atom_spelled (Paren s e t) r h g = (mark_spelled LeftParen tt, paren_spelled 0 0 false e _ h (mark_spelled RightParen tt, g))
  atom_spelled (Array s row) r h g = (mark_spelled LeftBracket tt, row_spelled of_items row r h g)
  atom_spelled (Comprehension s e f n m i t x c) r h g = (mark_spelled LeftBracket tt, paren_spelled 0 0 false e _ h.0 (mark_spelled For tt, (h.3, second_spelled m _ h.4 (mark_spelled (Operation In) tt, paren_spelled 1 0 false t _ h.1 (extra_spelled If tt 1 x _ h.2 (mark_spelled RightBracket tt, g))))))
  atom_spelled (Map s row) r h g = (mark_spelled LeftBrace tt, row_spelled of_entries row r h g)
  atom_spelled (Component s n ds ats t u) r h g = (mark_spelled (Operation LessThan) tt, (h.1, dotted_spelled ds _ h.2 (attributes_spelled ats _ h.0 (mark_spelled (Operation Div) tt, (mark_spelled (Operation GreaterThan) tt, g)))))

  links_spelled : (ls : Links) (r : Items) → HoldsLinks IsSpelled ls → AreSpelled r → AreSpelled (links_yield (paren_links ls) r)
  links_spelled no_links r h g = g
  links_spelled (field d n ls) r h g = joint_spelled d _ (h.0, links_spelled ls r h.1 g)
  links_spelled (item b s ls) r h g = bracket_spelled b _ (sub_spelled s _ h.0 (links_spelled ls r h.1 g))

  sub_spelled : (s : Sub) (r : Items) → HoldsSub IsSpelled s → AreSpelled r → AreSpelled (sub_yield (paren_sub s) r)
  sub_spelled (index e c) r h g = paren_spelled 0 0 false e _ h (mark_spelled RightBracket tt, g)
  sub_spelled (slice a s b x c) r h g =
      part_spelled a _ h.0 (mark_spelled Colon tt, part_spelled b _ h.1 (extra_spelled Colon tt 0 x _ h.2 (mark_spelled RightBracket tt, g)))

  part_spelled : (a : Part) (r : Items) → HoldsPart IsSpelled a → AreSpelled r → AreSpelled (part_yield (paren_part a) r)
  part_spelled absent r h g = g
  part_spelled (present e) r h g = paren_spelled 0 0 false e r h g

  extra_spelled : (m : Mark) → IsWritten m → (k : ℕ) (x : Extra) (r : Items) → HoldsExtra IsSpelled x → AreSpelled r → AreSpelled (extra_yield m (paren_extra k x) r)
  extra_spelled m is k no_extra r h g = g
  extra_spelled m is k (extra s e) r h g = (mark_spelled m is, paren_spelled k 0 false e r h g)

  row_spelled : (k : Kind) (row : Row) (r : Items) → HoldsRow IsSpelled row → AreSpelled r → AreSpelled (row_yield k (paren_row row) r)
  row_spelled k (ended s) r h g = closing_spelled k s r g
  row_spelled k (only x s) r h g = element_spelled x _ h (closing_spelled k s r g)
  row_spelled k (then x s xs) r h g = element_spelled x _ h.0 (mark_spelled Comma tt, row_spelled k xs r h.1 g)

  element_spelled : (x : Element) (r : Items) → HoldsElement IsSpelled x → AreSpelled r → AreSpelled (element_yield (paren_element x) r)
  element_spelled (plain e) r h g = paren_spelled 0 0 false e r h g
  element_spelled (spread s e) r h g = (mark_spelled Spread tt, paren_spelled 0 0 false e r h g)
  element_spelled (pair x s t e) r h g = (h.0, (mark_spelled Colon tt, paren_spelled 0 0 false e r h.1 g))
  element_spelled (argument n s e) r h g = (h.0, (mark_spelled Assign tt, paren_spelled 0 0 false e r h.1 g))

  attributes_spelled : (ats : Attributes) (r : Items) → HoldsAttributes IsSpelled ats → AreSpelled r → AreSpelled (attributes_yield (paren_attributes ats) r)
  attributes_spelled no_attributes r h g = g
  attributes_spelled (bare n ats) r h g = (h.0, attributes_spelled ats r h.1 g)
  attributes_spelled (quoted n s q t ats) r h g = (h.0, (mark_spelled Assign tt, (h.1, attributes_spelled ats r h.2 g)))
  attributes_spelled (valued n s b e c ats) r h g =
      (h.0, (mark_spelled Assign tt, (mark_spelled LeftBrace tt, paren_spelled 0 0 false e _ h.1 (mark_spelled RightBrace tt, attributes_spelled ats r h.2 g))))
  attributes_spelled (spreading b s e c ats) r h g =
      (mark_spelled LeftBrace tt, (mark_spelled Spread tt, paren_spelled 0 0 false e _ h.0 (mark_spelled RightBrace tt, attributes_spelled ats r h.1 g)))

  suffix_spelled : (s : Suffix) (r : Items) → HoldsSuffix IsSpelled s → AreSpelled r → AreSpelled (suffix_yield (paren_suffix s) r)
  suffix_spelled (Test s n w x) r h g = (mark_spelled Is tt, negation_spelled n _ (h.0, args_spelled x r h.1 g))
  suffix_spelled (Filter s w x) r h g = (mark_spelled Bar tt, (h.0, args_spelled x r h.1 g))
  suffix_spelled (Subscript s b) r h g = (mark_spelled LeftBracket tt, sub_spelled b r h g)

  args_spelled : (x : Args) (r : Items) → HoldsArgs IsSpelled x → AreSpelled r → AreSpelled (args_yield (paren_args x) r)
  args_spelled no_args r h g = g
  args_spelled (args s row) r h g = (mark_spelled LeftParen tt, row_spelled of_arguments row r h g)

  between_spelled : (o : Operator) (r : Items) → HoldsOperator IsSpelled o → AreSpelled r → AreSpelled (operator_yield (paren_operator o) r)
  between_spelled (Binary o) r h g = op_spelled o r g
  between_spelled (Condition s c t) r h g = (mark_spelled If tt, paren_spelled 0 0 false c _ h (mark_spelled Else tt, g))
