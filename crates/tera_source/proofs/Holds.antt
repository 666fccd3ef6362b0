-- Something holds of each token of an expression that holds something: of its names, literals and strings.
use Rattle.tera_lexer.specs.grammar.Tokens.{Tok, Ident, Items}
use Rattle.tera_grammar.specs.expressions.Operators.{Div, GreaterThan}
use Rattle.tera_grammar.specs.expressions.Marks.{Mark, mark, RightParen, RightBracket, RightBrace, Comma, Colon, Operation, If, Else}
use Rattle.tera_grammar.specs.expressions.Concrete.{Name, Sign, Negative, Negates, Joint, plain_dot, optional_dot, Bracket, plain_bracket, optional_bracket, Negation, plainly, negated, Second, no_second, second, Dotted, no_dots, dots, Single, NotIn, Kind, of_arguments, of_items, of_entries, Tree, Atomic, Prefix, Suffixed, Infix, Atom, Literal, Null, Chain, Call, Paren, Array, Comprehension, Map, Component, Links, no_links, field, item, Sub, index, slice, Part, absent, present, Extra, no_extra, extra, Row, ended, only, then, Element, plain, spread, pair, argument, Attributes, no_attributes, bare, quoted, valued, spreading, Suffix, Test, Filter, Subscript, Args, no_args, args, Op, Operator, Binary, Condition, quote_token, literal_token, name_yield, yield, atom_yield, sign_yield, joint_yield, bracket_yield, negation_yield, second_yield, dotted_yield, op_yield, closing, links_yield, sub_yield, part_yield, extra_yield, row_yield, element_yield, attributes_yield, suffix_yield, args_yield, operator_yield}
use Rattle.tera_spelling.specs.Given.{EachToken}

module _ (P : Tok → Type 0) where
  abbrev pub HoldsName : Name → Type 0
  HoldsName n = P (Ident n.text)

  abbrev pub HoldsSecond : Second → Type 0
  HoldsSecond no_second = Unit {0}
  HoldsSecond (second s n) = HoldsName n

  abbrev pub HoldsDotted : Dotted → Type 0
  HoldsDotted no_dots = Unit {0}
  HoldsDotted (dots s n ds) = HoldsName n × HoldsDotted ds

  abbrev mutual
    pub Holds : Tree → Type 0
    Holds (Atomic a) = HoldsAtom a
    Holds (Prefix s e) = Holds e
    Holds (Suffixed a s) = Holds a × HoldsSuffix s
    Holds (Infix a o b) = Holds a × HoldsOperator o × Holds b

    pub HoldsAtom : Atom → Type 0
    HoldsAtom (Literal x s) = P (literal_token x)
    HoldsAtom (Null n) = HoldsName n
    HoldsAtom (Chain n ls) = HoldsName n × HoldsLinks ls
    HoldsAtom (Call n s row) = HoldsName n × HoldsRow row
    HoldsAtom (Paren s e t) = Holds e
    HoldsAtom (Array s row) = HoldsRow row
    HoldsAtom (Comprehension s e f n m i t g c) = Holds e × Holds t × HoldsExtra g × HoldsName n × HoldsSecond m
    HoldsAtom (Map s row) = HoldsRow row
    HoldsAtom (Component s n ds ats t u) = HoldsAttributes ats × HoldsName n × HoldsDotted ds

    pub HoldsLinks : Links → Type 0
    HoldsLinks no_links = Unit {0}
    HoldsLinks (field d n ls) = HoldsName n × HoldsLinks ls
    HoldsLinks (item b s ls) = HoldsSub s × HoldsLinks ls

    pub HoldsSub : Sub → Type 0
    HoldsSub (index e c) = Holds e
    HoldsSub (slice a s b x c) = HoldsPart a × HoldsPart b × HoldsExtra x

    pub HoldsPart : Part → Type 0
    HoldsPart absent = Unit {0}
    HoldsPart (present e) = Holds e

    pub HoldsExtra : Extra → Type 0
    HoldsExtra no_extra = Unit {0}
    HoldsExtra (extra s e) = Holds e

    pub HoldsRow : Row → Type 0
    HoldsRow (ended s) = Unit {0}
    HoldsRow (only x s) = HoldsElement x
    HoldsRow (then x s xs) = HoldsElement x × HoldsRow xs

    pub HoldsElement : Element → Type 0
    HoldsElement (plain e) = Holds e
    HoldsElement (spread s e) = Holds e
    HoldsElement (pair x s t e) = P (literal_token x) × Holds e
    HoldsElement (argument n s e) = HoldsName n × Holds e

    pub HoldsAttributes : Attributes → Type 0
    HoldsAttributes no_attributes = Unit {0}
    HoldsAttributes (bare n ats) = HoldsName n × HoldsAttributes ats
    HoldsAttributes (quoted n s q t ats) = HoldsName n × P (quote_token q) × HoldsAttributes ats
    HoldsAttributes (valued n s b e c ats) = HoldsName n × Holds e × HoldsAttributes ats
    HoldsAttributes (spreading b s e c ats) = Holds e × HoldsAttributes ats

    pub HoldsSuffix : Suffix → Type 0
    HoldsSuffix (Test s n w g) = HoldsName w × HoldsArgs g
    HoldsSuffix (Filter s w g) = HoldsName w × HoldsArgs g
    HoldsSuffix (Subscript s b) = HoldsSub b

    pub HoldsArgs : Args → Type 0
    HoldsArgs no_args = Unit {0}
    HoldsArgs (args s row) = HoldsRow row

    pub HoldsOperator : Operator → Type 0
    HoldsOperator (Binary o) = Unit {0}
    HoldsOperator (Condition s c t) = Holds c

  -- Where it holds of each token

  after_sign : (s : Sign) (r : Items) → EachToken P (sign_yield s r) → EachToken P r
  after_sign (Negative s) r h = h.1
  after_sign (Negates s) r h = h.1

  after_joint : (d : Joint) (r : Items) → EachToken P (joint_yield d r) → EachToken P r
  after_joint (plain_dot s) r h = h.1
  after_joint (optional_dot s) r h = h.1

  after_bracket : (b : Bracket) (r : Items) → EachToken P (bracket_yield b r) → EachToken P r
  after_bracket (plain_bracket s) r h = h.1
  after_bracket (optional_bracket s) r h = h.1

  after_negation : (n : Negation) (r : Items) → EachToken P (negation_yield n r) → EachToken P r
  after_negation plainly r h = h
  after_negation (negated s) r h = h.1

  after_op : (o : Op) (r : Items) → EachToken P (op_yield o r) → EachToken P r
  after_op (Single o s) r h = h.1
  after_op (NotIn s t) r h = h.1.1

  second_holds : (m : Second) (r : Items) → EachToken P (second_yield m r) → HoldsSecond m × EachToken P r
  second_holds no_second r h = (tt, h)
  second_holds (second s n) r h = h.1

  dotted_holds : (ds : Dotted) (r : Items) → EachToken P (dotted_yield ds r) → HoldsDotted ds × EachToken P r
  dotted_holds no_dots r h = (tt, h)
  dotted_holds (dots s n ds) r h = let more = dotted_holds ds r h.1.1 in ((h.1.0, more.0), more.1)

  mutual
    pub holds : (t : Tree) (r : Items) → EachToken P (yield t r) → Holds t × EachToken P r
    holds (Atomic a) r h = atom_holds a r h
    holds (Prefix s e) r h = holds e r (after_sign s (yield e r) h)
    holds (Suffixed a s) r h =
        let one = holds a (suffix_yield s r) h in let two = suffix_holds s r one.1 in ((one.0, two.0), two.1)
    holds (Infix a o b) r h =
        let one = holds a (operator_yield o (yield b r)) h in
        let two = operator_holds o (yield b r) one.1 in
        let three = holds b r two.1 in ((one.0, two.0, three.0), three.1)

    atom_holds : (a : Atom) (r : Items) → EachToken P (atom_yield a r) → HoldsAtom a × EachToken P r
    atom_holds (Literal x s) r h = h
    atom_holds (Null n) r h = h
    atom_holds (Chain n ls) r h = let more = links_hold ls r h.1 in ((h.0, more.0), more.1)
    atom_holds (Call n s row) r h = let more = row_holds of_arguments row r h.1.1 in ((h.0, more.0), more.1)
    atom_holds (Paren s e t) r h = let one = holds e (mark RightParen t r) h.1 in (one.0, one.1.1)
    atom_holds (Array s row) r h = row_holds of_items row r h.1
    atom_holds (Comprehension s e f n m i t g c) r h =
        let one = holds e _ h.1 in
        let two = second_holds m _ one.1.1.1 in
        let three = holds t (extra_yield If g (mark RightBracket c r)) two.1.1 in
        let four = extra_holds If g (mark RightBracket c r) three.1 in ((one.0, three.0, four.0, one.1.1.0, two.0), four.1.1)
    atom_holds (Map s row) r h = row_holds of_entries row r h.1
    atom_holds (Component s n ds ats t u) r h =
        let end = mark (Operation Div) t (mark (Operation GreaterThan) u r) in
        let one = dotted_holds ds (attributes_yield ats end) h.1.1 in
        let two = attributes_hold ats end one.1 in ((two.0, h.1.0, one.0), two.1.1.1)

    links_hold : (ls : Links) (r : Items) → EachToken P (links_yield ls r) → HoldsLinks ls × EachToken P r
    links_hold no_links r h = (tt, h)
    links_hold (field d n ls) r h =
        let one = after_joint d (name_yield n (links_yield ls r)) h in
        let more = links_hold ls r one.1 in ((one.0, more.0), more.1)
    links_hold (item b s ls) r h =
        let one = sub_holds s (links_yield ls r) (after_bracket b (sub_yield s (links_yield ls r)) h) in
        let two = links_hold ls r one.1 in ((one.0, two.0), two.1)

    sub_holds : (s : Sub) (r : Items) → EachToken P (sub_yield s r) → HoldsSub s × EachToken P r
    sub_holds (index e c) r h = let one = holds e (mark RightBracket c r) h in (one.0, one.1.1)
    sub_holds (slice a s b x c) r h =
        let one = part_holds a (mark Colon s (part_yield b (extra_yield Colon x (mark RightBracket c r)))) h in
        let two = part_holds b (extra_yield Colon x (mark RightBracket c r)) one.1.1 in
        let three = extra_holds Colon x (mark RightBracket c r) two.1 in ((one.0, two.0, three.0), three.1.1)

    part_holds : (a : Part) (r : Items) → EachToken P (part_yield a r) → HoldsPart a × EachToken P r
    part_holds absent r h = (tt, h)
    part_holds (present e) r h = holds e r h

    extra_holds : (m : Mark) (x : Extra) (r : Items) → EachToken P (extra_yield m x r) → HoldsExtra x × EachToken P r
    extra_holds m no_extra r h = (tt, h)
    extra_holds m (extra s e) r h = holds e r h.1

    row_holds : (k : Kind) (row : Row) (r : Items) → EachToken P (row_yield k row r) → HoldsRow row × EachToken P r
    row_holds k (ended s) r h = (tt, h.1)
    row_holds k (only x s) r h = let one = element_holds x (mark (closing k) s r) h in (one.0, one.1.1)
    row_holds k (then x s xs) r h =
        let one = element_holds x (mark Comma s (row_yield k xs r)) h in
        let two = row_holds k xs r one.1.1 in ((one.0, two.0), two.1)

    element_holds : (x : Element) (r : Items) → EachToken P (element_yield x r) → HoldsElement x × EachToken P r
    element_holds (plain e) r h = holds e r h
    element_holds (spread s e) r h = holds e r h.1
    element_holds (pair x s t e) r h = let one = holds e r h.1.1 in ((h.0, one.0), one.1)
    element_holds (argument n s e) r h = let one = holds e r h.1.1 in ((h.0, one.0), one.1)

    attributes_hold : (ats : Attributes) (r : Items) → EachToken P (attributes_yield ats r) → HoldsAttributes ats × EachToken P r
    attributes_hold no_attributes r h = (tt, h)
    attributes_hold (bare n ats) r h = let more = attributes_hold ats r h.1 in ((h.0, more.0), more.1)
    attributes_hold (quoted n s q t ats) r h =
        let more = attributes_hold ats r h.1.1.1 in ((h.0, h.1.1.0, more.0), more.1)
    attributes_hold (valued n s b e c ats) r h =
        let one = holds e (mark RightBrace c (attributes_yield ats r)) h.1.1.1 in
        let two = attributes_hold ats r one.1.1 in ((h.0, one.0, two.0), two.1)
    attributes_hold (spreading b s e c ats) r h =
        let one = holds e (mark RightBrace c (attributes_yield ats r)) h.1.1 in
        let two = attributes_hold ats r one.1.1 in ((one.0, two.0), two.1)

    suffix_holds : (s : Suffix) (r : Items) → EachToken P (suffix_yield s r) → HoldsSuffix s × EachToken P r
    suffix_holds (Test s n w g) r h =
        let one = after_negation n (name_yield w (args_yield g r)) h.1 in
        let more = args_hold g r one.1 in ((one.0, more.0), more.1)
    suffix_holds (Filter s w g) r h = let more = args_hold g r h.1.1 in ((h.1.0, more.0), more.1)
    suffix_holds (Subscript s b) r h = sub_holds b r h.1

    args_hold : (g : Args) (r : Items) → EachToken P (args_yield g r) → HoldsArgs g × EachToken P r
    args_hold no_args r h = (tt, h)
    args_hold (args s row) r h = row_holds of_arguments row r h.1

    operator_holds : (o : Operator) (r : Items) → EachToken P (operator_yield o r) → HoldsOperator o × EachToken P r
    operator_holds (Binary o) r h = (tt, after_op o r h)
    operator_holds (Condition s c t) r h = let one = holds c (mark Else t r) h.1 in (one.0, one.1.1)
