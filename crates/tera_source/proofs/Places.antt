-- The same tokens at other places, and the tree over them.
use Rattle.std.proofs.Common.{◌≡◌, ℕ, ◌<◌, cond, nat_eq, refl, sym, ap, ap₂, ◌∙◌, arith}
use Rattle.std.proofs.lemmas.Bool.{eqb-true, eq-eqb, false_from_ne_true}
use Rattle.tera_lexer.specs.code.Cursors.{nowhere, size}
use Rattle.tera_spelling.specs.Sources.{AreReadAs}
use Rattle.tera_base.specs.declared.utils.Span.{Span}
use Rattle.tera_lexer.specs.grammar.Tokens.{Items, Ended, Failed, Token}
use Rattle.tera_grammar.specs.expressions.Operators.{Div, GreaterThan, In}
use Rattle.tera_grammar.specs.expressions.Marks.{Mark, mark, LeftParen, RightParen, RightBracket, LeftBrace, RightBrace, Comma, Colon, Spread, Assign, If, Else, For, Operation}
use Rattle.tera_grammar.specs.expressions.Concrete.{Name, Sign, Negative, Negates, Joint, plain_dot, optional_dot, Bracket, plain_bracket, optional_bracket, Negation, plainly, negated, Second, no_second, second, Dotted, no_dots, dots, Op, Single, NotIn, Kind, of_arguments, of_items, of_entries, closing, Tree, Atomic, Prefix, Suffixed, Infix, Atom, Literal, Null, Chain, Call, Paren, Array, Comprehension, Map, Component, Links, no_links, field, item, Sub, index, slice, Part, absent, present, Extra, no_extra, extra, Row, ended, only, then, Element, plain, spread, pair, argument, Attributes, no_attributes, bare, quoted, valued, spreading, Suffix, Test, Filter, Subscript, Args, no_args, args, Operator, Binary, Condition, quote_token, name_yield, sign_yield, joint_yield, bracket_yield, negation_yield, second_yield, dotted_yield, op_yield, yield, atom_yield, links_yield, sub_yield, part_yield, extra_yield, row_yield, element_yield, attributes_yield, suffix_yield, args_yield, operator_yield}

-- a token is where the tokens after it say
module _ (at : Items → Span) where
  abbrev pub name_at : Name → Items → Name
  name_at n r = record { text = n.text; span = at r }

  abbrev pub sign_at : Sign → Items → Sign
  sign_at (Negative s) r = Negative (at r)
  sign_at (Negates s) r = Negates (at r)

  abbrev pub joint_at : Joint → Items → Joint
  joint_at (plain_dot s) r = plain_dot (at r)
  joint_at (optional_dot s) r = optional_dot (at r)

  abbrev pub bracket_at : Bracket → Items → Bracket
  bracket_at (plain_bracket s) r = plain_bracket (at r)
  bracket_at (optional_bracket s) r = optional_bracket (at r)

  abbrev pub negation_at : Negation → Items → Negation
  negation_at plainly r = plainly
  negation_at (negated s) r = negated (at r)

  abbrev pub second_at : Second → Items → Second
  second_at no_second r = no_second
  second_at (second s n) r = second (at (name_yield n r)) (name_at n r)

  abbrev pub dotted_at : Dotted → Items → Dotted
  dotted_at no_dots r = no_dots
  dotted_at (dots s n ds) r = dots (at (name_yield n (dotted_yield ds r))) (name_at n (dotted_yield ds r)) (dotted_at ds r)

  abbrev pub op_at : Op → Items → Op
  op_at (Single o s) r = Single o (at r)
  op_at (NotIn s t) r = NotIn (at (mark (Operation In) t r)) (at r)

  -- the tree before tokens
  abbrev mutual
    pub tree_at : Tree → Items → Tree
    tree_at (Atomic a) r = Atomic (atom_at a r)
    tree_at (Prefix s e) r = Prefix (sign_at s (yield e r)) (tree_at e r)
    tree_at (Suffixed a s) r = Suffixed (tree_at a (suffix_yield s r)) (suffix_at s r)
    tree_at (Infix a o b) r = Infix (tree_at a (operator_yield o (yield b r))) (operator_at o (yield b r)) (tree_at b r)

    pub atom_at : Atom → Items → Atom
    atom_at (Literal l s) r = Literal l (at r)
    atom_at (Null n) r = Null (name_at n r)
    atom_at (Chain n ls) r = Chain (name_at n (links_yield ls r)) (links_at ls r)
    atom_at (Call n s row) r =
        let inside = row_yield of_arguments row r in
        Call (name_at n (mark LeftParen s inside)) (at inside) (row_at of_arguments row r)
    atom_at (Paren s e t) r = let end = mark RightParen t r in Paren (at (yield e end)) (tree_at e end) (at r)
    atom_at (Array s row) r = Array (at (row_yield of_items row r)) (row_at of_items row r)
    atom_at (Comprehension s e f n m i t g c) r =
        let end = mark RightBracket c r in
        let guard = extra_yield If g end in
        let target = yield t guard in
        let inside = mark (Operation In) i target in
        let more = second_yield m inside in
        let name = name_yield n more in
        let from = mark For f name in
        Comprehension (at (yield e from)) (tree_at e from) (at name) (name_at n more) (second_at m inside) (at target) (tree_at t guard)
        (extra_at If g end) (at r)
    atom_at (Map s row) r = Map (at (row_yield of_entries row r)) (row_at of_entries row r)
    atom_at (Component s n ds ats t u) r =
        let last = mark (Operation GreaterThan) u r in
        let end = mark (Operation Div) t last in
        let inside = attributes_yield ats end in
        let further = dotted_yield ds inside in
        Component (at (name_yield n further)) (name_at n further) (dotted_at ds inside) (attributes_at ats end) (at last) (at r)

    pub links_at : Links → Items → Links
    links_at no_links r = no_links
    links_at (field d n ls) r =
        let more = links_yield ls r in field (joint_at d (name_yield n more)) (name_at n more) (links_at ls r)
    links_at (item b s ls) r =
        let more = links_yield ls r in item (bracket_at b (sub_yield s more)) (sub_at s more) (links_at ls r)

    pub sub_at : Sub → Items → Sub
    sub_at (index e c) r = index (tree_at e (mark RightBracket c r)) (at r)
    sub_at (slice a s b x c) r =
        let end = mark RightBracket c r in
        let step = extra_yield Colon x end in
        let stop = part_yield b step in
        slice (part_at a (mark Colon s stop)) (at stop) (part_at b step) (extra_at Colon x end) (at r)

    pub part_at : Part → Items → Part
    part_at absent r = absent
    part_at (present e) r = present (tree_at e r)

    pub extra_at : Mark → Extra → Items → Extra
    extra_at m no_extra r = no_extra
    extra_at m (extra s e) r = extra (at (yield e r)) (tree_at e r)

    pub row_at : Kind → Row → Items → Row
    row_at k (ended s) r = ended (at r)
    row_at k (only x s) r = only (element_at x (mark (closing k) s r)) (at r)
    row_at k (then x s xs) r =
        let more = row_yield k xs r in then (element_at x (mark Comma s more)) (at more) (row_at k xs r)

    pub element_at : Element → Items → Element
    element_at (plain e) r = plain (tree_at e r)
    element_at (spread s e) r = spread (at (yield e r)) (tree_at e r)
    element_at (pair l s t e) r = pair l (at (mark Colon t (yield e r))) (at (yield e r)) (tree_at e r)
    element_at (argument n s e) r = argument (name_at n (mark Assign s (yield e r))) (at (yield e r)) (tree_at e r)

    pub attributes_at : Attributes → Items → Attributes
    attributes_at no_attributes r = no_attributes
    attributes_at (bare n ats) r = bare (name_at n (attributes_yield ats r)) (attributes_at ats r)
    attributes_at (quoted n s q t ats) r =
        let more = attributes_yield ats r in
        let text = Token (quote_token q) t more in
        quoted (name_at n (mark Assign s text)) (at text) q (at more) (attributes_at ats r)
    attributes_at (valued n s b e c ats) r =
        let more = attributes_yield ats r in
        let end = mark RightBrace c more in
        let value = yield e end in
        let inside = mark LeftBrace b value in
        valued (name_at n (mark Assign s inside)) (at inside) (at value) (tree_at e end) (at more) (attributes_at ats r)
    attributes_at (spreading b s e c ats) r =
        let more = attributes_yield ats r in
        let end = mark RightBrace c more in
        let value = yield e end in
        spreading (at (mark Spread s value)) (at value) (tree_at e end) (at more) (attributes_at ats r)

    pub suffix_at : Suffix → Items → Suffix
    suffix_at (Test s n w g) r =
        let inside = args_yield g r in
        let name = name_yield w inside in
        Test (at (negation_yield n name)) (negation_at n name) (name_at w inside) (args_at g r)
    suffix_at (Filter s w g) r =
        let inside = args_yield g r in Filter (at (name_yield w inside)) (name_at w inside) (args_at g r)
    suffix_at (Subscript s b) r = Subscript (at (sub_yield b r)) (sub_at b r)

    pub args_at : Args → Items → Args
    args_at no_args r = no_args
    args_at (args s row) r = args (at (row_yield of_arguments row r)) (row_at of_arguments row r)

    pub operator_at : Operator → Items → Operator
    operator_at (Binary o) r = Binary (op_at o r)
    operator_at (Condition s c t) r = let end = mark Else t r in Condition (at (yield c end)) (tree_at c end) (at r)

-- its tokens are those at these places, before what is at the end
module _ (at : Items → Span) (end : Items) where
  abbrev pub tokens_at : Items → Items
  tokens_at Ended = end
  tokens_at (Failed text span) = end
  tokens_at (Token t span r) = Token t (at r) (tokens_at r)

  abbrev AtPlaces : (Items → Items) → (Items → Items) → Items → Type 0
  AtPlaces tokens moved r = tokens_at (tokens r) ≡ moved (tokens_at r)

  sign_tokens : (s : Sign) (r : Items) → AtPlaces (sign_yield s) (sign_yield (sign_at at s r)) r
  sign_tokens (Negative s) r = refl
  sign_tokens (Negates s) r = refl

  joint_tokens : (d : Joint) (r : Items) → AtPlaces (joint_yield d) (joint_yield (joint_at at d r)) r
  joint_tokens (plain_dot s) r = refl
  joint_tokens (optional_dot s) r = refl

  bracket_tokens : (b : Bracket) (r : Items) → AtPlaces (bracket_yield b) (bracket_yield (bracket_at at b r)) r
  bracket_tokens (plain_bracket s) r = refl
  bracket_tokens (optional_bracket s) r = refl

  negation_tokens : (n : Negation) (r : Items) → AtPlaces (negation_yield n) (negation_yield (negation_at at n r)) r
  negation_tokens plainly r = refl
  negation_tokens (negated s) r = refl

  second_tokens : (m : Second) (r : Items) → AtPlaces (second_yield m) (second_yield (second_at at m r)) r
  second_tokens no_second r = refl
  second_tokens (second s n) r = refl

  dotted_tokens : (ds : Dotted) (r : Items) → AtPlaces (dotted_yield ds) (dotted_yield (dotted_at at ds r)) r
  dotted_tokens no_dots r = refl
  dotted_tokens (dots s n ds) r = rw (dotted_tokens ds r)

  op_tokens : (o : Op) (r : Items) → AtPlaces (op_yield o) (op_yield (op_at at o r)) r
  op_tokens (Single o s) r = refl
  op_tokens (NotIn s t) r = refl

  mutual
    pub tree_tokens : (t : Tree) (r : Items) → AtPlaces (yield t) (yield (tree_at at t r)) r
    tree_tokens (Atomic a) r = atom_tokens a r
    tree_tokens (Prefix s e) r = rw (sign_tokens s (yield e r), tree_tokens e r)
    tree_tokens (Suffixed a s) r = rw (tree_tokens a (suffix_yield s r), suffix_tokens s r)
    tree_tokens (Infix a o b) r =
        rw (tree_tokens a (operator_yield o (yield b r)), operator_tokens o (yield b r), tree_tokens b r)

    atom_tokens : (a : Atom) (r : Items) → AtPlaces (atom_yield a) (atom_yield (atom_at at a r)) r
    atom_tokens (Literal l s) r = refl
    atom_tokens (Null n) r = refl
    atom_tokens (Chain n ls) r = rw (links_tokens ls r)
    atom_tokens (Call n s row) r = rw (row_tokens of_arguments row r)
    atom_tokens (Paren s e t) r = rw (tree_tokens e (mark RightParen t r))
    atom_tokens (Array s row) r = rw (row_tokens of_items row r)
    atom_tokens (Comprehension s e f n m i t g c) r =
        let close = mark RightBracket c r in
        let guard = extra_yield If g close in
        let inside = mark (Operation In) i (yield t guard) in
        rw (tree_tokens e (mark For f (name_yield n (second_yield m inside))), second_tokens m inside, tree_tokens t guard, extra_tokens If g close)
    atom_tokens (Map s row) r = rw (row_tokens of_entries row r)
    atom_tokens (Component s n ds ats t u) r =
        let close = mark (Operation Div) t (mark (Operation GreaterThan) u r) in
        rw (dotted_tokens ds (attributes_yield ats close), attributes_tokens ats close)

    links_tokens : (ls : Links) (r : Items) → AtPlaces (links_yield ls) (links_yield (links_at at ls r)) r
    links_tokens no_links r = refl
    links_tokens (field d n ls) r = rw (joint_tokens d (name_yield n (links_yield ls r)), links_tokens ls r)
    links_tokens (item b s ls) r =
        let more = links_yield ls r in rw (bracket_tokens b (sub_yield s more), sub_tokens s more, links_tokens ls r)

    sub_tokens : (s : Sub) (r : Items) → AtPlaces (sub_yield s) (sub_yield (sub_at at s r)) r
    sub_tokens (index e c) r = tree_tokens e (mark RightBracket c r)
    sub_tokens (slice a s b x c) r =
        let close = mark RightBracket c r in
        let step = extra_yield Colon x close in
        rw (part_tokens a (mark Colon s (part_yield b step)), part_tokens b step, extra_tokens Colon x close)

    part_tokens : (a : Part) (r : Items) → AtPlaces (part_yield a) (part_yield (part_at at a r)) r
    part_tokens absent r = refl
    part_tokens (present e) r = tree_tokens e r

    extra_tokens : (m : Mark) (x : Extra) (r : Items) → AtPlaces (extra_yield m x) (extra_yield m (extra_at at m x r)) r
    extra_tokens m no_extra r = refl
    extra_tokens m (extra s e) r = rw (tree_tokens e r)

    row_tokens : (k : Kind) (row : Row) (r : Items) → AtPlaces (row_yield k row) (row_yield k (row_at at k row r)) r
    row_tokens k (ended s) r = refl
    row_tokens k (only x s) r = element_tokens x (mark (closing k) s r)
    row_tokens k (then x s xs) r = rw (element_tokens x (mark Comma s (row_yield k xs r)), row_tokens k xs r)

    element_tokens : (x : Element) (r : Items) → AtPlaces (element_yield x) (element_yield (element_at at x r)) r
    element_tokens (plain e) r = tree_tokens e r
    element_tokens (spread s e) r = rw (tree_tokens e r)
    element_tokens (pair l s t e) r = rw (tree_tokens e r)
    element_tokens (argument n s e) r = rw (tree_tokens e r)

    attributes_tokens : (ats : Attributes) (r : Items) → AtPlaces (attributes_yield ats) (attributes_yield (attributes_at at ats r)) r
    attributes_tokens no_attributes r = refl
    attributes_tokens (bare n ats) r = rw (attributes_tokens ats r)
    attributes_tokens (quoted n s q t ats) r = rw (attributes_tokens ats r)
    attributes_tokens (valued n s b e c ats) r =
        rw (tree_tokens e (mark RightBrace c (attributes_yield ats r)), attributes_tokens ats r)
    attributes_tokens (spreading b s e c ats) r =
        rw (tree_tokens e (mark RightBrace c (attributes_yield ats r)), attributes_tokens ats r)

    suffix_tokens : (s : Suffix) (r : Items) → AtPlaces (suffix_yield s) (suffix_yield (suffix_at at s r)) r
    suffix_tokens (Test s n w g) r = rw (negation_tokens n (name_yield w (args_yield g r)), args_tokens g r)
    suffix_tokens (Filter s w g) r = rw (args_tokens g r)
    suffix_tokens (Subscript s b) r = rw (sub_tokens b r)

    args_tokens : (g : Args) (r : Items) → AtPlaces (args_yield g) (args_yield (args_at at g r)) r
    args_tokens no_args r = refl
    args_tokens (args s row) r = rw (row_tokens of_arguments row r)

    operator_tokens : (o : Operator) (r : Items) → AtPlaces (operator_yield o) (operator_yield (operator_at at o r)) r
    operator_tokens (Binary o) r = op_tokens o r
    operator_tokens (Condition s c t) r = rw (tree_tokens c (mark Else t r))

-- what places say of the tokens further on alone matters
tokens_agree : (end : Items) (at to : Items → Span) (items : Items) → ((r : Items) → size r < size items → at r ≡ to r) →
    tokens_at at end items ≡ tokens_at to end items
tokens_agree end at to Ended h = refl
tokens_agree end at to (Failed text span) h = refl
tokens_agree end at to (Token t span r) h =
    ap₂ (Token t) (h r (omega arith)) (tokens_agree end at to r (λ q less. h q (omega arith)))

-- tokens that are read as these are these at some places
pub record Placed (items end read : Items) : Type 0 where
  pub at : Items → Span
  pub is : read ≡ tokens_at at end items

cond_other : (a b : ℕ) (x y : Span) → a < b → cond (nat_eq a b) x y ≡ y
cond_other a b x y less = ap (λ c. cond c x y) (false_from_ne_true (nat_eq a b) (λ same. let e = eqb-true a b same in omega arith))

pub placed : (items end read : Items) → AreReadAs items end read → Placed items end read
placed Ended end read h = record { at = λ r. nowhere; is = h }
placed (Failed text span) end read h = absurd h
placed (Token t span items) end read (here, following, first, h) =
    let more = placed items end following h in
    let at : Items → Span = λ r. cond (nat_eq (size r) (size items)) here (more.at r) in
    record {
      at = at;
      is = first ∙ ap₂ (Token t) (sym (ap (λ c. cond c here (more.at items)) (eq-eqb (size items) (size items) refl)))
          (more.is ∙ sym (tokens_agree end at more.at items (λ r less. cond_other (size r) (size items) here (more.at r) less)));
    }
