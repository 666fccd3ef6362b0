-- A number among the constants of an expression is one of its tokens' numbers, or the negation of one.
use Rattle.std.proofs.Common.{ℕ, zero, suc, List, Bool, true, false, cond, Option, Some, None, Ordering, Less, Equal, Greater}
use Rattle.std.specs.Prelude.{ℤ, pos, negsuc, neg_ℤ}
use Rattle.std.specs.Ordering.{nat_cmp, match_ordering}
use Rattle.std.specs.Cmp.Lexicographic.{slice_cmp}
use Rattle.tera_base.specs.Same.{key_eq}
use Rattle.tera_base.specs.Values as values
use Rattle.tera_base.specs.Values.{KeyVal, Val, Vals, Pairs}
use Rattle.tera_base.specs.declared.utils.Span.{Span}
use Rattle.tera_lexer.specs.grammar.Tokens as toks
use Rattle.tera_lexer.specs.grammar.Tokens.{Tok, Items, Token}
use Rattle.tera_ast.specs.Tree as tree
use Rattle.tera_ast.specs.Tree.{Expr}
use Rattle.tera_grammar.specs.expressions.Marks.{Mark, mark, mark_token, RightParen, RightBracket, RightBrace, Comma, Colon, If, Else, Operation}
use Rattle.tera_grammar.specs.expressions.Operators.{Div, GreaterThan}
use Rattle.tera_grammar.specs.expressions.Concrete.{Name, Sign, Negative, Negates, Joint, plain_dot, optional_dot, Bracket, plain_bracket, optional_bracket, Negation, plainly, negated, Second, no_second, second, Dotted, no_dots, dots, Op, Single, NotIn, Lit, Number, Quoted, Truth, Kind, of_arguments, of_items, of_entries, closing, Tree, Atomic, Prefix, Suffixed, Infix, Atom, Literal, Null, Chain, Call, Paren, Array, Comprehension, Map, Component, Links, no_links, field, item, Sub, index, slice, Part, absent, present, Extra, no_extra, extra, Row, ended, only, then, Element, plain, spread, pair, argument, Attributes, no_attributes, bare, quoted, valued, spreading, Suffix, Test, Filter, Subscript, Args, no_args, args, Operator, Binary, Condition, quote_token, literal_token, sign_yield, joint_yield, bracket_yield, negation_yield, second_yield, dotted_yield, op_yield, yield, atom_yield, links_yield, sub_yield, part_yield, extra_yield, row_yield, element_yield, attributes_yield, suffix_yield, args_yield, operator_yield}
use Rattle.tera_grammar.specs.expressions.Spans.{first}
use Rattle.tera_grammar.specs.expressions.Output.{output, atom_output, links_output, sub_output, part_output, extra_output, field_output, arguments_output, argument_output, items_output, item_output, entries_output, entry_output, attributes_output, args_output, suffix_output, operator_output, op_output, negation_output, prefixed, array_made, map_made, is_optional_bracket, with_value, constant_items, constant_entries, put_pair, put_arg, literal_value, of_loop}
use Rattle.tera_grammar.specs.expressions.Constants.{IsLiteralNumber, EachNumber, EachOfValue, EachOfValues, EachOfPairs, EachConstant, EachOfMaybe, EachOfArgs, EachOfItems, EachOfEntries}

module _ (P : ℤ → Type 0) where
  -- after a token of whatever kind
  pub following : (t : Tok) (s : Span) (r : Items) → EachNumber P (Token t s r) → EachNumber P r
  following (toks.Integer n) s r h = h.1
  following _ s r h = h

  after_sign : (s : Sign) (r : Items) → EachNumber P (sign_yield s r) → EachNumber P r
  after_sign (Negative s) r h = h
  after_sign (Negates s) r h = h

  after_joint : (d : Joint) (r : Items) → EachNumber P (joint_yield d r) → EachNumber P r
  after_joint (plain_dot s) r h = h
  after_joint (optional_dot s) r h = h

  after_bracket : (b : Bracket) (r : Items) → EachNumber P (bracket_yield b r) → EachNumber P r
  after_bracket (plain_bracket s) r h = h
  after_bracket (optional_bracket s) r h = h

  after_negation : (n : Negation) (r : Items) → EachNumber P (negation_yield n r) → EachNumber P r
  after_negation plainly r h = h
  after_negation (negated s) r h = h

  pub after_second : (m : Second) (r : Items) → EachNumber P (second_yield m r) → EachNumber P r
  after_second no_second r h = h
  after_second (second s n) r h = h

  pub after_dotted : (ds : Dotted) (r : Items) → EachNumber P (dotted_yield ds r) → EachNumber P r
  after_dotted no_dots r h = h
  after_dotted (dots s n ds) r h = after_dotted ds r h

  after_op : (o : Op) (r : Items) → EachNumber P (op_yield o r) → EachNumber P r
  after_op (Single o s) r h = following (mark_token (Operation o)) s r h
  after_op (NotIn s t) r h = h

  pub literal_holds : (x : Lit) (s : Span) (r : Items) → EachNumber P (Token (literal_token x) s r) → EachOfValue P (literal_value x)
  literal_holds (Number n) s r h = h.0
  literal_holds (Quoted q) s r h = tt
  literal_holds (Truth b) s r h = tt

  -- constants that are made of others
  abbrev pub OfValues : Option Vals → Type 0
  OfValues None = Unit {0}
  OfValues (Some vs) = EachOfValues P vs

  abbrev pub OfPairs : Option Pairs → Type 0
  OfPairs None = Unit {0}
  OfPairs (Some ps) = EachOfPairs P ps

  with_value_holds : (v : Val) (o : Option Vals) → EachOfValue P v → OfValues o → OfValues (with_value v o)
  with_value_holds v None h hs = tt
  with_value_holds v (Some vs) h hs = (h, hs)

  pub constant_items_hold : (is : tree.Items) → EachOfItems P is → OfValues (constant_items is)
  constant_items_hold tree.NoItems h = tt
  constant_items_hold (tree.Item (tree.Const v s) is) h = with_value_holds v (constant_items is) h.0 (constant_items_hold is h.1)
  constant_items_hold _ h = tt

  put_by : (b : Bool) (qs ps : Pairs) → EachOfPairs P qs → EachOfPairs P ps → EachOfPairs P (cond b qs ps)
  put_by true qs ps h k = h
  put_by false qs ps h k = k

  put_pair_holds : (k : KeyVal) (v : Val) (ps : Pairs) → EachOfValue P v → EachOfPairs P ps → EachOfPairs P (put_pair k v ps)
  put_pair_holds k v values.NoPairs h hs = (h, tt)
  put_pair_holds k v (values.OnePair l u ps) h hs =
      put_by (key_eq k l) (values.OnePair l v ps) (values.OnePair l u (put_pair k v ps)) (h, hs.1)
      (hs.0, put_pair_holds k v ps h hs.1)

  pub constant_entries_hold : (es : tree.Entries) (ps : Pairs) → EachOfEntries P es → EachOfPairs P ps → OfPairs (constant_entries es ps)
  constant_entries_hold tree.NoEntries ps h hs = hs
  constant_entries_hold (tree.Entry k (tree.Const v s) es) ps h hs =
      constant_entries_hold es (put_pair k v ps) h.1 (put_pair_holds k v ps h.0 hs)
  constant_entries_hold _ ps h hs = tt

  array_holds : (is : tree.Items) (span : Span) (o : Option Vals) → EachOfItems P is → OfValues o → EachConstant P (array_made is span o)
  array_holds is span None h hs = h
  array_holds is span (Some vs) h hs = hs

  map_holds : (es : tree.Entries) (span : Span) (o : Option Pairs) → EachOfEntries P es → OfPairs o → EachConstant P (map_made es span o)
  map_holds es span None h hs = h
  map_holds es span (Some ps) h hs = hs

  put_arg_by : (o : Ordering) (a b c : tree.Args) → EachOfArgs P a → EachOfArgs P b → EachOfArgs P c → EachOfArgs P (match_ordering o a b c)
  put_arg_by Less a b c x y z = x
  put_arg_by Equal a b c x y z = y
  put_arg_by Greater a b c x y z = z

  put_arg_holds : (n : List ℕ) (e : Expr) (g : tree.Args) → EachConstant P e → EachOfArgs P g → EachOfArgs P (put_arg n e g)
  put_arg_holds n e tree.NoArgs h hs = (h, tt)
  put_arg_holds n e (tree.Arg m f g) h hs =
      put_arg_by (slice_cmp nat_cmp n m) (tree.Arg n e (tree.Arg m f g)) (tree.Arg m e g) (tree.Arg m f (put_arg n e g)) (h, hs)
      (h, hs.1) (hs.0, put_arg_holds n e g h hs.1)

  field_holds : (c : Bool) (e : Expr) (d : Joint) (n : Name) → EachConstant P e → EachConstant P (field_output c e d n)
  field_holds true e d n h = tt
  field_holds false e d n h = h

  negation_holds : (n : Negation) (e : Expr) (span : Span) → EachConstant P e → EachConstant P (negation_output n e span)
  negation_holds plainly e span h = h
  negation_holds (negated s) e span h = h

  op_holds : (o : Op) (a b : Expr) (span : Span) → EachConstant P a → EachConstant P b → EachConstant P (op_output o a b span)
  op_holds (Single o s) a b span h k = (h, k)
  op_holds (NotIn s t) a b span h k = (h, k)

  module _ (negates : (n : ℤ) → P n → P (neg_ℤ n)) where
    prefixed_holds : (s : Sign) (e : Expr) (span : Span) → EachConstant P e → EachConstant P (prefixed s e span)
    prefixed_holds (Negative s) (tree.Const (values.I64 n) t) span h = negates n h
    prefixed_holds (Negative s) e span h = h
    prefixed_holds (Negates s) e span h = h

    mutual
      pub constants_hold : (l : Bool) (t : Tree) (r : Items) → EachNumber P (yield t r) → EachConstant P (output l t) × EachNumber P r
      constants_hold l (Atomic a) r h = atom_holds l a r h
      constants_hold l (Prefix s e) r h =
          let x = constants_hold l e r (after_sign s (yield e r) h) in (prefixed_holds s (output l e) _ x.0, x.1)
      constants_hold l (Suffixed a s) r h =
          let x = constants_hold l a (suffix_yield s r) h in suffix_holds l (first a) (output l a) s r x.0 x.1
      constants_hold l (Infix a o b) r h =
          let x = constants_hold l a (operator_yield o (yield b r)) h in
          infix_holds l _ (output l a) o (output l b) (yield b r) r x.0 x.1 (constants_hold l b r)

      atom_holds : (l : Bool) (a : Atom) (r : Items) → EachNumber P (atom_yield a r) → EachConstant P (atom_output l a) × EachNumber P r
      atom_holds l (Literal x s) r h = (literal_holds x s r h, following (literal_token x) s r h)
      atom_holds l (Null n) r h = (tt, h)
      atom_holds l (Chain n ls) r h = links_hold l (of_loop l n) (tree.Var n.text n.span) ls r tt h
      atom_holds l (Call n s row) r h = arguments_hold l row tree.NoArgs r tt h
      atom_holds l (Paren s e t) r h = constants_hold l e (mark RightParen t r) h
      atom_holds l (Array s row) r h =
          let x = items_hold l of_items row r h in
          (array_holds (items_output l row) _ (constant_items (items_output l row)) x.0 (constant_items_hold (items_output l row) x.0), x.1)
      atom_holds l (Comprehension s e f n m i t g c) r h =
          let x = constants_hold l e _ h in
          let y = constants_hold l t (extra_yield If g (mark RightBracket c r)) (after_second m _ x.1) in
          let z = extra_holds l If g (mark RightBracket c r) y.1 in
          ((x.0, y.0, z.0), z.1)
      atom_holds l (Map s row) r h =
          let x = entries_hold l of_entries row r h in (
            map_holds (entries_output l row) _ (constant_entries (entries_output l row) values.NoPairs) x.0
                (constant_entries_hold (entries_output l row) values.NoPairs x.0 tt),
            x.1,
          )
      atom_holds l (Component s n ds ats t u) r h = attributes_hold l ats (mark (Operation Div) t (mark (Operation GreaterThan) u r)) (after_dotted ds _ h)

      links_hold : (l c : Bool) (e : Expr) (ls : Links) (r : Items) → EachConstant P e → EachNumber P (links_yield ls r)
          → EachConstant P (links_output l c e ls) × EachNumber P r
      links_hold l c e no_links r k h = (k, h)
      links_hold l c e (field d n ls) r k h = links_hold l c (field_output c e d n) ls r (field_holds c e d n k) (after_joint d _ h)
      links_hold l c e (item b s ls) r k h =
          let x = sub_holds l (is_optional_bracket b) e s (links_yield ls r) k (after_bracket b _ h) in
          links_hold l c (sub_output l (is_optional_bracket b) e s) ls r x.0 x.1

      sub_holds : (l o : Bool) (e : Expr) (s : Sub) (r : Items) → EachConstant P e → EachNumber P (sub_yield s r)
          → EachConstant P (sub_output l o e s) × EachNumber P r
      sub_holds l o e (index i c) r k h = let x = constants_hold l i (mark RightBracket c r) h in ((k, x.0), x.1)
      sub_holds l o e (slice a s b x c) r k h =
          let one = part_holds l a _ h in
          let two = part_holds l b (extra_yield Colon x (mark RightBracket c r)) one.1 in
          let three = extra_holds l Colon x (mark RightBracket c r) two.1 in
          ((k, one.0, two.0, three.0), three.1)

      part_holds : (l : Bool) (p : Part) (r : Items) → EachNumber P (part_yield p r) → EachOfMaybe P (part_output l p) × EachNumber P r
      part_holds l absent r h = (tt, h)
      part_holds l (present e) r h = constants_hold l e r h

      extra_holds : (l : Bool) (m : Mark) (x : Extra) (r : Items) → EachNumber P (extra_yield m x r)
          → EachOfMaybe P (extra_output l x) × EachNumber P r
      extra_holds l m no_extra r h = (tt, h)
      extra_holds l m (extra s e) r h = constants_hold l e r (following (mark_token m) s (yield e r) h)

      arguments_hold : (l : Bool) (row : Row) (g : tree.Args) (r : Items) → EachOfArgs P g → EachNumber P (row_yield of_arguments row r)
          → EachOfArgs P (arguments_output l row g) × EachNumber P r
      arguments_hold l (ended s) g r k h = (k, h)
      arguments_hold l (only x s) g r k h = argument_holds l x g (mark RightParen s r) k h
      arguments_hold l (then x s xs) g r k h =
          let y = argument_holds l x g (mark Comma s (row_yield of_arguments xs r)) k h in
          arguments_hold l xs (argument_output l x g) r y.0 y.1

      argument_holds : (l : Bool) (x : Element) (g : tree.Args) (r : Items) → EachOfArgs P g → EachNumber P (element_yield x r)
          → EachOfArgs P (argument_output l x g) × EachNumber P r
      argument_holds l (argument n s e) g r k h = let x = constants_hold l e r h in (put_arg_holds n.text (output l e) g x.0 k, x.1)
      argument_holds l (plain e) g r k h = (k, (constants_hold l e r h).1)
      argument_holds l (spread s e) g r k h = (k, (constants_hold l e r h).1)
      argument_holds l (pair x s t e) g r k h = (k, (constants_hold l e r (following (literal_token x) s _ h)).1)

      pub items_hold : (l : Bool) (k : Kind) (row : Row) (r : Items) → EachNumber P (row_yield k row r)
          → EachOfItems P (items_output l row) × EachNumber P r
      items_hold l k (ended s) r h = (tt, following (mark_token (closing k)) s r h)
      items_hold l k (only x s) r h =
          let y = item_holds l x tree.NoItems (mark (closing k) s r) h in (y.0 tt, following (mark_token (closing k)) s r y.1)
      items_hold l k (then x s xs) r h =
          let y = item_holds l x (items_output l xs) (mark Comma s (row_yield k xs r)) h in
          let z = items_hold l k xs r y.1 in
          (y.0 z.0, z.1)

      item_holds : (l : Bool) (x : Element) (is : tree.Items) (r : Items) → EachNumber P (element_yield x r)
          → (EachOfItems P is → EachOfItems P (item_output l x is)) × EachNumber P r
      item_holds l (plain e) is r h = let x = constants_hold l e r h in (λ k. (x.0, k), x.1)
      item_holds l (spread s e) is r h = let x = constants_hold l e r h in (λ k. (x.0, k), x.1)
      item_holds l (pair x s t e) is r h = (λ k. k, (constants_hold l e r (following (literal_token x) s _ h)).1)
      item_holds l (argument n s e) is r h = (λ k. k, (constants_hold l e r h).1)

      pub entries_hold : (l : Bool) (k : Kind) (row : Row) (r : Items) → EachNumber P (row_yield k row r)
          → EachOfEntries P (entries_output l row) × EachNumber P r
      entries_hold l k (ended s) r h = (tt, following (mark_token (closing k)) s r h)
      entries_hold l k (only x s) r h =
          let y = entry_holds l x tree.NoEntries (mark (closing k) s r) h in (y.0 tt, following (mark_token (closing k)) s r y.1)
      entries_hold l k (then x s xs) r h =
          let y = entry_holds l x (entries_output l xs) (mark Comma s (row_yield k xs r)) h in
          let z = entries_hold l k xs r y.1 in
          (y.0 z.0, z.1)

      entry_holds : (l : Bool) (x : Element) (es : tree.Entries) (r : Items) → EachNumber P (element_yield x r)
          → (EachOfEntries P es → EachOfEntries P (entry_output l x es)) × EachNumber P r
      entry_holds l (pair x s t e) es r h =
          let y = constants_hold l e r (following (literal_token x) s _ h) in (λ k. (y.0, k), y.1)
      entry_holds l (spread s e) es r h = let x = constants_hold l e r h in (λ k. (x.0, k), x.1)
      entry_holds l (plain e) es r h = (λ k. k, (constants_hold l e r h).1)
      entry_holds l (argument n s e) es r h = (λ k. k, (constants_hold l e r h).1)

      pub attributes_hold : (l : Bool) (ats : Attributes) (r : Items) → EachNumber P (attributes_yield ats r)
          → EachOfEntries P (attributes_output l ats) × EachNumber P r
      attributes_hold l no_attributes r h = (tt, h)
      attributes_hold l (bare n ats) r h = let x = attributes_hold l ats r h in ((tt, x.0), x.1)
      attributes_hold l (quoted n s q t ats) r h =
          let x = attributes_hold l ats r (following (quote_token q) t (attributes_yield ats r) h) in ((tt, x.0), x.1)
      attributes_hold l (valued n s b e c ats) r h =
          let x = constants_hold l e (mark RightBrace c (attributes_yield ats r)) h in
          let y = attributes_hold l ats r x.1 in
          ((x.0, y.0), y.1)
      attributes_hold l (spreading b s e c ats) r h =
          let x = constants_hold l e (mark RightBrace c (attributes_yield ats r)) h in
          let y = attributes_hold l ats r x.1 in
          ((x.0, y.0), y.1)

      pub args_hold : (l : Bool) (g : Args) (r : Items) → EachNumber P (args_yield g r) → EachOfArgs P (args_output l g) × EachNumber P r
      args_hold l no_args r h = (tt, h)
      args_hold l (args s row) r h = arguments_hold l row tree.NoArgs r tt h

      suffix_holds : (l : Bool) (start : Span) (e : Expr) (s : Suffix) (r : Items) → EachConstant P e → EachNumber P (suffix_yield s r)
          → EachConstant P (suffix_output l start e s) × EachNumber P r
      suffix_holds l start e (Test s n w g) r k h =
          let x = args_hold l g r (after_negation n _ h) in (negation_holds n _ _ (k, x.0), x.1)
      suffix_holds l start e (Filter s w g) r k h = let x = args_hold l g r h in ((k, x.0), x.1)
      suffix_holds l start e (Subscript s b) r k h = sub_holds l false e b r k h

      infix_holds : (l : Bool) (span : Span) (a : Expr) (o : Operator) (b : Expr) (us r : Items) → EachConstant P a
          → EachNumber P (operator_yield o us) → (EachNumber P us → EachConstant P b × EachNumber P r)
          → EachConstant P (operator_output l span a o b) × EachNumber P r
      infix_holds l span a (Binary o) b us r k h right = let x = right (after_op o us h) in (op_holds o a b span k x.0, x.1)
      infix_holds l span a (Condition s c t) b us r k h right =
          let y = constants_hold l c (mark Else t us) h in
          let x = right y.1 in
          ((y.0, k, x.0), x.1)

-- a number with either sign
pub literal_negates : (n : ℤ) → IsLiteralNumber n → IsLiteralNumber (neg_ℤ n)
literal_negates (pos zero) h = h
literal_negates (pos (suc n)) h = h
literal_negates (negsuc n) h = h
