-- The tokens of an expression are more than none.
use Rattle.std.proofs.Common.{◌<◌, ◌≤◌, arith}
use Rattle.tera_lexer.specs.grammar.Tokens.{Items}
use Rattle.tera_lexer.specs.code.Cursors.{size}
use Rattle.tera_grammar.specs.expressions.Operators.{Div, GreaterThan, In}
use Rattle.tera_grammar.specs.expressions.Marks.{Mark, RightParen, RightBracket, RightBrace, Comma, Colon, If, Else, For, Operation, mark}
use Rattle.tera_grammar.specs.expressions.Concrete.{Sign, Negative, Negates, Joint, plain_dot, optional_dot, Bracket, plain_bracket, optional_bracket, Negation, plainly, negated, Second, no_second, second, Dotted, no_dots, dots, Op, Single, NotIn, Kind, of_arguments, of_items, of_entries, Tree, Atomic, Prefix, Suffixed, Infix, Atom, Literal, Null, Chain, Call, Paren, Array, Comprehension, Map, Component, Links, no_links, field, item, Sub, index, slice, Part, absent, present, Extra, no_extra, extra, Row, ended, only, then, Element, plain, spread, pair, argument, Attributes, no_attributes, bare, quoted, valued, spreading, Suffix, Test, Filter, Subscript, Args, no_args, args, Operator, Binary, Condition, name_yield, sign_yield, joint_yield, bracket_yield, negation_yield, second_yield, dotted_yield, op_yield, closing, yield, atom_yield, links_yield, sub_yield, part_yield, extra_yield, row_yield, element_yield, attributes_yield, suffix_yield, args_yield, operator_yield}

longer_sign : (x : Sign) (r : Items) → size r < size (sign_yield x r)
longer_sign (Negative s) r = omega arith
longer_sign (Negates s) r = omega arith

pub longer_joint : (x : Joint) (r : Items) → size r < size (joint_yield x r)
longer_joint (plain_dot s) r = omega arith
longer_joint (optional_dot s) r = omega arith

pub longer_bracket : (x : Bracket) (r : Items) → size r < size (bracket_yield x r)
longer_bracket (plain_bracket s) r = omega arith
longer_bracket (optional_bracket s) r = omega arith

longer_op : (x : Op) (r : Items) → size r < size (op_yield x r)
longer_op (Single o s) r = omega arith
longer_op (NotIn s t) r = omega arith

longer_negation : (x : Negation) (r : Items) → size r ≤ size (negation_yield x r)
longer_negation plainly r = omega arith
longer_negation (negated s) r = omega arith

pub longer_second : (x : Second) (r : Items) → size r ≤ size (second_yield x r)
longer_second no_second r = omega arith
longer_second (second s n) r = omega arith

pub longer_dotted : (x : Dotted) (r : Items) → size r ≤ size (dotted_yield x r)
longer_dotted no_dots r = omega arith
longer_dotted (dots s n ds) r = let h = longer_dotted ds r in omega arith

mutual
  pub longer : (t : Tree) (r : Items) → size r < size (yield t r)
  longer (Atomic a) r = longer_atom a r
  longer (Prefix s e) r = let h = longer e r in let k = longer_sign s (yield e r) in omega arith
  longer (Suffixed a s) r = let h = longer a (suffix_yield s r) in let k = longer_suffix s r in omega arith
  longer (Infix a o b) r = let h = longer a (operator_yield o (yield b r)) in let k = longer_operator o (yield b r)
      in let j = longer b r in omega arith

  longer_atom : (a : Atom) (r : Items) → size r < size (atom_yield a r)
  longer_atom (Literal l s) r = omega arith
  longer_atom (Null n) r = omega arith
  longer_atom (Chain n ls) r = let h = longer_links ls r in omega arith
  longer_atom (Call n s row) r = let h = longer_row of_arguments row r in omega arith
  longer_atom (Paren s e t) r = let h = longer e (mark RightParen t r) in omega arith
  longer_atom (Array s row) r = let h = longer_row of_items row r in omega arith
  longer_atom (Comprehension s e f n m i t g c) r =
      let a = longer_extra If g (mark RightBracket c r) in
      let b = longer t (extra_yield If g (mark RightBracket c r)) in
      let d = longer_second m (mark (Operation In) i (yield t (extra_yield If g (mark RightBracket c r)))) in
      let h = longer e (mark For f (name_yield n (second_yield m (mark (Operation In) i
      (yield t (extra_yield If g (mark RightBracket c r))))))) in
      omega arith
  longer_atom (Map s row) r = let h = longer_row of_entries row r in omega arith
  longer_atom (Component s n ds ats t u) r =
      let h = longer_attributes ats (mark (Operation Div) t (mark (Operation GreaterThan) u r)) in
      let k = longer_dotted ds (attributes_yield ats (mark (Operation Div) t (mark (Operation GreaterThan) u r))) in
      omega arith

  pub longer_links : (ls : Links) (r : Items) → size r ≤ size (links_yield ls r)
  longer_links no_links r = omega arith
  longer_links (field d n ls) r = let h = longer_links ls r in let k = longer_joint d (name_yield n (links_yield ls r)) in omega arith
  longer_links (item b s ls) r =
      let h = longer_links ls r in let k = longer_sub s (links_yield ls r) in let j = longer_bracket b
      (sub_yield s (links_yield ls r)) in omega arith

  pub longer_sub : (s : Sub) (r : Items) → size r < size (sub_yield s r)
  longer_sub (index e c) r = let h = longer e (mark RightBracket c r) in omega arith
  longer_sub (slice a s b x c) r =
      let h = longer_extra Colon x (mark RightBracket c r) in
      let k = longer_part b (extra_yield Colon x (mark RightBracket c r)) in
      let j = longer_part a (mark Colon s (part_yield b (extra_yield Colon x (mark RightBracket c r)))) in
      omega arith

  longer_part : (p : Part) (r : Items) → size r ≤ size (part_yield p r)
  longer_part absent r = omega arith
  longer_part (present e) r = let h = longer e r in omega arith

  longer_extra : (m : Mark) (x : Extra) (r : Items) → size r ≤ size (extra_yield m x r)
  longer_extra m no_extra r = omega arith
  longer_extra m (extra s e) r = let h = longer e r in omega arith

  pub longer_row : (k : Kind) (row : Row) (r : Items) → size r < size (row_yield k row r)
  longer_row k (ended s) r = omega arith
  longer_row k (only x s) r = let h = longer_element x (mark (closing k) s r) in omega arith
  longer_row k (then x s xs) r = let h = longer_row k xs r in let j = longer_element x (mark Comma s (row_yield k xs r)) in omega
      arith

  pub longer_element : (x : Element) (r : Items) → size r < size (element_yield x r)
  longer_element (plain e) r = longer e r
  longer_element (spread s e) r = let h = longer e r in omega arith
  longer_element (pair l s t e) r = let h = longer e r in omega arith
  longer_element (argument n s e) r = let h = longer e r in omega arith

  pub longer_attributes : (x : Attributes) (r : Items) → size r ≤ size (attributes_yield x r)
  longer_attributes no_attributes r = omega arith
  longer_attributes (bare n ats) r = let h = longer_attributes ats r in omega arith
  longer_attributes (quoted n s l t ats) r = let h = longer_attributes ats r in omega arith
  longer_attributes (valued n s b e c ats) r = let h = longer_attributes ats r in let k = longer e
      (mark RightBrace c (attributes_yield ats r)) in omega arith
  longer_attributes (spreading b s e c ats) r = let h = longer_attributes ats r in let k = longer e
      (mark RightBrace c (attributes_yield ats r)) in omega arith

  pub longer_suffix : (s : Suffix) (r : Items) → size r < size (suffix_yield s r)
  longer_suffix (Test s n w g) r = let h = longer_args g r in let k = longer_negation n (name_yield w (args_yield g r)) in omega arith
  longer_suffix (Filter s w g) r = let h = longer_args g r in omega arith
  longer_suffix (Subscript s b) r = let h = longer_sub b r in omega arith

  longer_args : (g : Args) (r : Items) → size r ≤ size (args_yield g r)
  longer_args no_args r = omega arith
  longer_args (args s row) r = let h = longer_row of_arguments row r in omega arith

  pub longer_operator : (o : Operator) (r : Items) → size r < size (operator_yield o r)
  longer_operator (Binary o) r = longer_op o r
  longer_operator (Condition s c t) r = let h = longer c (mark Else t r) in omega arith
