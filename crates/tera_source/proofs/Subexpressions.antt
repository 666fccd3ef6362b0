-- Each expression in an expression meets the conditions within its limits, and is where it is.
use Rattle.std.proofs.Common.{◌≡◌, ℕ, suc, ◌≤◌, Bool, ap, arith}
use Rattle.tera_base.specs.declared.utils.Span.{Span}
use Rattle.tera_lexer.specs.grammar.Tokens.{Tok, Items, Token}
use Rattle.tera_grammar.specs.Limits.{Limits}
use Rattle.tera_grammar.specs.expressions.Marks.{Mark, Colon, If}
use Rattle.tera_grammar.specs.expressions.Concrete.{Tree, Atomic, Prefix, Suffixed, Infix, Atom, Literal, Null, Chain, Call, Paren, Array, Comprehension, Map, Component, Links, no_links, field, item, Sub, index, slice, Part, absent, present, Extra, no_extra, extra, Row, ended, only, then, Element, plain, spread, pair, argument, Attributes, no_attributes, bare, quoted, valued, spreading, Suffix, Test, Filter, Subscript, Args, no_args, args, Operator, Binary, Condition, Sign, Negative, Negates, Joint, plain_dot, optional_dot, Bracket, plain_bracket, optional_bracket, Negation, plainly, negated, Second, no_second, second, Dotted, no_dots, dots, Op, Single, NotIn, Kind, of_arguments, of_items, of_entries, sign_yield, joint_yield, bracket_yield, negation_yield, second_yield, dotted_yield, op_yield, yield, atom_yield, links_yield, sub_yield, part_yield, extra_yield, row_yield, element_yield, attributes_yield, suffix_yield, args_yield, operator_yield}
use Rattle.tera_grammar.specs.expressions.Conditions.{IsExpression, IsAtom, AreLinks, IsSub, IsPart, IsExtra, IsRow, IsElement, AreAttributes, IsSuffix, AreArgs, IsOperator}
use Rattle.tera_grammar.specs.expressions.Measures.{measure, openings, subscripts, arrays, links, linking, atom_measure, links_measure, sub_measure, part_measure, extra_measure, row_measure, element_measure, attributes_measure, suffix_measure, args_measure, operator_measure, Within}
use Rattle.tera_grammar.specs.expressions.Output.{of_loop}
use Rattle.tera_source.proofs.Depths.{Weight, deep, atom_deep, links_deep, sub_deep, part_deep, extra_deep, row_deep, element_deep, attributes_deep, suffix_deep, args_deep, operator_deep, by_opening, by_subscript, by_array, openings_by, subscripts_by, arrays_by}
use Rattle.tera_source.specs.Subexpressions.{EachPart, EachOfAtom, EachOfLinks, EachOfSub, EachOfPart, EachOfExtra, EachOfRow, EachOfElement, EachOfAttributes, EachOfSuffix, EachOfArgs, EachOfOperator}
use Rattle.tera_source.proofs.Outermost.{Left, skip, StandsAmong}

-- so deep by each weight, and so many links, are within the limits
record Room (l : Limits) (d : Weight → ℕ) (n : ℕ) : Type 0 where
  depth : suc (d by_opening) ≤ l.depth
  few_links : n ≤ l.links
  few_subscripts : d by_subscript ≤ l.subscripts
  few_arrays : d by_array ≤ l.arrays

module _ (l : Limits) where
  less : (d c : Weight → ℕ) (n k : ℕ) → Room l d n → ((w : Weight) → c w ≤ d w) → k ≤ n → Room l c k
  less d c n k room low few =
      let one = low by_opening in
      let two = low by_subscript in
      let three = low by_array in
      let four = room.depth in
      let five = room.few_links in
      let six = room.few_subscripts in
      let seven = room.few_arrays in
      record { depth = omega arith; few_links = omega arith; few_subscripts = omega arith; few_arrays = omega arith }

  abbrev Small : Tree → Type 0
  Small t = Room l (λ w. deep w t) (links t)

  opened : (t : Tree) → deep by_opening t ≡ measure openings t
  opened t = ap (λ m. measure m t) openings_by

  nested : (t : Tree) → deep by_subscript t ≡ measure subscripts t
  nested t = ap (λ m. measure m t) subscripts_by

  arrayed : (t : Tree) → deep by_array t ≡ measure arrays t
  arrayed t = ap (λ m. measure m t) arrays_by

  small_within : (t : Tree) → Small t → Within l t
  small_within t room =
      let one = opened t in
      let two = nested t in
      let three = arrayed t in
      let four = room.depth in
      let five = room.few_subscripts in
      let six = room.few_arrays in
      record { depth = omega arith; few_links = room.few_links; few_subscripts = omega arith; few_arrays = omega arith }

  within_small : (t : Tree) → Within l t → Small t
  within_small t w =
      let one = opened t in
      let two = nested t in
      let three = arrayed t in
      let four = w.depth in
      let five = w.few_subscripts in
      let six = w.few_arrays in
      record { depth = omega arith; few_links = w.few_links; few_subscripts = omega arith; few_arrays = omega arith }

  module _ (whole : Items) (f : Bool) (P : Tree → Type 0) (from : (e : Tree) → StandsAmong l whole f e → P e) where
    pass : (t : Tok) (s : Span) (r : Items) → Left whole (Token t s r) → Left whole r
    pass t s r h = skip whole t s r h

    after_sign : (s : Sign) (r : Items) → Left whole (sign_yield s r) → Left whole r
    after_sign (Negative s) r h = pass _ s r h
    after_sign (Negates s) r h = pass _ s r h

    after_joint : (d : Joint) (r : Items) → Left whole (joint_yield d r) → Left whole r
    after_joint (plain_dot s) r h = pass _ s r h
    after_joint (optional_dot s) r h = pass _ s r h

    after_bracket : (b : Bracket) (r : Items) → Left whole (bracket_yield b r) → Left whole r
    after_bracket (plain_bracket s) r h = pass _ s r h
    after_bracket (optional_bracket s) r h = pass _ s r h

    after_negation : (n : Negation) (r : Items) → Left whole (negation_yield n r) → Left whole r
    after_negation plainly r h = h
    after_negation (negated s) r h = pass _ s r h

    after_op : (o : Op) (r : Items) → Left whole (op_yield o r) → Left whole r
    after_op (Single o s) r h = pass _ s r h
    after_op (NotIn s t) r h = pass _ t r (pass _ s _ h)

    after_second : (m : Second) (r : Items) → Left whole (second_yield m r) → Left whole r
    after_second no_second r h = h
    after_second (second s n) r h = pass _ n.span r (pass _ s _ h)

    after_dotted : (ds : Dotted) (r : Items) → Left whole (dotted_yield ds r) → Left whole r
    after_dotted no_dots r h = h
    after_dotted (dots s n ds) r h = after_dotted ds r (pass _ n.span _ (pass _ s _ h))

    here : (t : Tree) (r : Items) → Left whole (yield t r) → IsExpression f t → Small t → P t
    here t r h is small = from t (record { bound = is; within = small_within t small; before = h.before; following = r; is = h.is })

    mutual
      parts : (t : Tree) (r : Items) → Left whole (yield t r) → IsExpression f t → Small t → EachPart P t × Left whole r
      parts (Atomic a) r h is small =
          let one = atom_parts a r h is small in ((here (Atomic a) r h is small, one.0), one.1)
      parts (Prefix s e) r h is small =
          let one = parts e r (after_sign s _ h) is.2 (less _ _ _ _ small (λ w. omega arith) (omega arith)) in
          ((here (Prefix s e) r h is small, one.0), one.1)
      parts (Suffixed a s) r h is small =
          let one = parts a _ h is.1 (less _ _ _ _ small (λ w. omega arith) (omega arith)) in
          let two = suffix_parts s r one.1 is.2 (less _ _ _ _ small (λ w. omega arith) (omega arith)) in
          ((here (Suffixed a s) r h is small, one.0, two.0), two.1)
      parts (Infix a o b) r h is small =
          let one = parts a _ h is.3 (less _ _ _ _ small (λ w. omega arith) (omega arith)) in
          let two = operator_parts o _ one.1 is.4 (less _ _ _ _ small (λ w. omega arith) (omega arith)) in
          let three = parts b r two.1 is.5 (less _ _ _ _ small (λ w. omega arith) (omega arith)) in
          ((here (Infix a o b) r h is small, one.0, two.0, three.0), three.1)

      atom_parts : (a : Atom) (r : Items) → Left whole (atom_yield a r) → IsAtom f a → Room l (λ w. atom_deep w a) (atom_measure linking a) → EachOfAtom P a × Left whole r
      atom_parts (Literal x s) r h is small = (tt, pass _ s r h)
      atom_parts (Null n) r h is small = (tt, pass _ n.span r h)
      atom_parts (Chain n ls) r h is small = links_parts (of_loop f n) ls r (pass _ n.span _ h) is.1 small
      atom_parts (Call n s row) r h is small = row_parts of_arguments row r (pass _ s _ (pass _ n.span _ h)) is.1 small
      atom_parts (Paren s e t) r h is small =
          let one = parts e _ (pass _ s _ h) is (less _ _ _ _ small (λ w. omega arith) (omega arith)) in (one.0, pass _ t r one.1)
      atom_parts (Array s row) r h is small = row_parts of_items row r (pass _ s _ h) is (less _ _ _ _ small (λ w. omega arith) (omega arith))
      atom_parts (Comprehension s e i n m j t g c) r h is small =
          let one = parts e _ (pass _ s _ h) is.2 (less _ _ _ _ small (λ w. omega arith) (omega arith)) in
          let inside = pass _ j _ (after_second m _ (pass _ n.span _ (pass _ i _ one.1))) in
          let two = parts t _ inside is.3 (less _ _ _ _ small (λ w. omega arith) (omega arith)) in
          let three = extra_parts If 1 g _ two.1 is.4 (less _ _ _ _ small (λ w. omega arith) (omega arith)) in
          ((one.0, two.0, three.0), pass _ c r three.1)
      atom_parts (Map s row) r h is small = row_parts of_entries row r (pass _ s _ h) is small
      atom_parts (Component s n ds ats t u) r h is small =
          let one = attributes_parts ats _ (after_dotted ds _ (pass _ n.span _ (pass _ s _ h))) is small in
          (one.0, pass _ u r (pass _ t _ one.1))

      links_parts : (c : Bool) (ls : Links) (r : Items) → Left whole (links_yield ls r) → AreLinks f c ls → Room l (λ w. links_deep w ls) (links_measure linking ls) →
          EachOfLinks P ls × Left whole r
      links_parts c no_links r h is small = (tt, h)
      links_parts c (field d n ls) r h is small =
          links_parts c ls r (pass _ n.span _ (after_joint d _ h)) is.1 (less _ _ _ _ small (λ w. omega arith) (omega arith))
      links_parts c (item b s ls) r h is small =
          let one = sub_parts s _ (after_bracket b _ h) is.0 (less _ _ _ _ small (λ w. omega arith) (omega arith)) in
          let two = links_parts c ls r one.1 is.1 (less _ _ _ _ small (λ w. omega arith) (omega arith)) in ((one.0, two.0), two.1)

      sub_parts : (s : Sub) (r : Items) → Left whole (sub_yield s r) → IsSub f s → Room l (λ w. sub_deep w s) (sub_measure linking s) → EachOfSub P s × Left whole r
      sub_parts (index e c) r h is small =
          let one = parts e _ h is (less _ _ _ _ small (λ w. omega arith) (omega arith)) in (one.0, pass _ c r one.1)
      sub_parts (slice a s b x c) r h is small =
          let one = part_parts a _ h is.0 (less _ _ _ _ small (λ w. omega arith) (omega arith)) in
          let two = part_parts b _ (pass _ s _ one.1) is.1 (less _ _ _ _ small (λ w. omega arith) (omega arith)) in
          let three = extra_parts Colon 0 x _ two.1 is.2 (less _ _ _ _ small (λ w. omega arith) (omega arith)) in
          ((one.0, two.0, three.0), pass _ c r three.1)

      part_parts : (a : Part) (r : Items) → Left whole (part_yield a r) → IsPart f a → Room l (λ w. part_deep w a) (part_measure linking a) → EachOfPart P a × Left whole r
      part_parts absent r h is small = (tt, h)
      part_parts (present e) r h is small = parts e r h is (less _ _ _ _ small (λ w. omega arith) (omega arith))

      extra_parts : (m : Mark) (k : ℕ) (x : Extra) (r : Items) → Left whole (extra_yield m x r) → IsExtra f k x → Room l (λ w. extra_deep w x) (extra_measure linking x) →
          EachOfExtra P x × Left whole r
      extra_parts m k no_extra r h is small = (tt, h)
      extra_parts m k (extra s e) r h is small = parts e r (pass _ s _ h) is.1 (less _ _ _ _ small (λ w. omega arith) (omega arith))

      row_parts : (k : Kind) (row : Row) (r : Items) → Left whole (row_yield k row r) → IsRow f k row → Room l (λ w. row_deep w row) (row_measure linking row) →
          EachOfRow P row × Left whole r
      row_parts k (ended s) r h is small = (tt, pass _ s r h)
      row_parts k (only x s) r h is small = let one = element_parts k x _ h is small in (one.0, pass _ s r one.1)
      row_parts k (then x s xs) r h is small =
          let one = element_parts k x _ h is.0 (less _ _ _ _ small (λ w. omega arith) (omega arith)) in
          let two = row_parts k xs r (pass _ s _ one.1) is.1 (less _ _ _ _ small (λ w. omega arith) (omega arith)) in ((one.0, two.0), two.1)

      element_parts : (k : Kind) (x : Element) (r : Items) → Left whole (element_yield x r) → IsElement f k x → Room l (λ w. element_deep w x) (element_measure linking x) →
          EachOfElement P x × Left whole r
      element_parts k (plain e) r h is small = parts e r h is.1 (less _ _ _ _ small (λ w. omega arith) (omega arith))
      element_parts k (spread s e) r h is small = parts e r (pass _ s _ h) is.1 (less _ _ _ _ small (λ w. omega arith) (omega arith))
      element_parts k (pair x s t e) r h is small = parts e r (pass _ t _ (pass _ s _ h)) is.1 (less _ _ _ _ small (λ w. omega arith) (omega arith))
      element_parts k (argument n s e) r h is small = parts e r (pass _ s _ (pass _ n.span _ h)) is.1 (less _ _ _ _ small (λ w. omega arith) (omega arith))

      attributes_parts : (ats : Attributes) (r : Items) → Left whole (attributes_yield ats r) → AreAttributes f ats → Room l (λ w. attributes_deep w ats) (attributes_measure linking ats) →
          EachOfAttributes P ats × Left whole r
      attributes_parts no_attributes r h is small = (tt, h)
      attributes_parts (bare n ats) r h is small = attributes_parts ats r (pass _ n.span _ h) is small
      attributes_parts (quoted n s q t ats) r h is small = attributes_parts ats r (pass _ t _ (pass _ s _ (pass _ n.span _ h))) is small
      attributes_parts (valued n s b e c ats) r h is small =
          let one = parts e _ (pass _ b _ (pass _ s _ (pass _ n.span _ h))) is.0 (less _ _ _ _ small (λ w. omega arith) (omega arith)) in
          let two = attributes_parts ats r (pass _ c _ one.1) is.1 (less _ _ _ _ small (λ w. omega arith) (omega arith)) in ((one.0, two.0), two.1)
      attributes_parts (spreading b s e c ats) r h is small =
          let one = parts e _ (pass _ s _ (pass _ b _ h)) is.0 (less _ _ _ _ small (λ w. omega arith) (omega arith)) in
          let two = attributes_parts ats r (pass _ c _ one.1) is.1 (less _ _ _ _ small (λ w. omega arith) (omega arith)) in ((one.0, two.0), two.1)

      suffix_parts : (s : Suffix) (r : Items) → Left whole (suffix_yield s r) → IsSuffix f s → Room l (λ w. suffix_deep w s) (suffix_measure linking s) → EachOfSuffix P s × Left whole r
      suffix_parts (Test s n w g) r h is small =
          args_parts g r (pass _ w.span _ (after_negation n _ (pass _ s _ h))) is.1 (less _ _ _ _ small (λ w. omega arith) (omega arith))
      suffix_parts (Filter s w g) r h is small =
          args_parts g r (pass _ w.span _ (pass _ s _ h)) is (less _ _ _ _ small (λ w. omega arith) (omega arith))
      suffix_parts (Subscript s b) r h is small = sub_parts b r (pass _ s _ h) is (less _ _ _ _ small (λ w. omega arith) (omega arith))

      args_parts : (g : Args) (r : Items) → Left whole (args_yield g r) → AreArgs f g → Room l (λ w. args_deep w g) (args_measure linking g) → EachOfArgs P g × Left whole r
      args_parts no_args r h is small = (tt, h)
      args_parts (args s row) r h is small = row_parts of_arguments row r (pass _ s _ h) is.0 small

      operator_parts : (o : Operator) (r : Items) → Left whole (operator_yield o r) → IsOperator f o → Room l (λ w. operator_deep w o) (operator_measure linking o) →
          EachOfOperator P o × Left whole r
      operator_parts (Binary o) r h is small = (tt, after_op o r h)
      operator_parts (Condition s c t) r h is small =
          let one = parts c _ (pass _ s _ h) is (less _ _ _ _ small (λ w. omega arith) (omega arith)) in (one.0, pass _ t r one.1)

    -- of an expression that is among the tokens
    pub each_part : (e : Tree) → StandsAmong l whole f e → EachPart P e
    each_part e s = (parts e s.following (record { before = s.before; is = s.is }) s.bound (within_small e s.within)).0
