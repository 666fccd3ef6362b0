-- The tree over the same tokens at other places has the same measures.
use Rattle.std.proofs.Common.{◌≡◌, ℕ, refl, ap, ◌∙◌}
use Rattle.tera_base.specs.declared.utils.Span.{Span}
use Rattle.tera_lexer.specs.grammar.Tokens.{Items}
use Rattle.tera_grammar.specs.Limits.{Limits}
use Rattle.tera_grammar.specs.expressions.Operators.{Div, GreaterThan, In}
use Rattle.tera_grammar.specs.expressions.Marks.{Mark, mark, RightParen, RightBracket, RightBrace, Comma, Colon, If, Else, For, Operation}
use Rattle.tera_grammar.specs.expressions.Concrete.{Kind, of_arguments, of_items, of_entries, closing, Tree, Atomic, Prefix, Suffixed, Infix, Atom, Literal, Null, Chain, Call, Paren, Array, Comprehension, Map, Component, Links, no_links, field, item, Sub, index, slice, Part, absent, present, Extra, no_extra, extra, Row, ended, only, then, Element, plain, spread, pair, argument, Attributes, no_attributes, bare, quoted, valued, spreading, Suffix, Test, Filter, Subscript, Args, no_args, args, Operator, Binary, Condition, name_yield, second_yield, yield, links_yield, part_yield, extra_yield, row_yield, attributes_yield, suffix_yield, operator_yield}
use Rattle.tera_grammar.specs.expressions.Measures.{Measure, measure, atom_measure, links_measure, sub_measure, part_measure, extra_measure, row_measure, element_measure, attributes_measure, suffix_measure, args_measure, operator_measure, openings, subscripts, arrays, linking, Within}
use Rattle.tera_source.proofs.Places.{tree_at, atom_at, links_at, sub_at, part_at, extra_at, row_at, element_at, attributes_at, suffix_at, args_at, operator_at}

-- two parts that are joined
joined : {m n p q : ℕ} (w : Measure) → m ≡ n → p ≡ q → w.join m p ≡ w.join n q
joined {m} {n} {p} {q} w one two = ap (λ x. w.join x p) one ∙ ap (w.join n) two

module _ (at : Items → Span) where
  mutual
    pub measure_same : (w : Measure) (t : Tree) (r : Items) → measure w (tree_at at t r) ≡ measure w t
    measure_same w (Atomic a) r = atom_same w a r
    measure_same w (Prefix s e) r = ap w.opening (measure_same w e r)
    measure_same w (Suffixed a s) r = joined w (measure_same w a (suffix_yield s r)) (suffix_same w s r)
    measure_same w (Infix a o b) r =
        joined w (measure_same w a (operator_yield o (yield b r))) (joined w (operator_same w o (yield b r)) (ap w.opening (measure_same w b r)))

    atom_same : (w : Measure) (a : Atom) (r : Items) → atom_measure w (atom_at at a r) ≡ atom_measure w a
    atom_same w (Literal l s) r = refl
    atom_same w (Null n) r = refl
    atom_same w (Chain n ls) r = links_same w ls r
    atom_same w (Call n s row) r = row_same w of_arguments row r
    atom_same w (Paren s e t) r = ap w.opening (measure_same w e (mark RightParen t r))
    atom_same w (Array s row) r = ap w.array (row_same w of_items row r)
    atom_same w (Comprehension s e f n m i t g c) r =
        let end = mark RightBracket c r in
        let guard = extra_yield If g end in
        let more = second_yield m (mark (Operation In) i (yield t guard)) in
        joined w (ap w.array (ap w.opening (measure_same w e (mark For f (name_yield n more)))))
        (joined w (ap w.opening (measure_same w t guard)) (extra_same w If g end))
    atom_same w (Map s row) r = row_same w of_entries row r
    atom_same w (Component s n ds ats t u) r =
        attributes_same w ats (mark (Operation Div) t (mark (Operation GreaterThan) u r))

    links_same : (w : Measure) (ls : Links) (r : Items) → links_measure w (links_at at ls r) ≡ links_measure w ls
    links_same w no_links r = refl
    links_same w (field d n ls) r = ap w.link (links_same w ls r)
    links_same w (item b s ls) r = ap w.link (joined w (ap w.subscript (sub_same w s (links_yield ls r))) (links_same w ls r))

    sub_same : (w : Measure) (s : Sub) (r : Items) → sub_measure w (sub_at at s r) ≡ sub_measure w s
    sub_same w (index e c) r = ap w.opening (measure_same w e (mark RightBracket c r))
    sub_same w (slice a s b x c) r =
        let end = mark RightBracket c r in
        let step = extra_yield Colon x end in
        joined w (part_same w a (mark Colon s (part_yield b step))) (joined w (part_same w b step) (extra_same w Colon x end))

    part_same : (w : Measure) (a : Part) (r : Items) → part_measure w (part_at at a r) ≡ part_measure w a
    part_same w absent r = refl
    part_same w (present e) r = ap w.opening (measure_same w e r)

    extra_same : (w : Measure) (m : Mark) (x : Extra) (r : Items) → extra_measure w (extra_at at m x r) ≡ extra_measure w x
    extra_same w m no_extra r = refl
    extra_same w m (extra s e) r = ap w.opening (measure_same w e r)

    row_same : (w : Measure) (k : Kind) (row : Row) (r : Items) → row_measure w (row_at at k row r) ≡ row_measure w row
    row_same w k (ended s) r = refl
    row_same w k (only x s) r = element_same w x (mark (closing k) s r)
    row_same w k (then x s xs) r = joined w (element_same w x (mark Comma s (row_yield k xs r))) (row_same w k xs r)

    element_same : (w : Measure) (x : Element) (r : Items) → element_measure w (element_at at x r) ≡ element_measure w x
    element_same w (plain e) r = ap w.opening (measure_same w e r)
    element_same w (spread s e) r = ap w.opening (measure_same w e r)
    element_same w (pair l s t e) r = ap w.opening (measure_same w e r)
    element_same w (argument n s e) r = ap w.opening (measure_same w e r)

    attributes_same : (w : Measure) (ats : Attributes) (r : Items) → attributes_measure w (attributes_at at ats r) ≡ attributes_measure w ats
    attributes_same w no_attributes r = refl
    attributes_same w (bare n ats) r = attributes_same w ats r
    attributes_same w (quoted n s q t ats) r = attributes_same w ats r
    attributes_same w (valued n s b e c ats) r =
        joined w (ap w.opening (measure_same w e (mark RightBrace c (attributes_yield ats r)))) (attributes_same w ats r)
    attributes_same w (spreading b s e c ats) r =
        joined w (ap w.opening (measure_same w e (mark RightBrace c (attributes_yield ats r)))) (attributes_same w ats r)

    suffix_same : (w : Measure) (s : Suffix) (r : Items) → suffix_measure w (suffix_at at s r) ≡ suffix_measure w s
    suffix_same w (Test s n x g) r = ap w.link (args_same w g r)
    suffix_same w (Filter s x g) r = ap w.link (args_same w g r)
    suffix_same w (Subscript s b) r = ap w.link (ap w.subscript (sub_same w b r))

    args_same : (w : Measure) (g : Args) (r : Items) → args_measure w (args_at at g r) ≡ args_measure w g
    args_same w no_args r = refl
    args_same w (args s row) r = row_same w of_arguments row r

    operator_same : (w : Measure) (o : Operator) (r : Items) → operator_measure w (operator_at at o r) ≡ operator_measure w o
    operator_same w (Binary o) r = refl
    operator_same w (Condition s c t) r = ap w.opening (measure_same w c (mark Else t r))

  -- so it is within the same limits
  pub within_same : (limits : Limits) (t : Tree) (r : Items) → Within limits t → Within limits (tree_at at t r)
  within_same limits t r w = record {
    depth = rw (measure_same openings t r) w.depth;
    few_links = rw (measure_same linking t r) w.few_links;
    few_subscripts = rw (measure_same subscripts t r) w.few_subscripts;
    few_arrays = rw (measure_same arrays t r) w.few_arrays;
  }
