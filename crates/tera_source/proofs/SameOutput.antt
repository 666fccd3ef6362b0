-- The tree over the same tokens at other places is read as the same, apart from places.
use Rattle.std.proofs.Common.{◌≡◌, Bool, true, false, ◌++◌, refl, sym, ap, ap₂, ◌∙◌, codes}
use Rattle.tera_base.specs.Values as values
use Rattle.tera_base.specs.declared.utils.Span.{Span}
use Rattle.tera_lexer.specs.grammar.Tokens.{Items}
use Rattle.tera_lexer.specs.code.Cursors.{nowhere}
use Rattle.tera_ast.specs.declared.ast.BinaryOperator.TheVariants as binary
use Rattle.tera_ast.specs.declared.ast.UnaryOperator.TheVariants as unary
use Rattle.tera_ast.specs.Tree as tree
use Rattle.tera_ast.specs.Tree.{Expr}
use Rattle.tera_grammar.specs.expressions.Operators.{Div, GreaterThan, In, operator_made}
use Rattle.tera_grammar.specs.expressions.Marks.{Mark, mark, RightParen, RightBracket, RightBrace, Comma, Colon, If, Else, For, Operation}
use Rattle.tera_grammar.specs.expressions.Concrete.{Name, Sign, Negative, Negates, Joint, plain_dot, optional_dot, Bracket, plain_bracket, optional_bracket, plainly, negated, Second, no_second, second, Dotted, no_dots, dots, Single, NotIn, Kind, of_arguments, of_items, of_entries, closing, Tree, Atomic, Prefix, Suffixed, Infix, Atom, Literal, Null, Chain, Call, Paren, Array, Comprehension, Map, Component, Links, no_links, field, item, Sub, index, slice, Part, absent, present, Extra, no_extra, extra, Row, ended, only, then, Element, plain, spread, pair, argument, Attributes, no_attributes, bare, quoted, valued, spreading, Suffix, Test, Filter, Subscript, Args, no_args, args, Operator, Binary, Condition, name_yield, second_yield, yield, links_yield, sub_yield, part_yield, extra_yield, row_yield, attributes_yield, suffix_yield, operator_yield}
use Rattle.tera_grammar.specs.expressions.Spans.{spanning, sign_span, first, last}
use Rattle.tera_grammar.specs.expressions.Output.{quote_text, array_of, map_of, put_arg, field_output, key_of, prefixed, is_optional_joint, is_optional_bracket, of_loop, dotted_text, key_variable, value_variable, output, links_output, sub_output, part_output, extra_output, arguments_output, argument_output, items_output, item_output, entries_output, entry_output, attributes_output, suffix_output, args_output, operator_output}
use Rattle.tera_source.specs.Placeless.{placeless, placeless_part, placeless_args, placeless_items, placeless_entries}
use Rattle.tera_source.proofs.Unplaced.{prefixed_placeless, array_placeless, map_placeless, put_placeless}
use Rattle.tera_source.proofs.Places.{name_at, sign_at, joint_at, bracket_at, second_at, dotted_at, tree_at, atom_at, links_at, sub_at, part_at, extra_at, row_at, element_at, attributes_at, suffix_at, args_at, operator_at}

module _ (at : Items → Span) where
  sign_same : (s : Sign) (r : Items) (e : Expr) → prefixed (sign_at at s r) e nowhere ≡ prefixed s e nowhere
  sign_same (Negative s) r (tree.Const (values.I64 n) t) = refl
  sign_same (Negative s) r _ = refl
  sign_same (Negates s) r _ = refl

  joint_same : (d : Joint) (r : Items) → is_optional_joint (joint_at at d r) ≡ is_optional_joint d
  joint_same (plain_dot s) r = refl
  joint_same (optional_dot s) r = refl

  bracket_same : (b : Bracket) (r : Items) → is_optional_bracket (bracket_at at b r) ≡ is_optional_bracket b
  bracket_same (plain_bracket s) r = refl
  bracket_same (optional_bracket s) r = refl

  field_same : (c : Bool) (e f : Expr) (d : Joint) (n : Name) (r more : Items) → placeless e ≡ placeless f →
      placeless (field_output c e (joint_at at d r) (name_at at n more)) ≡ placeless (field_output c f d n)
  field_same true e f d n r more h = refl
  field_same false e f d n r more h = ap₂ (λ x o. tree.GetAttr x n.text o nowhere) h (joint_same d r)

  key_same : (n : Name) (m : Second) (r more : Items) → key_variable (name_at at n r) (second_at at m more) ≡ key_variable n m
  key_same n no_second r more = refl
  key_same n (second s m) r more = refl

  value_same : (n : Name) (m : Second) (r more : Items) → value_variable (name_at at n r) (second_at at m more) ≡ value_variable n m
  value_same n no_second r more = refl
  value_same n (second s m) r more = refl

  dotted_same : (ds : Dotted) (r : Items) → dotted_text (dotted_at at ds r) ≡ dotted_text ds
  dotted_same no_dots r = refl
  dotted_same (dots s n ds) r = ap (λ x. codes "." ++ (n.text ++ x)) (dotted_same ds r)

  module _ (l : Bool) where
    mutual
      pub output_same : (t : Tree) (r : Items) → placeless (output l (tree_at at t r)) ≡ placeless (output l t)
      output_same (Atomic a) r = atom_same a r
      output_same (Prefix s e) r =
          prefixed_placeless (sign_at at s (yield e r)) (output l (tree_at at e r)) _
          ∙ sign_same s (yield e r) (placeless (output l (tree_at at e r)))
          ∙ ap (λ x. prefixed s x nowhere) (output_same e r)
          ∙ sym (prefixed_placeless s (output l e) (spanning (sign_span s) (last e)))
      output_same (Suffixed a s) r = suffix_same _ (first a) _ (output l a) s r (output_same a (suffix_yield s r))
      output_same (Infix a o b) r =
          operator_same _ _ _ (output l a) _ (output l b) o (yield b r) (output_same a (operator_yield o (yield b r))) (output_same b r)

      atom_same : (a : Atom) (r : Items) → placeless (output l (Atomic (atom_at at a r))) ≡ placeless (output l (Atomic a))
      atom_same (Literal x s) r = refl
      atom_same (Null n) r = refl
      atom_same (Chain n ls) r = links_same (of_loop l n) (tree.Var n.text (at (links_yield ls r))) (tree.Var n.text n.span) ls r refl
      atom_same (Call n s row) r = ap (λ g. tree.FunctionCall n.text g nowhere) (arguments_same of_arguments row r tree.NoArgs tree.NoArgs refl)
      atom_same (Paren s e t) r = output_same e (mark RightParen t r)
      atom_same (Array s row) r =
          array_placeless (items_output l (row_at at of_items row r)) _ ∙ ap (λ is. array_of is nowhere) (items_same of_items row r)
          ∙ sym (array_placeless (items_output l row) _)
      atom_same (Comprehension s e f n m i t g c) r =
          let end = mark RightBracket c r in
          let guard = extra_yield If g end in
          let inside = mark (Operation In) i (yield t guard) in
          let more = second_yield m inside in
          let one = output_same e (mark For f (name_yield n more)) in
          let two = output_same t guard in
          let three = extra_same If g end in
          rw (one, two, three, key_same n m more inside, value_same n m more inside) refl
      atom_same (Map s row) r =
          map_placeless (entries_output l (row_at at of_entries row r)) _ ∙ ap (λ es. map_of es nowhere) (entries_same of_entries row r)
          ∙ sym (map_placeless (entries_output l row) _)
      atom_same (Component s n ds ats t u) r =
          let end = mark (Operation Div) t (mark (Operation GreaterThan) u r) in
          ap₂ (λ x es. tree.ComponentCall (n.text ++ x) es tree.NoNodes true nowhere) (dotted_same ds (attributes_yield ats end)) (attributes_same ats end)

      links_same : (c : Bool) (e f : Expr) (ls : Links) (r : Items) → placeless e ≡ placeless f →
          placeless (links_output l c e (links_at at ls r)) ≡ placeless (links_output l c f ls)
      links_same c e f no_links r h = h
      links_same c e f (field d n ls) r h =
          let more = links_yield ls r in
          links_same c (field_output c e (joint_at at d (name_yield n more)) (name_at at n more)) (field_output c f d n) ls r
          (field_same c e f d n (name_yield n more) more h)
      links_same c e f (item b s ls) r h =
          let more = links_yield ls r in
          let o = is_optional_bracket (bracket_at at b (sub_yield s more)) in
          links_same c (sub_output l o e (sub_at at s more)) (sub_output l (is_optional_bracket b) f s) ls r
          (sub_same o (is_optional_bracket b) e f s more (bracket_same b (sub_yield s more)) h)

      sub_same : (o p : Bool) (e f : Expr) (s : Sub) (r : Items) → o ≡ p → placeless e ≡ placeless f →
          placeless (sub_output l o e (sub_at at s r)) ≡ placeless (sub_output l p f s)
      sub_same o p e f (index i c) r same h = rw (same, h, output_same i (mark RightBracket c r)) refl
      sub_same o p e f (slice a s b x c) r same h =
          let end = mark RightBracket c r in
          let step = extra_yield Colon x end in
          rw (same, h, part_same a (mark Colon s (part_yield b step)), part_same b step, extra_same Colon x end) refl

      part_same : (a : Part) (r : Items) → placeless_part (part_output l (part_at at a r)) ≡ placeless_part (part_output l a)
      part_same absent r = refl
      part_same (present e) r = ap tree.OneExpr (output_same e r)

      extra_same : (m : Mark) (x : Extra) (r : Items) → placeless_part (extra_output l (extra_at at m x r)) ≡ placeless_part (extra_output l x)
      extra_same m no_extra r = refl
      extra_same m (extra s e) r = ap tree.OneExpr (output_same e r)

      arguments_same : (k : Kind) (row : Row) (r : Items) (g h : tree.Args) → placeless_args g ≡ placeless_args h →
          placeless_args (arguments_output l (row_at at k row r) g) ≡ placeless_args (arguments_output l row h)
      arguments_same k (ended s) r g h same = same
      arguments_same k (only x s) r g h same = argument_same x (mark (closing k) s r) g h same
      arguments_same k (then x s xs) r g h same =
          let more = mark Comma s (row_yield k xs r) in
          arguments_same k xs r (argument_output l (element_at at x more) g) (argument_output l x h) (argument_same x more g h same)

      argument_same : (x : Element) (r : Items) (g h : tree.Args) → placeless_args g ≡ placeless_args h →
          placeless_args (argument_output l (element_at at x r) g) ≡ placeless_args (argument_output l x h)
      argument_same (argument n s e) r g h same =
          put_placeless n.text (output l (tree_at at e r)) g ∙ ap₂ (put_arg n.text) (output_same e r) same ∙ sym (put_placeless n.text (output l e) h)
      argument_same (plain e) r g h same = same
      argument_same (spread s e) r g h same = same
      argument_same (pair x s t e) r g h same = same

      items_same : (k : Kind) (row : Row) (r : Items) → placeless_items (items_output l (row_at at k row r)) ≡ placeless_items (items_output l row)
      items_same k (ended s) r = refl
      items_same k (only x s) r = item_same x (mark (closing k) s r) tree.NoItems tree.NoItems refl
      items_same k (then x s xs) r =
          item_same x (mark Comma s (row_yield k xs r)) (items_output l (row_at at k xs r)) (items_output l xs) (items_same k xs r)

      item_same : (x : Element) (r : Items) (is js : tree.Items) → placeless_items is ≡ placeless_items js →
          placeless_items (item_output l (element_at at x r) is) ≡ placeless_items (item_output l x js)
      item_same (plain e) r is js h = ap₂ tree.Item (output_same e r) h
      item_same (spread s e) r is js h = ap₂ tree.SpreadItem (output_same e r) h
      item_same (pair x s t e) r is js h = h
      item_same (argument n s e) r is js h = h

      entries_same : (k : Kind) (row : Row) (r : Items) → placeless_entries (entries_output l (row_at at k row r)) ≡ placeless_entries (entries_output l row)
      entries_same k (ended s) r = refl
      entries_same k (only x s) r = entry_same x (mark (closing k) s r) tree.NoEntries tree.NoEntries refl
      entries_same k (then x s xs) r =
          entry_same x (mark Comma s (row_yield k xs r)) (entries_output l (row_at at k xs r)) (entries_output l xs) (entries_same k xs r)

      entry_same : (x : Element) (r : Items) (es fs : tree.Entries) → placeless_entries es ≡ placeless_entries fs →
          placeless_entries (entry_output l (element_at at x r) es) ≡ placeless_entries (entry_output l x fs)
      entry_same (pair x s t e) r es fs h = ap₂ (tree.Entry (key_of x)) (output_same e r) h
      entry_same (spread s e) r es fs h = ap₂ tree.SpreadEntry (output_same e r) h
      entry_same (plain e) r es fs h = h
      entry_same (argument n s e) r es fs h = h

      attributes_same : (ats : Attributes) (r : Items) → placeless_entries (attributes_output l (attributes_at at ats r)) ≡ placeless_entries (attributes_output l ats)
      attributes_same no_attributes r = refl
      attributes_same (bare n ats) r = ap (tree.Entry (values.TextKey n.text) (tree.Var n.text nowhere)) (attributes_same ats r)
      attributes_same (quoted n s q t ats) r = ap (tree.Entry (values.TextKey n.text) (tree.Const (values.Text (quote_text q)) nowhere)) (attributes_same ats r)
      attributes_same (valued n s b e c ats) r =
          ap₂ (tree.Entry (values.TextKey n.text)) (output_same e (mark RightBrace c (attributes_yield ats r))) (attributes_same ats r)
      attributes_same (spreading b s e c ats) r =
          ap₂ tree.SpreadEntry (output_same e (mark RightBrace c (attributes_yield ats r))) (attributes_same ats r)

      suffix_same : (start begin : Span) (e f : Expr) (s : Suffix) (r : Items) → placeless e ≡ placeless f →
          placeless (suffix_output l start e (suffix_at at s r)) ≡ placeless (suffix_output l begin f s)
      suffix_same start begin e f (Test s plainly w g) r h = ap₂ (λ x y. tree.Test x w.text y nowhere) h (args_same g r)
      suffix_same start begin e f (Test s (negated n) w g) r h =
          ap₂ (λ x y. tree.UnaryOperation unary.Not (tree.Test x w.text y nowhere) nowhere) h (args_same g r)
      suffix_same start begin e f (Filter s w g) r h = ap₂ (λ x y. tree.Filter x w.text y nowhere) h (args_same g r)
      suffix_same start begin e f (Subscript s b) r h = sub_same false false e f b r refl h

      args_same : (g : Args) (r : Items) → placeless_args (args_output l (args_at at g r)) ≡ placeless_args (args_output l g)
      args_same no_args r = refl
      args_same (args s row) r = arguments_same of_arguments row r tree.NoArgs tree.NoArgs refl

      operator_same : (span place : Span) (a b c d : Expr) (o : Operator) (r : Items) → placeless a ≡ placeless b → placeless c ≡ placeless d →
          placeless (operator_output l span a (operator_at at o r) c) ≡ placeless (operator_output l place b o d)
      operator_same span place a b c d (Binary (Single o s)) r h g = ap₂ (λ x y. tree.BinaryOperation (operator_made o) x y nowhere) h g
      operator_same span place a b c d (Binary (NotIn s t)) r h g =
          ap₂ (λ x y. tree.UnaryOperation unary.Not (tree.BinaryOperation binary.In x y nowhere) nowhere) h g
      operator_same span place a b c d (Condition s x t) r h g = rw (h, g, output_same x (mark Else t r)) refl
