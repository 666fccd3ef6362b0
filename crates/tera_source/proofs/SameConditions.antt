-- The tree over the same tokens at other places meets the conditions that the first meets.
use Rattle.std.proofs.Common.{◌≡◌, ℕ, Bool, ◌∷◌, refl, sym, ap, ap₂, subst, ◌∙◌}
use Rattle.tera_base.specs.declared.utils.Span.{Span}
use Rattle.tera_lexer.specs.grammar.Tokens.{Items}
use Rattle.tera_ast.specs.Tree as tree
use Rattle.tera_ast.specs.Tree.{Expr}
use Rattle.tera_grammar.specs.expressions.Operators.{StrConcat, In}
use Rattle.tera_grammar.specs.expressions.Marks.{Mark, mark, RightBracket, Colon, If, Operation}
use Rattle.tera_grammar.specs.expressions.Concrete.{Name, Sign, Negative, Negates, plainly, negated, Second, no_second, second, Single, NotIn, Kind, of_arguments, of_items, of_entries, Tree, Atomic, Prefix, Suffixed, Infix, Atom, Literal, Null, Chain, Call, Paren, Array, Comprehension, Map, Component, Links, no_links, field, item, Sub, index, slice, Part, absent, present, Extra, no_extra, extra, Row, ended, only, then, Element, plain, spread, pair, argument, Attributes, no_attributes, bare, quoted, valued, spreading, Suffix, Test, Filter, Subscript, Args, no_args, args, Operator, Binary, Condition, yield, second_yield, extra_yield}
use Rattle.tera_grammar.specs.Words.{AreDistinct}
use Rattle.tera_grammar.specs.expressions.Powers.{test_power, filter_power, sign_power, left_power, right_power, left_spine, right_spine, AtLeast, Above, NoChain, Carries, BeginsPlain}
use Rattle.tera_grammar.specs.expressions.Conditions.{AreVariables, is_element_of, argument_names, is_refused, IsExpression, IsAtom, AreLinks, IsSub, IsPart, IsExtra, IsRow, IsElement, AreAttributes, IsSuffix, AreArgs, IsOperator}
use Rattle.tera_grammar.specs.expressions.Output.{of_loop, is_unary, output}
use Rattle.tera_source.specs.Placeless.{placeless}
use Rattle.tera_source.proofs.Places.{name_at, sign_at, second_at, tree_at, atom_at, links_at, sub_at, part_at, extra_at, row_at, element_at, attributes_at, suffix_at, args_at, operator_at}
use Rattle.tera_source.proofs.SameOutput.{output_same}

unary_placeless : (e : Expr) → is_unary (placeless e) ≡ is_unary e
unary_placeless (tree.UnaryOperation o e s) = refl
unary_placeless _ = refl

module _ (at : Items → Span) where
  sign_power_same : (s : Sign) (r : Items) → sign_power (sign_at at s r) ≡ sign_power s
  sign_power_same (Negative s) r = refl
  sign_power_same (Negates s) r = refl

  left_power_same : (o : Operator) (r : Items) → left_power (operator_at at o r) ≡ left_power o
  left_power_same (Binary (Single o s)) r = refl
  left_power_same (Binary (NotIn s t)) r = refl
  left_power_same (Condition s c t) r = refl

  right_power_same : (o : Operator) (r : Items) → right_power (operator_at at o r) ≡ right_power o
  right_power_same (Binary (Single o s)) r = refl
  right_power_same (Binary (NotIn s t)) r = refl
  right_power_same (Condition s c t) r = refl

  left_same : (t : Tree) (r : Items) → left_spine (tree_at at t r) ≡ left_spine t
  left_same (Atomic a) r = refl
  left_same (Prefix s e) r = refl
  left_same (Suffixed a (Test s n w g)) r = ap (λ ps. test_power ∷ ps) (left_same a _)
  left_same (Suffixed a (Filter s w g)) r = ap (λ ps. filter_power ∷ ps) (left_same a _)
  left_same (Suffixed a (Subscript s b)) r = left_same a _
  left_same (Infix a o b) r = ap₂ (λ p ps. p ∷ ps) (left_power_same o (yield b r)) (left_same a _)

  right_same : (t : Tree) (r : Items) → right_spine (tree_at at t r) ≡ right_spine t
  right_same (Atomic a) r = refl
  right_same (Prefix s e) r = ap₂ (λ p ps. p ∷ ps) (sign_power_same s (yield e r)) (right_same e r)
  right_same (Suffixed a s) r = refl
  right_same (Infix a o b) r = ap₂ (λ p ps. p ∷ ps) (right_power_same o (yield b r)) (right_same b r)

  at_least : (m n : ℕ) (t : Tree) (r : Items) → n ≡ m → AtLeast m t → AtLeast n (tree_at at t r)
  at_least m n t r same h = rw (left_same t r, same) h

  above : (m n : ℕ) (t : Tree) (r : Items) → n ≡ m → Above m t → Above n (tree_at at t r)
  above m n t r same h = rw (right_same t r, same) h

  begins_plain : (t : Tree) (r : Items) → BeginsPlain t → BeginsPlain (tree_at at t r)
  begins_plain (Atomic a) r h = tt
  begins_plain (Prefix s e) r h = absurd h
  begins_plain (Suffixed a s) r h = begins_plain a _ h
  begins_plain (Infix a o b) r h = begins_plain a _ h

  no_chain : (t : Tree) (r : Items) → NoChain t → NoChain (tree_at at t r)
  no_chain (Atomic (Chain n ls)) r h = absurd h
  no_chain (Atomic _) r h = tt
  no_chain _ r h = tt

  carries : (a : Tree) (s : Suffix) (r more : Items) → Carries a s → Carries (tree_at at a r) (suffix_at at s more)
  carries a (Test s n w g) r more h = above test_power test_power a r refl h
  carries a (Filter s w g) r more h = above filter_power filter_power a r refl h
  carries a (Subscript s b) r more h = (right_same a r ∙ h.0, no_chain a r h.1)

  names_same : (k : Kind) (row : Row) (r : Items) → argument_names (row_at at k row r) ≡ argument_names row
  names_same k (ended s) r = refl
  names_same k (only (plain e) t) r = refl
  names_same k (only (spread s e) t) r = refl
  names_same k (only (pair x s u e) t) r = refl
  names_same k (only (argument n s e) t) r = refl
  names_same k (then (plain e) t xs) r = names_same k xs r
  names_same k (then (spread s e) t xs) r = names_same k xs r
  names_same k (then (pair x s u e) t xs) r = names_same k xs r
  names_same k (then (argument n s e) t xs) r = ap (λ ns. n.text ∷ ns) (names_same k xs r)

  distinct_same : (k : Kind) (row : Row) (r : Items) → AreDistinct (argument_names row) → AreDistinct (argument_names (row_at at k row r))
  distinct_same k row r h = subst AreDistinct (sym (names_same k row r)) h

  variables_same : (n : Name) (m : Second) (r more : Items) → AreVariables n m → AreVariables (name_at at n r) (second_at at m more)
  variables_same n no_second r more h = h
  variables_same n (second s m) r more h = h

  element_kept : (k : Kind) (x : Element) (r : Items) → is_element_of k (element_at at x r) ≡ is_element_of k x
  element_kept of_arguments (plain e) r = refl
  element_kept of_arguments (spread s e) r = refl
  element_kept of_arguments (pair x s t e) r = refl
  element_kept of_arguments (argument n s e) r = refl
  element_kept of_items (plain e) r = refl
  element_kept of_items (spread s e) r = refl
  element_kept of_items (pair x s t e) r = refl
  element_kept of_items (argument n s e) r = refl
  element_kept of_entries (plain e) r = refl
  element_kept of_entries (spread s e) r = refl
  element_kept of_entries (pair x s t e) r = refl
  element_kept of_entries (argument n s e) r = refl

  module _ (l : Bool) where
    refused_same : (o : Operator) (b : Tree) (r more : Items) → is_refused l (operator_at at o more) (tree_at at b r) ≡ is_refused l o b
    refused_same (Binary (Single StrConcat s)) b r more =
        sym (unary_placeless (output l (tree_at at b r))) ∙ ap is_unary (output_same at l b r) ∙ unary_placeless (output l b)
    refused_same (Binary (Single _ s)) b r more = refl
    refused_same (Binary (NotIn s t)) b r more = refl
    refused_same (Condition s c t) b r more = refl

    mutual
      pub bound_same : (t : Tree) (r : Items) → IsExpression l t → IsExpression l (tree_at at t r)
      bound_same (Atomic a) r h = atom_bound a r h
      bound_same (Prefix s e) r h =
          (at_least (sign_power s) _ e r (sign_power_same s (yield e r)) h.0, begins_plain e r h.1, bound_same e r h.2)
      bound_same (Suffixed a s) r h = (carries a s _ r h.0, bound_same a _ h.1, suffix_bound s r h.2)
      bound_same (Infix a o b) r h = (
        above (left_power o) _ a _ (left_power_same o (yield b r)) h.0,
        at_least (right_power o) _ b r (right_power_same o (yield b r)) h.1,
        refused_same o b r (yield b r) ∙ h.2,
        bound_same a _ h.3,
        operator_bound o (yield b r) h.4,
        bound_same b r h.5,
      )

      atom_bound : (a : Atom) (r : Items) → IsAtom l a → IsAtom l (atom_at at a r)
      atom_bound (Literal x s) r h = tt
      atom_bound (Null n) r h = h
      atom_bound (Chain n ls) r h = (h.0, links_bound (of_loop l n) ls r h.1)
      atom_bound (Call n s row) r h = (h.0, row_bound of_arguments row r h.1, distinct_same of_arguments row r h.2)
      atom_bound (Paren s e t) r h = bound_same e _ h
      atom_bound (Array s row) r h = row_bound of_items row r h
      atom_bound (Comprehension s e f n m i t g c) r h =
          let inside = mark (Operation In) i (yield t (extra_yield If g (mark RightBracket c r))) in
          (variables_same n m (second_yield m inside) inside h.0, at_least 1 1 t _ refl h.1, bound_same e _ h.2, bound_same t _ h.3, extra_bound If 1 g _ h.4)
      atom_bound (Map s row) r h = row_bound of_entries row r h
      atom_bound (Component s n ds ats t u) r h = attributes_bound ats _ h

      links_bound : (c : Bool) (ls : Links) (r : Items) → AreLinks l c ls → AreLinks l c (links_at at ls r)
      links_bound c no_links r h = tt
      links_bound c (field d n ls) r h = (h.0, links_bound c ls r h.1)
      links_bound c (item b s ls) r h = (sub_bound s _ h.0, links_bound c ls r h.1)

      sub_bound : (s : Sub) (r : Items) → IsSub l s → IsSub l (sub_at at s r)
      sub_bound (index e c) r h = bound_same e _ h
      sub_bound (slice a s b x c) r h = (part_bound a _ h.0, part_bound b _ h.1, extra_bound Colon 0 x _ h.2)

      part_bound : (a : Part) (r : Items) → IsPart l a → IsPart l (part_at at a r)
      part_bound absent r h = tt
      part_bound (present e) r h = bound_same e r h

      extra_bound : (m : Mark) (k : ℕ) (x : Extra) (r : Items) → IsExtra l k x → IsExtra l k (extra_at at m x r)
      extra_bound m k no_extra r h = tt
      extra_bound m k (extra s e) r h = (at_least k k e r refl h.0, bound_same e r h.1)

      row_bound : (k : Kind) (row : Row) (r : Items) → IsRow l k row → IsRow l k (row_at at k row r)
      row_bound k (ended s) r h = tt
      row_bound k (only x s) r h = element_bound k x _ h
      row_bound k (then x s xs) r h = (element_bound k x _ h.0, row_bound k xs r h.1)

      element_bound : (k : Kind) (x : Element) (r : Items) → IsElement l k x → IsElement l k (element_at at x r)
      element_bound k (plain e) r h = (element_kept k (plain e) r ∙ h.0, bound_same e r h.1)
      element_bound k (spread s e) r h = (element_kept k (spread s e) r ∙ h.0, bound_same e r h.1)
      element_bound k (pair x s t e) r h = (element_kept k (pair x s t e) r ∙ h.0, bound_same e r h.1)
      element_bound k (argument n s e) r h = (element_kept k (argument n s e) r ∙ h.0, bound_same e r h.1)

      attributes_bound : (ats : Attributes) (r : Items) → AreAttributes l ats → AreAttributes l (attributes_at at ats r)
      attributes_bound no_attributes r h = tt
      attributes_bound (bare n ats) r h = attributes_bound ats r h
      attributes_bound (quoted n s q t ats) r h = attributes_bound ats r h
      attributes_bound (valued n s b e c ats) r h = (bound_same e _ h.0, attributes_bound ats r h.1)
      attributes_bound (spreading b s e c ats) r h = (bound_same e _ h.0, attributes_bound ats r h.1)

      suffix_bound : (s : Suffix) (r : Items) → IsSuffix l s → IsSuffix l (suffix_at at s r)
      suffix_bound (Test s plainly w g) r h = (h.0, args_bound g r h.1)
      suffix_bound (Test s (negated n) w g) r h = (tt, args_bound g r h.1)
      suffix_bound (Filter s w g) r h = args_bound g r h
      suffix_bound (Subscript s b) r h = sub_bound b r h

      args_bound : (g : Args) (r : Items) → AreArgs l g → AreArgs l (args_at at g r)
      args_bound no_args r h = tt
      args_bound (args s row) r h = (row_bound of_arguments row r h.0, distinct_same of_arguments row r h.1)

      operator_bound : (o : Operator) (r : Items) → IsOperator l o → IsOperator l (operator_at at o r)
      operator_bound (Binary o) r h = tt
      operator_bound (Condition s c t) r h = bound_same c _ h
