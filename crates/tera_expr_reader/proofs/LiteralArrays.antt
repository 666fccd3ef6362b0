-- Arrays of constants, as they are read.
use Rattle.std.proofs.Common.{◌≡◌, ◌⊎◌, inl, inr, Bool, false, Option, Some, None, refl, sym, ap, subst, ◌∙◌}
use Rattle.std.proofs.lemmas.Option.{none-some, same_Some}
use Rattle.tera_base.specs.Values as values
use Rattle.tera_base.specs.Values.{Val, Vals}
use Rattle.tera_base.specs.declared.utils.Span.{Span}
use Rattle.tera_base.specs.declared.errors.Error.{Error}
use Rattle.tera_lexer.specs.grammar.Tokens.{Items}
use Rattle.tera_ast.specs.Tree as tree
use Rattle.tera_grammar.specs.Limits.{Limits}
use Rattle.tera_grammar.specs.expressions.Companions.{Opened}
use Rattle.tera_grammar.specs.expressions.Concrete.{Name, Second, Extra, Tree, Atomic, Array, Row, ended, of_items, Element, plain, spread, pair, argument}
use Rattle.tera_grammar.specs.expressions.Operators.{In}
use Rattle.tera_grammar.specs.expressions.Marks.{LeftBracket, RightBracket, If, For, Operation}
use Rattle.tera_grammar.specs.expressions.Output.{array_made, constant_items, items_output, output}
use Rattle.tera_grammar.specs.Reads.{found, stopped, ◌>>=◌, given, Takes, Fails}
use Rattle.tera_grammar.specs.expressions.Reading.Front.{Place, at, Reads, takes, skip}
use Rattle.tera_grammar.specs.expressions.Reading.Rooms.{Room, inside_array}
use Rattle.tera_grammar.specs.expressions.Reading.Bracketed.{Reader, element_of, after_element, row_of, extra_of}
use Rattle.tera_grammar.specs.expressions.Reading.Atoms.{variables_of, comprehension_of, items_from, for_at, array_from, array_at, array_of}
use Rattle.tera_grammar.specs.expressions.Reading.Whole.{widest, outermost, left_over, valued, row_if_array, array_if_constant, array_after, literal_array_of}
use Rattle.tera_expr_parts.specs.Folding.{constant_of}
use Rattle.tera_expr_reader.proofs.ComprehensionsLemmas.{after_end, after_condition, after_target, after_in, after_variables, by_variables}
use Rattle.tera_expr_reader.proofs.LiteralMaps.{opened}
use Rattle.tera_expr_reader.proofs.RowsLemmas.{fails_by}

-- what an array is read as: an array with its span, or what has no value and no row
abbrev Shape : Span → Tree → Type 0
Shape s t = ((r : Row) × (t ≡ Atomic (Array s r))) ⊎ (((l : Bool) → constant_of (output l t) ≡ None) × (row_if_array t ≡ None))

abbrev Shapes : Span → Reads Tree → Type 0
Shapes s (stopped z) = Unit {0}
Shapes s (found x) = Shape s x.0

-- a comprehension
abbrev IsNone : Reads Tree → Type 0
IsNone (stopped z) = Unit {0}
IsNone (found x) = ((l : Bool) → constant_of (output l x.0) ≡ None) × (row_if_array x.0 ≡ None)

module _ (f : Reader) (w : Room) (b : Span) (e : Tree) (s : Span) where
  end_is : (v : Name × Second) (i : Span) (t : Tree) (g : Extra) (o : Reads Span) → IsNone (after_end f w b e s v i t g o)
  end_is v i t g (stopped z) = tt
  end_is v i t g (found c) = (λ l. refl, refl)

  condition_is : (v : Name × Second) (i : Span) (t : Tree) (o : Reads Extra) → IsNone (after_condition f w b e s v i t o)
  condition_is v i t (stopped z) = tt
  condition_is v i t (found g) = end_is v i t g.0 (skip RightBracket g.1)

  target_is : (v : Name × Second) (i : Span) (o : Reads Tree) → IsNone (after_target f w b e s v i o)
  target_is v i (stopped z) = tt
  target_is v i (found t) = condition_is v i t.0 (extra_of f w If 1 t.1)

  in_is : (v : Name × Second) (o : Reads Span) → IsNone (after_in f w b e s v o)
  in_is v (stopped z) = tt
  in_is v (found i) = target_is v i.0 (f w 1 i.1)

  variables_are : (o : Reads (Name × Second)) → IsNone (after_variables f w b e s o)
  variables_are (stopped z) = tt
  variables_are (found v) = in_is v.0 (skip (Operation In) v.1)

  comprehends : (p : Place) → IsNone (comprehension_of f w b e s p)
  comprehends p = subst IsNone (sym (by_variables f w b e s p (variables_of p) refl)) (variables_are (variables_of p))

module _ (f : Reader) (w : Room) (s : Span) where
  none_shapes : (o : Reads Tree) → IsNone o → Shapes s o
  none_shapes (stopped z) h = tt
  none_shapes (found x) h = inr h

  row_shapes : (o : Reads Row) → Shapes s (o >>= λ r. found (Atomic (Array s r.0), r.1))
  row_shapes (stopped z) = tt
  row_shapes (found r) = inl (r.0, refl)

  items_shape : (u : Room) (x : Element) (q : Place) → Shapes s (items_from f u s x q)
  unfolding items_from
  items_shape u x q = row_shapes (after_element (row_of f u of_items) of_items x q)

  for_shape : (u : Room) (e : Tree) (q : Place) (o : Reads Span) → Shapes s (for_at f w u s e q o)
  for_shape u e q (stopped z) = items_shape u (plain e) q
  for_shape u e q (found y) = none_shapes (comprehension_of f w s e y.0 y.1) (comprehends f w s e y.0 y.1)

  from_shape : (u : Room) (x : Element) (q : Place) → Shapes s (array_from f w u s x q)
  from_shape u (plain e) q = for_shape u e q (skip For q)
  from_shape u (spread c e) q = items_shape u (spread c e) q
  from_shape u (pair a b c e) q = items_shape u (pair a b c e) q
  from_shape u (argument a b e) q = items_shape u (argument a b e) q

  element_shape : (u : Room) (o : Reads Element) → Shapes s (o >>= λ x. array_from f w u s x.0 x.1)
  element_shape u (stopped z) = tt
  element_shape u (found x) = from_shape u x.0 x.1

  end_shape : (u : Room) (p : Place) (o : Reads Span) → Shapes s (array_at f w u s p o)
  end_shape u p (stopped z) = element_shape u (element_of f u of_items p)
  end_shape u p (found x) = inl (ended x.0, refl)

  room_shape : (p : Place) (o : Option Room) → Shapes s (given p.tokens o >>= λ u. array_at f w u s p (skip RightBracket p))
  room_shape p None = tt
  room_shape p (Some u) = end_shape u p (skip RightBracket p)

  array_shape : (p : Place) → Shapes s (array_of f w s p)
  unfolding array_of
  array_shape p = room_shape p (inside_array w)

-- the value that an array is, if it is one
constant_array : (is : tree.Items) (span : Span) (o : Option Vals) (v : Val) → Some v ≡ constant_of (array_made is span o) → (vs : Vals) × (o ≡ Some vs) × (v ≡ values.Array vs)
constant_array is span None v h = cc
constant_array is span (Some vs) v h = (vs, refl, same_Some v (values.Array vs) h)

no_constant_array : (is : tree.Items) (span : Span) (o : Option Vals) → None ≡ constant_of (array_made is span o) → o ≡ None
no_constant_array is span None h = refl
no_constant_array is span (Some vs) h = cc

module _ (limits : Limits) where
  abbrev constant_at : Span → Place → Option Row → Takes (Opened × Vals)
  constant_at s q o = left_over (given q.tokens (array_if_constant s o) >>= λ a. found (a, q))

  abbrev constant_from : Span → Reads Tree → Takes (Opened × Vals)
  constant_from s o = left_over (o >>= λ e. given e.1.tokens (array_if_constant s (row_if_array e.0)) >>= λ a. found (a, e.1))

  abbrev array_valued : Span → Row → Place → Option Vals → Takes (Opened × Vals)
  array_valued s r q o = left_over (given q.tokens (valued (opened s r) o) >>= λ a. found (a, q))

  pub no_bracket : (old left : Items) (e : Error) → Fails (takes LeftBracket old) left e → Fails (literal_array_of limits old) left e
  unfolding literal_array_of
  no_bracket old left e h = fails_by (literal_array_of limits old) (takes LeftBracket old) left e (λ z none. ap (λ o. o >>= λ s. array_after limits s.0 s.1) none) h

  module _ (old mid : Items) (s : Span) (h : takes LeftBracket old ≡ found (s, mid)) where
    after_bracket : (o : Reads Tree) → array_of (outermost limits) (widest limits false) s (at 0 mid) ≡ o → literal_array_of limits old ≡ constant_from s o
    unfolding literal_array_of array_after
    after_bracket o read = ap (λ o. o >>= λ s. array_after limits s.0 s.1) h ∙ ap (constant_from s) read

    pub array_fails : (first : Span) (left : Items) (e : Error) → first ≡ s → Fails (array_of (outermost limits) (widest limits false) first (at 0 mid)) left e
        → Fails (literal_array_of limits old) left e
    array_fails first left e same fails =
        fails_by (literal_array_of limits old) (array_of (outermost limits) (widest limits false) s (at 0 mid)) left e (λ z none. after_bracket (stopped z) none)
        (subst (λ r. Fails (array_of (outermost limits) (widest limits false) r (at 0 mid)) left e) same fails)

    module _ (t : Tree) (q : Place) (read : array_of (outermost limits) (widest limits false) s (at 0 mid) ≡ found (t, q)) where
      shape : Shape s t
      shape = subst (Shapes s) read (array_shape (outermost limits) (widest limits false) s (at 0 mid))

      pub array_comes : (v : Val) → Some v ≡ constant_of (output false t) → (x : Opened × Vals) × (literal_array_of limits old ≡ found (x, q.tokens)) × (v ≡ values.Array x.1)
      array_comes v is = by shape
        where
          by : Shape s t → (x : Opened × Vals) × (literal_array_of limits old ≡ found (x, q.tokens)) × (v ≡ values.Array x.1)
          by (inl (r, made)) =
              let whole = is ∙ ap (λ u. constant_of (output false u)) made in
              let (vs, value, same) = constant_array (items_output false r) _ (constant_items (items_output false r)) v whole in
              ((opened s r, vs), after_bracket (found (t, q)) read ∙ ap (λ u. constant_at s q (row_if_array u)) made ∙ ap (array_valued s r q) value, same)
          by (inr (none, row)) = absurd (none-some _ (sym (is ∙ none false)))

      pub no_array_comes : None ≡ constant_of (output false t) → literal_array_of limits old ≡ stopped q.tokens
      no_array_comes is = by shape
        where
          by : Shape s t → literal_array_of limits old ≡ stopped q.tokens
          by (inl (r, made)) =
              let whole = is ∙ ap (λ u. constant_of (output false u)) made in
              after_bracket (found (t, q)) read ∙ ap (λ u. constant_at s q (row_if_array u)) made
              ∙ ap (array_valued s r q) (no_constant_array (items_output false r) _ (constant_items (items_output false r)) whole)
          by (inr (none, row)) = after_bracket (found (t, q)) read ∙ ap (constant_at s q) row
