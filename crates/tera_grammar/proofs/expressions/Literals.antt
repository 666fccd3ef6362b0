-- An array of constants is read as an array is, and is its row: a comprehension has none.
use Rattle.std.proofs.Common.{◌≡◌, false, Option, Some, None, refl, sym, ap, ◌∙◌}
use Rattle.tera_base.specs.Values as values
use Rattle.tera_base.specs.declared.utils.Span.{Span}
use Rattle.tera_lexer.specs.grammar.Tokens.{Items}
use Rattle.tera_grammar.specs.Limits.{Limits}
use Rattle.tera_grammar.specs.Options.{◌>>=◌}
use Rattle.tera_grammar.specs.expressions.Companions.{Opened, array_value}
use Rattle.tera_grammar.specs.expressions.Concrete.{Name, Second, Extra, Tree, Atomic, Array, Comprehension, Row, of_items, Element, plain, spread, pair, argument}
use Rattle.tera_grammar.specs.expressions.Marks.{LeftBracket, RightBracket, Comma, For, If, Operation}
use Rattle.tera_grammar.specs.expressions.Operators.{In}
use Rattle.tera_grammar.specs.expressions.Reading.Front.{Place, at}
use Rattle.tera_grammar.proofs.plain.expressions.Reading.Front.{Reads, skip}
use Rattle.tera_grammar.specs.expressions.Reading.Rooms.{Room, inside_array}
use Rattle.tera_grammar.proofs.plain.expressions.Reading.Bracketed.{Reader, extra_of, element_of, comma_at, after_element, row_at, row_of}
use Rattle.tera_grammar.proofs.plain.expressions.Reading.Atoms.{variables_of, comprehension_of, items_from, for_at, array_from, array_at, array_of}
use Rattle.tera_grammar.proofs.plain.expressions.Reading.Loop.{expr}
use Rattle.tera_grammar.specs.expressions.Reading.Whole.{widest}
use Rattle.tera_grammar.proofs.plain.expressions.Reading.Whole.{outermost, left_over, with_array, row_if_array, literal_array_of}
use Rattle.tera_grammar.proofs.Options.{bind_both}
use Rattle.tera_grammar.proofs.expressions.Fronts.{skip_ok}
use Rattle.tera_grammar.proofs.expressions.FoundRows.{Sound}
use Rattle.tera_grammar.proofs.expressions.FoundLoop.{expr_sound}
use Rattle.tera_grammar.proofs.expressions.Outermost.{no_toll, Fitting, fresh_sound}
use Rattle.tera_grammar.proofs.expressions.Steps.{row_steps}

-- a row, if there is one, and the rows of what is read
abbrev placed_row : Place → Option Row → Reads Row
placed_row q o = o >>= λ r. Some (r, q)

abbrev rows_of : Reads Tree → Reads Row
rows_of o = o >>= λ e. placed_row e.1 (row_if_array e.0)

nothing : {A : Type 0} (o : Option A) (f : A → Reads Tree) → ((x : A) → rows_of (f x) ≡ None) → rows_of (o >>= f) ≡ None
nothing None f h = refl
nothing (Some x) f h = h x

module _ (f : Reader) (w : Room) (s : Span) where
  -- the parts of a comprehension, each with what comes after it
  abbrev closed : Tree → Span → Name × Second → Span → Tree → Extra → Place → Reads Tree
  closed e y v i t g p = skip RightBracket p >>= λ c. Some (Atomic (Comprehension s e y v.0 v.1 i t g c.0), c.1)

  abbrev conditioned : Tree → Span → Name × Second → Span → Tree → Place → Reads Tree
  conditioned e y v i t p = extra_of f w If 1 p >>= λ g. closed e y v i t g.0 g.1

  abbrev targeted : Tree → Span → Name × Second → Span → Place → Reads Tree
  targeted e y v i p = f w 1 p >>= λ t. conditioned e y v i t.0 t.1

  abbrev named : Tree → Span → Name × Second → Place → Reads Tree
  named e y v p = skip (Operation In) p >>= λ i. targeted e y v i.0 i.1

  comprehends : (e : Tree) (y : Span) (p : Place) → rows_of (comprehension_of f w s e y p) ≡ None
  unfolding comprehension_of
  comprehends e y p =
      nothing (variables_of p) (λ v. named e y v.0 v.1) (λ v.
      nothing (skip (Operation In) v.1) (λ i. targeted e y v.0 i.0 i.1) (λ i.
      nothing (f w 1 i.1) (λ t. conditioned e y v.0 i.0 t.0 t.1) (λ t.
      nothing (extra_of f w If 1 t.1) (λ g. closed e y v.0 i.0 t.0 g.0 g.1) (λ g.
      nothing (skip RightBracket g.1) (λ c. Some (Atomic (Comprehension s e y v.0.0 v.0.1 i.0 t.0 g.0 c.0), c.1)) (λ c. refl)))))

  -- no element ends before `for`
  for_ends : (more : Place → Reads Row) (x : Element) (q : Place) (y : Span × Place) → skip For q ≡ Some y → after_element more of_items x q ≡ None
  unfolding after_element skip
  for_ends more x q y h =
      let is = (skip_ok For q y h).0 in
      ap (λ ts. comma_at more of_items x (at q.links ts) (skip Comma (at q.links ts))) is

  module _ (u : Room) where
    shaped : (o : Reads Row) → rows_of (o >>= λ r. Some (Atomic (Array s r.0), r.1)) ≡ o
    shaped None = refl
    shaped (Some r) = refl

    items_are : (x : Element) (q : Place) → rows_of (items_from f u s x q) ≡ after_element (row_of f u of_items) of_items x q
    unfolding items_from
    items_are x q = shaped (after_element (row_of f u of_items) of_items x q)

    by_for : (e : Tree) (q : Place) (o : Reads Span) → skip For q ≡ o → rows_of (for_at f w u s e q o) ≡ after_element (row_of f u of_items) of_items (plain e) q
    by_for e q None is = items_are (plain e) q
    by_for e q (Some y) is =
        comprehends e y.0 y.1 ∙ sym (for_ends (row_of f u of_items) (plain e) q y is)

    by_kind : (x : Element) (q : Place) → rows_of (array_from f w u s x q) ≡ after_element (row_of f u of_items) of_items x q
    by_kind (plain e) q = by_for e q (skip For q) refl
    by_kind (spread c e) q = items_are (spread c e) q
    by_kind (pair a b c e) q = items_are (pair a b c e) q
    by_kind (argument a b e) q = items_are (argument a b e) q

    by_element : (o : Reads Element) → rows_of (o >>= λ x. array_from f w u s x.0 x.1) ≡ (o >>= λ x. after_element (row_of f u of_items) of_items x.0 x.1)
    by_element None = refl
    by_element (Some x) = by_kind x.0 x.1

    by_end : (p : Place) (o : Reads Span) → rows_of (array_at f w u s p o) ≡ row_at (row_of f u of_items) f u of_items p o
    by_end p None = by_element (element_of f u of_items p)
    by_end p (Some x) = refl

module _ (limits : Limits) (s : Span) where
  sound : Sound no_toll (Fitting limits.bodies limits.depth limits.links) limits.depth (outermost limits)
  sound = fresh_sound limits.bodies limits.depth limits.links (expr limits.depth) (expr_sound limits.depth)

  abbrev rows_in : Place → Option Room → Reads Row
  rows_in p o = o >>= λ v. row_of (outermost limits) v of_items p

  by_room : (w : Room) (p : Place) (o : Option Room) → rows_of (o >>= λ v. array_at (outermost limits) w v s p (skip RightBracket p)) ≡ rows_in p o
  by_room w p None = refl
  by_room w p (Some v) =
      by_end (outermost limits) w s v p (skip RightBracket p)
      ∙ sym (row_steps no_toll (Fitting limits.bodies limits.depth limits.links) limits.depth (outermost limits) sound v of_items p)

  arrays_are : (w : Room) (p : Place) → rows_of (array_of (outermost limits) w s p) ≡ rows_in p (inside_array w)
  unfolding array_of
  arrays_are w p = by_room w p (inside_array w)

  -- what is made of the row
  module _ {A : Type 0} (g : Row → Place → Reads A) where
    of_row : (q : Place) (o : Option Row) → (o >>= λ r. g r q) ≡ (placed_row q o >>= λ r. g r.0 r.1)
    of_row q None = refl
    of_row q (Some r) = refl

    of_tree : (o : Reads Tree) → (o >>= λ e. row_if_array e.0 >>= λ r. g r e.1) ≡ (rows_of o >>= λ r. g r.0 r.1)
    of_tree None = refl
    of_tree (Some e) = of_row e.1 (row_if_array e.0)

    in_room : (p : Place) (o : Option Room) → (rows_in p o >>= λ r. g r.0 r.1) ≡ (o >>= λ v. row_of (outermost limits) v of_items p >>= λ r. g r.0 r.1)
    in_room p None = refl
    in_room p (Some v) = refl

    after_bracket : (w : Room) (p : Place) → (array_of (outermost limits) w s p >>= λ e. row_if_array e.0 >>= λ r. g r e.1)
        ≡ (inside_array w >>= λ v. row_of (outermost limits) v of_items p >>= λ r. g r.0 r.1)
    after_bracket w p = of_tree (array_of (outermost limits) w s p) ∙ ap (λ o. o >>= λ r. g r.0 r.1) (arrays_are w p) ∙ in_room p (inside_array w)

-- an array of constants by its row
abbrev pub row_array : Limits → Items → Reads (Opened × values.Vals)
row_array limits items =
    skip LeftBracket (at 0 items) >>= λ s. inside_array (widest limits false) >>= λ v. row_of (outermost limits) v of_items s.1 >>= λ r.
    with_array (record { mark = s.0; row = r.0 }) r.1 (array_value (record { mark = s.0; row = r.0 }))

pub literal_arrays_are : (limits : Limits) (items : Items) → literal_array_of limits items ≡ left_over (row_array limits items)
unfolding literal_array_of
literal_arrays_are limits items =
    ap left_over (bind_both (skip LeftBracket (at 0 items)) _ _ (λ s begun.
    after_bracket limits s.0 (λ r q. with_array (record { mark = s.0; row = r }) q (array_value (record { mark = s.0; row = r }))) (widest limits false) s.1))
