-- Arguments are a row whose names are distinct: that a name comes again is seen at it, and the row as a whole is none.
use Rattle.std.proofs.Common.{◌≡◌, ℕ, zero, suc, Bool, true, false, cond, List, [], ◌∷◌, ◌++◌, append-nil, append_assoc, Some, None, refl, sym, ap, ◌∙◌}
use Rattle.tera_base.specs.declared.utils.Span.{Span}
use Rattle.tera_lexer.specs.code.Cursors.{size}
use Rattle.tera_lexer.specs.grammar.Words.{is_one_of}
use Rattle.tera_grammar.specs.Words.{are_distinct}
use Rattle.tera_grammar.specs.expressions.Marks.{RightParen, Comma, Assign}
use Rattle.tera_grammar.specs.expressions.Concrete.{Name, Tree, Row, of_arguments, only, then, argument, Element}
use Rattle.tera_grammar.specs.expressions.Conditions.{argument_names}
use Rattle.tera_grammar.specs.Options.{◌>>=◌}
use Rattle.tera_grammar.specs.expressions.Reading.Front.{Place}
use Rattle.tera_grammar.proofs.plain.expressions.Reading.Front.{Reads, skip, name_of}
use Rattle.tera_grammar.specs.expressions.Reading.Rooms.{Room}
use Rattle.tera_grammar.proofs.plain.expressions.Reading.Bracketed.{Reader, argument_at, element_of, comma_at, after_element, row_at, row_by, row_of, arguments_at, arguments_by, arguments_of}
use Rattle.tera_grammar.proofs.expressions.Repeated.{twice, once}

-- a row whose names are distinct, and none is among those before
abbrev distinct_row : List (List ℕ) → Reads Row → Reads Row
distinct_row names o = o >>= λ r. cond (are_distinct (names ++ argument_names r.0)) (Some r) None

-- what is made of a row, of an end, of a value, after `=`, and of an argument
abbrev shaped : (Row → Row) → Reads Row → Reads Row
shaped make o = o >>= λ r. Some (make r.0, r.1)

abbrev closed_by : Element → Reads Span → Reads Row
closed_by x o = o >>= λ c. Some (only x c.0, c.1)

abbrev valued : Name → Span → Reads Tree → Reads Element
valued n s o = o >>= λ e. Some (argument n s e.0, e.1)

abbrev assigned : Reader → Room → Name → Reads Span → Reads Element
assigned f w n o = o >>= λ s. valued n s.0 (f w 0 s.1)

unfoldable followed : (Place → Reads Row) → Reads Element → Reads Row
followed rows o = o >>= λ x. after_element rows of_arguments x.0 x.1

kept_then : (b : Bool) (r : Row × Place) (make : Row → Row) → shaped make (cond b (Some r) None) ≡ cond b (Some (make r.0, r.1)) None
kept_then true r make = refl
kept_then false r make = refl

module _ (names : List (List ℕ)) (n : Name) (rows : Place → Reads Row) where
  -- what comes after an argument whose name comes again
  again_at : is_one_of names n.text ≡ true → (s : Span) (e : Tree) (p : Place) (o : Reads Span) → distinct_row names (comma_at rows of_arguments (argument n s e) p o) ≡ None
  again_at h s e p None = by (skip RightParen p)
    where
      by : (o : Reads Span) → distinct_row names (closed_by (argument n s e) o) ≡ None
      by None = refl
      by (Some c) = rw (twice names [] n.text h) refl
  again_at h s e p (Some y) = by (rows y.1)
    where
      by : (o : Reads Row) → distinct_row names (shaped (then (argument n s e) y.0) o) ≡ None
      by None = refl
      by (Some r) = rw (twice names (argument_names r.0) n.text h) refl

  again : is_one_of names n.text ≡ true → (f : Reader) (w : Room) (p : Place) → distinct_row names (followed rows (argument_at f w n p)) ≡ None
  unfolding after_element followed
  again h f w p = by (skip Assign p)
    where
      at_value : (s : Span) (o : Reads Tree) → distinct_row names (followed rows (valued n s o)) ≡ None
      at_value s None = refl
      at_value s (Some e) = again_at h s e.0 e.1 (skip Comma e.1)

      by : (o : Reads Span) → distinct_row names (followed rows (assigned f w n o)) ≡ None
      by None = refl
      by (Some s) = at_value s.0 (f w 0 s.1)

  module _ (more : Place → Reads Row) (same : (p : Place) → more p ≡ distinct_row (names ++ n.text ∷ []) (rows p)) (distinct : are_distinct (names ++ n.text ∷ []) ≡ true) where
    -- what comes after one whose name is new
    new_at : (s : Span) (e : Tree) (p : Place) (o : Reads Span)
        → comma_at more of_arguments (argument n s e) p o ≡ distinct_row names (comma_at rows of_arguments (argument n s e) p o)
    new_at s e p None = by (skip RightParen p)
      where
        by : (o : Reads Span) → closed_by (argument n s e) o ≡ distinct_row names (closed_by (argument n s e) o)
        by None = refl
        by (Some c) = rw distinct refl
    new_at s e p (Some y) = ap (shaped (then (argument n s e) y.0)) (same y.1) ∙ by (rows y.1)
      where
        by : (o : Reads Row) → shaped (then (argument n s e) y.0) (distinct_row (names ++ n.text ∷ []) o) ≡ distinct_row names (shaped (then (argument n s e) y.0) o)
        by None = refl
        by (Some r) =
            ap (λ ns. shaped (then (argument n s e) y.0) (cond (are_distinct ns) (Some r) None)) (append_assoc names (n.text ∷ []) (argument_names r.0))
            ∙ kept_then (are_distinct (names ++ n.text ∷ argument_names r.0)) r (then (argument n s e) y.0)

    new : (f : Reader) (w : Room) (p : Place) → followed more (argument_at f w n p) ≡ distinct_row names (followed rows (argument_at f w n p))
    unfolding after_element followed
    new f w p = by (skip Assign p)
      where
        at_value : (s : Span) (o : Reads Tree) → followed more (valued n s o) ≡ distinct_row names (followed rows (valued n s o))
        at_value s None = refl
        at_value s (Some e) = new_at s e.0 e.1 (skip Comma e.1)

        by : (o : Reads Span) → followed more (assigned f w n o) ≡ distinct_row names (followed rows (assigned f w n o))
        by None = refl
        by (Some s) = at_value s.0 (f w 0 s.1)

-- one turn
module _ (f : Reader) (w : Room) (names : List (List ℕ)) (distinct : are_distinct names ≡ true) (more : List (List ℕ) → Place → Reads Row) (rows : Place → Reads Row)
    (same : (ns : List (List ℕ)) → are_distinct ns ≡ true → (p : Place) → more ns p ≡ distinct_row ns (rows p)) where
  named : (n : Name) (p : Place) (b : Bool) → is_one_of names n.text ≡ b
      → cond b None (followed (more (names ++ n.text ∷ [])) (argument_at f w n p)) ≡ distinct_row names (followed rows (argument_at f w n p))
  named n p true is = sym (again names n rows is f w p)
  named n p false is =
      let all : are_distinct (names ++ n.text ∷ []) ≡ true = once names n.text distinct is in
      new names n rows (more (names ++ n.text ∷ [])) (same (names ++ n.text ∷ []) all) all f w p

  turn : (p : Place) (o : Reads Span) → arguments_at more f w names p o ≡ distinct_row names (row_at rows f w of_arguments p o)
  unfolding element_of followed
  turn p (Some x) = let all : are_distinct (names ++ []) ≡ true = ap are_distinct (append-nil names) ∙ distinct in rw all refl
  turn p None = by (name_of p)
    where
      by : (o : Reads Name) → (o >>= λ n. cond (is_one_of names n.0.text) None (followed (more (names ++ n.0.text ∷ [])) (argument_at f w n.0 n.1)))
          ≡ distinct_row names (followed rows (o >>= λ n. argument_at f w n.0 n.1))
      by None = refl
      by (Some n) = named n.0 n.1 (is_one_of names n.0.text) refl

arguments_by_are : (n : ℕ) (f : Reader) (w : Room) (names : List (List ℕ)) → are_distinct names ≡ true → (p : Place)
    → arguments_by n f w names p ≡ distinct_row names (row_by n f w of_arguments p)
unfolding arguments_by row_by
arguments_by_are zero f w names distinct p = refl
arguments_by_are (suc n) f w names distinct p =
    turn f w names distinct (arguments_by n f w) (row_by n f w of_arguments) (arguments_by_are n f w) p (skip RightParen p)

pub arguments_are : (f : Reader) (w : Room) (p : Place) → arguments_of f w p ≡ (row_of f w of_arguments p >>= λ r. cond (are_distinct (argument_names r.0)) (Some r) None)
unfolding arguments_of row_of
arguments_are f w p = arguments_by_are (suc (size p.tokens)) f w [] refl p
