-- Items of an array that are read one after another.
use Rattle.std.proofs.Common.{◌≡◌, ℕ, Bool, List, [], ◌∷◌, ◌++◌, map, Ok, Err, refl, sym, ap, ap₂, subst, ◌∙◌}
use Rattle.tera_base.specs.declared.utils.Span.{Span}
use Rattle.tera_base.specs.declared.errors.Error.{Error}
use Rattle.tera_lexer.specs.code.Cursors.{Position}
use Rattle.tera_lexer.specs.grammar.Tokens.{Items as Left}
use Rattle.tera_ast.specs.Tree as tree
use Rattle.tera_ast.specs.Tree.{Expr, Items, NoItems}
use Rattle.tera_ast.specs.View.{item_view, items_of, items_view}
use Rattle.tera_ast.specs.declared.ast.ArrayEntryOf.{ArrayEntryOf}
use Rattle.tera_ast.specs.declared.ast.ArrayEntryOf.TheVariants.{Item, Spread}
use Rattle.tera_ast.specs.declared.ast.Expression.{Expression}
use Rattle.tera_grammar.specs.expressions.Marks as marks
use Rattle.tera_grammar.specs.expressions.Concrete.{Tree, Atomic, Array, of_items, Row, ended, only, then, Element, plain, spread, pair, argument}
use Rattle.tera_grammar.specs.expressions.Output.{array_of, items_output, item_output, output}
use Rattle.tera_grammar.specs.expressions.Spans.{spanning, row_end}
use Rattle.tera_grammar.specs.Reads.{found, stopped, ◌>>=◌, Fails}
use Rattle.tera_grammar.specs.expressions.Reading.Front.{Place, at, Reads, takes}
use Rattle.tera_grammar.specs.expressions.Reading.Rooms.{Room}
use Rattle.tera_grammar.specs.expressions.Reading.Bracketed.{Reader, item_at, element_of, after_element, row_of}
use Rattle.tera_grammar.specs.expressions.Reading.Atoms.{items_from}
use Rattle.tera_grammar.proofs.stops.Fronts.{none_skip, skip_taken}
use Rattle.tera_expr_reader.specs.Elements.{IsItem}
use Rattle.tera_expr_parts.specs.declared.rows.Values.{Values}
use Rattle.tera_expr_parts.specs.CommaLists.{Continues, reader_of}
use Rattle.tera_expr_reader.proofs.RowsLemmas.{Opening, Rowing, bind_some, element_read, element_fails, following, after_fails, fails_by}

-- an item in front of others
abbrev pub onto_item : ArrayEntryOf Expr → Items → Items
onto_item (Item e) is = tree.Item e is
onto_item (Spread e) is = tree.SpreadItem e is

abbrev pub onto_items : List (ArrayEntryOf Expression) → Items → Items
onto_items [] is = is
onto_items (e ∷ es) is = onto_item (item_view e) (onto_items es is)

onto_last : (es : List (ArrayEntryOf Expression)) (e : ArrayEntryOf Expression) (is : Items) → onto_items (es ++ e ∷ []) is ≡ onto_items es (onto_item (item_view e) is)
onto_last [] e is = refl
onto_last (x ∷ es) e is = ap (onto_item (item_view x)) (onto_last es e is)

step : (e : ArrayEntryOf Expression) (is : List (ArrayEntryOf Expr)) → items_of (item_view e ∷ is) ≡ onto_item (item_view e) (items_of is)
step (Item e) is = refl
step (Spread e) is = refl

onto_none : (es : List (ArrayEntryOf Expression)) → items_view es ≡ onto_items es NoItems
onto_none [] = refl
onto_none (e ∷ es) = step e (map item_view es) ∙ ap (onto_item (item_view e)) (onto_none es)

item_is : (l : Bool) (e : ArrayEntryOf Expression) (x : Element) (is : Items) → IsItem l e x → item_output l x is ≡ onto_item (item_view e) is
item_is l (Item e) (plain t) is h = ap (λ o. tree.Item o is) (sym h)
item_is l (Spread e) (spread s t) is h = ap (λ o. tree.SpreadItem o is) (sym h)
item_is l (Item e) (spread s t) is h = absurd h
item_is l (Item e) (pair a b c t) is h = absurd h
item_is l (Item e) (argument a b t) is h = absurd h
item_is l (Spread e) (plain t) is h = absurd h
item_is l (Spread e) (pair a b c t) is h = absurd h
item_is l (Spread e) (argument a b t) is h = absurd h

-- the items so far, and a row that begins with them; and the items of a row
pub record Listing (l : Bool) (done : List (ArrayEntryOf Expression)) (put : Row → Row) : Type 0 where
  pub shows : (r : Row) → items_output l (put r) ≡ onto_items done (items_output l r)
  pub ends : (r : Row) → row_end (put r) ≡ row_end r

pub record Listed (l : Bool) (done : List (ArrayEntryOf Expression)) (here : Span) (r : Row) : Type 0 where
  pub shows : items_view done ≡ items_output l r
  pub ends : here ≡ row_end r

pub no_items : (l : Bool) → Listing l [] (λ r. r)
no_items l = record { shows = λ r. refl; ends = λ r. refl }

module _ (l : Bool) (done : List (ArrayEntryOf Expression)) (put : Row → Row) (a : Listing l done put) (e : ArrayEntryOf Expression) (x : Element) (is : IsItem l e x) where
  pub one_more : (c : Span) → Listing l (done ++ e ∷ []) (λ r. put (then x c r))
  one_more c = record {
    shows = λ r. a.shows (then x c r) ∙ ap (onto_items done) (item_is l e x (items_output l r) is) ∙ sym (onto_last done e (items_output l r));
    ends = λ r. a.ends (then x c r);
  }

  pub last_one : (c : Span) → Listed l (done ++ e ∷ []) c (put (only x c))
  last_one c = record {
    shows = sym (a.shows (only x c) ∙ ap (onto_items done) (item_is l e x NoItems is) ∙ sym (onto_last done e NoItems) ∙ sym (onto_none (done ++ e ∷ [])));
    ends = sym (a.ends (only x c));
  }

pub all_of : (l : Bool) (done : List (ArrayEntryOf Expression)) (put : Row → Row) → Listing l done put → (c : Span) → Listed l done c (put (ended c))
all_of l done put a c = record { shows = onto_none done ∙ sym (a.shows (ended c)); ends = sym (a.ends (ended c)) }

-- an item
module _ (f : Reader) (w : Room) (i : ℕ) (r : Left) where
  abbrev spread_made : Span → Reads Tree → Reads Element
  spread_made s o = o >>= λ e. found (spread s e.0, e.1)

  abbrev plain_made : Reads Tree → Reads Element
  plain_made o = o >>= λ e. found (plain e.0, e.1)

  pub spread_read : (s : Span) (us : Left) (o : Reads Tree) → takes marks.Spread r ≡ found (s, us) → f w 0 (at i us) ≡ o → element_of f w of_items (at i r) ≡ spread_made s o
  unfolding element_of
  spread_read s us o h read = ap (item_at f w (at i r)) (skip_taken marks.Spread i r us s h) ∙ ap (spread_made s) read

  pub plain_read : (o : Reads Tree) → takes marks.Spread r ≡ stopped r → f w 0 (at i r) ≡ o → element_of f w of_items (at i r) ≡ plain_made o
  unfolding element_of
  plain_read o h read = ap (item_at f w (at i r)) (none_skip marks.Spread i r r h) ∙ ap plain_made read

-- one turn of the loop, and its end
module _ (l : Bool) (done : List (ArrayEntryOf Expression)) (v : Values) (w : Room) (whole : Reads Row) (i : ℕ) (old : Left) (o : Opening (reader_of v) w of_items whole (at i old) (Listing l done)) where
  pub lacks_item : (left : Left) (e : Error) → Fails (element_of (reader_of v) w of_items (at i old)) left e → Fails whole left e
  lacks_item left e h = fails_by whole (element_of (reader_of v) w of_items (at i old)) left e (element_fails (reader_of v) w of_items whole (at i old) (Listing l done) o) h

  module _ (x : Element) (j : ℕ) (ts : Left) (read : element_of (reader_of v) w of_items (at i old) ≡ found (x, at j ts)) where
    pub lacks_bracket : (new : Position) (e : Error) → Continues marks.RightBracket ts new (Err e) → Fails whole new.left e
    lacks_bracket new e h = after_fails v w of_items whole o.put x j ts new e (element_read (reader_of v) w of_items whole (at i old) (Listing l done) o x (at j ts) read) h

    pub one_item : (new : Position) (b : Bool) → Continues marks.RightBracket ts new (Ok b) → (e : ArrayEntryOf Expression) → IsItem l e x → (with : List (ArrayEntryOf Expression)) → with ≡ done ++ e ∷ []
        → Rowing b (reader_of v) w of_items whole (at j new.left) (Listing l with) (Listed l with new.span)
    one_item new b goes e is with same =
        subst (λ d. Rowing b (reader_of v) w of_items whole (at j new.left) (Listing l d) (Listed l d new.span)) (sym same)
        (following v w of_items whole o.put x j ts new b (Listing l (done ++ e ∷ [])) (Listed l (done ++ e ∷ []) new.span)
        (element_read (reader_of v) w of_items whole (at i old) (Listing l done) o x (at j ts) read) goes
        (λ c. one_more l done o.put o.keeps e x is c) (last_one l done o.put o.keeps e x is new.span)
        (λ c. all_of l (done ++ e ∷ []) (λ r. o.put (then x c r)) (one_more l done o.put o.keeps e x is c) new.span))

-- the first item of an array
module _ (l : Bool) (v : Values) (w : Room) (i : ℕ) (old : Left) (x : Element) where
  abbrev first_whole : Reads Row
  first_whole = after_element (row_of (reader_of v) w of_items) of_items x (at i old)

  pub first_item : (new : Position) (b : Bool) → Continues marks.RightBracket old new (Ok b) → (e : ArrayEntryOf Expression) → IsItem l e x → (with : List (ArrayEntryOf Expression)) → with ≡ e ∷ []
      → Rowing b (reader_of v) w of_items first_whole (at i new.left) (Listing l with) (Listed l with new.span)
  first_item new b goes e is with same =
      subst (λ d. Rowing b (reader_of v) w of_items first_whole (at i new.left) (Listing l d) (Listed l d new.span)) (sym same)
      (following v w of_items first_whole (λ r. r) x i old new b (Listing l (e ∷ [])) (Listed l (e ∷ []) new.span) (sym (bind_some first_whole)) goes
      (λ c. one_more l [] (λ r. r) (no_items l) e x is c) (last_one l [] (λ r. r) (no_items l) e x is new.span)
      (λ c. all_of l (e ∷ []) (λ r. then x c r) (one_more l [] (λ r. r) (no_items l) e x is c) new.span))

  pub first_lacks_end : (new : Position) (e : Error) → Continues marks.RightBracket old new (Err e) → Fails first_whole new.left e
  first_lacks_end new e h = after_fails v w of_items first_whole (λ r. r) x i old new e (sym (bind_some first_whole)) h

-- the array of a row
pub array_read : (f : Reader) (w : Room) (s : Span) (x : Element) (p q : Place) (r : Row) → after_element (row_of f w of_items) of_items x p ≡ found (r, q) → items_from f w s x p ≡ found (Atomic (Array s r), q)
unfolding items_from
array_read f w s x p q r h = ap (λ o. o >>= λ r. found (Atomic (Array s r.0), r.1)) h

pub array_missed : (f : Reader) (w : Room) (s : Span) (x : Element) (p : Place) (left : Left) (e : Error) → Fails (after_element (row_of f w of_items) of_items x p) left e → Fails (items_from f w s x p) left e
unfolding items_from
array_missed f w s x p left e h = fails_by (items_from f w s x p) (after_element (row_of f w of_items) of_items x p) left e (λ z none. ap (λ o. o >>= λ r. found (Atomic (Array s r.0), r.1)) none) h

-- what an array of items that were read comes to
pub array_shown : (l : Bool) (done : List (ArrayEntryOf Expression)) (first here : Span) (r : Row) → Listed l done here r → (span : Span) → span ≡ spanning first here
    → array_of (items_view done) span ≡ output l (Atomic (Array first r))
array_shown l done first here r h span same = ap₂ array_of h.shows (same ∙ ap (spanning first) h.ends)
