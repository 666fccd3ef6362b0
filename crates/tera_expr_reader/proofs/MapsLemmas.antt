-- Entries of a map that are read one after another.
use Rattle.std.proofs.Common.{◌≡◌, ℕ, Bool, List, [], ◌∷◌, ◌++◌, map, inl, Result, Ok, Err, refl, sym, ap, ap₂, subst, ◌∙◌}
use Rattle.std.specs.Prelude.{IfOk, IfErr}
use Rattle.tera_base.specs.Errors.{IsMemory}
use Rattle.tera_base.specs.ValueView.{key_view}
use Rattle.tera_base.specs.declared.utils.Span.{Span}
use Rattle.tera_base.specs.declared.errors.Error.{Error}
use Rattle.tera_lexer.specs.code.Cursors.{Position}
use Rattle.tera_lexer.specs.grammar.Tokens.{Items as Left}
use Rattle.tera_ast.specs.Tree as tree
use Rattle.tera_ast.specs.Tree.{Expr, Entries, NoEntries}
use Rattle.tera_ast.specs.View.{expression_view, entry_view, entries_of, entries_view}
use Rattle.tera_ast.specs.declared.ast.MapEntryOf.{MapEntryOf}
use Rattle.tera_ast.specs.declared.ast.MapEntryOf.TheVariants.{KeyValue, Spread}
use Rattle.tera_ast.specs.declared.ast.Expression.{Expression}
use Rattle.tera_grammar.specs.expressions.Marks as marks
use Rattle.tera_grammar.specs.expressions.Marks.{Colon}
use Rattle.tera_grammar.specs.expressions.Concrete.{Lit, Tree, Atomic, Map, of_entries, Row, ended, only, then, Element, plain, spread, pair, argument}
use Rattle.tera_grammar.specs.expressions.Output.{map_of, entries_output, entry_output, output}
use Rattle.tera_grammar.specs.expressions.Spans.{spanning, row_end}
use Rattle.tera_grammar.specs.Reads.{found, stopped, ◌>>=◌, Fails}
use Rattle.tera_grammar.specs.expressions.Reading.Front.{Place, at, Reads, takes, moved, skip, literal_at}
use Rattle.tera_grammar.specs.expressions.Reading.Rooms.{Room}
use Rattle.tera_grammar.specs.expressions.Reading.Bracketed.{Reader, entry_at, element_of, row_of}
use Rattle.tera_grammar.specs.expressions.Reading.Atoms as atoms
use Rattle.tera_grammar.specs.expressions.Stack.{HeadGives}
use Rattle.tera_grammar.proofs.stops.Fronts.{none_skip, skip_taken}
use Rattle.tera_expr_reader.specs.Elements.{IsEntry}
use Rattle.tera_expr_parts.specs.Keys.{taken_literal}
use Rattle.tera_expr_parts.specs.declared.rows.Values.{Values}
use Rattle.tera_expr_parts.specs.CommaLists.{Continues, reader_of}
use Rattle.tera_expr_reader.proofs.RowsLemmas.{Opening, Rowing, element_read, element_fails, following, after_fails, fails_by}

-- an entry in front of others
abbrev pub onto_entry : MapEntryOf Expr → Entries → Entries
onto_entry (KeyValue k e) es = tree.Entry (key_view k) e es
onto_entry (Spread e) es = tree.SpreadEntry e es

abbrev pub onto_entries : List (MapEntryOf Expression) → Entries → Entries
onto_entries [] more = more
onto_entries (e ∷ es) more = onto_entry (entry_view e) (onto_entries es more)

onto_last : (es : List (MapEntryOf Expression)) (e : MapEntryOf Expression) (more : Entries) → onto_entries (es ++ e ∷ []) more ≡ onto_entries es (onto_entry (entry_view e) more)
onto_last [] e more = refl
onto_last (x ∷ es) e more = ap (onto_entry (entry_view x)) (onto_last es e more)

step : (e : MapEntryOf Expression) (es : List (MapEntryOf Expr)) → entries_of (entry_view e ∷ es) ≡ onto_entry (entry_view e) (entries_of es)
step (KeyValue k e) es = refl
step (Spread e) es = refl

onto_none : (es : List (MapEntryOf Expression)) → entries_view es ≡ onto_entries es NoEntries
onto_none [] = refl
onto_none (e ∷ es) = step e (map entry_view es) ∙ ap (onto_entry (entry_view e)) (onto_none es)

entry_is : (l : Bool) (e : MapEntryOf Expression) (x : Element) (more : Entries) → IsEntry l e x → entry_output l x more ≡ onto_entry (entry_view e) more
entry_is l (KeyValue k e) (pair x s t u) more (key, shown) = sym (ap₂ (λ m o. tree.Entry m o more) key shown)
entry_is l (Spread e) (spread s t) more h = ap (λ o. tree.SpreadEntry o more) (sym h)
entry_is l (KeyValue k e) (plain t) more h = absurd h
entry_is l (KeyValue k e) (spread s t) more h = absurd h
entry_is l (KeyValue k e) (argument a b t) more h = absurd h
entry_is l (Spread e) (plain t) more h = absurd h
entry_is l (Spread e) (pair a b c t) more h = absurd h
entry_is l (Spread e) (argument a b t) more h = absurd h

-- the entries so far, and a row that begins with them; and the entries of a row
pub record Pairing (l : Bool) (done : List (MapEntryOf Expression)) (put : Row → Row) : Type 0 where
  pub shows : (r : Row) → entries_output l (put r) ≡ onto_entries done (entries_output l r)
  pub ends : (r : Row) → row_end (put r) ≡ row_end r

pub record Paired (l : Bool) (done : List (MapEntryOf Expression)) (here : Span) (r : Row) : Type 0 where
  pub shows : entries_view done ≡ entries_output l r
  pub ends : here ≡ row_end r

pub no_entries : (l : Bool) → Pairing l [] (λ r. r)
no_entries l = record { shows = λ r. refl; ends = λ r. refl }

pub none_at_all : (l : Bool) (s : Span) → Paired l [] s (ended s)
none_at_all l s = record { shows = refl; ends = refl }

module _ (l : Bool) (done : List (MapEntryOf Expression)) (put : Row → Row) (a : Pairing l done put) (e : MapEntryOf Expression) (x : Element) (is : IsEntry l e x) where
  one_more : (c : Span) → Pairing l (done ++ e ∷ []) (λ r. put (then x c r))
  one_more c = record {
    shows = λ r. a.shows (then x c r) ∙ ap (onto_entries done) (entry_is l e x (entries_output l r) is) ∙ sym (onto_last done e (entries_output l r));
    ends = λ r. a.ends (then x c r);
  }

  last_one : (c : Span) → Paired l (done ++ e ∷ []) c (put (only x c))
  last_one c = record {
    shows = sym (a.shows (only x c) ∙ ap (onto_entries done) (entry_is l e x NoEntries is) ∙ sym (onto_last done e NoEntries) ∙ sym (onto_none (done ++ e ∷ [])));
    ends = sym (a.ends (only x c));
  }

all_of : (l : Bool) (done : List (MapEntryOf Expression)) (put : Row → Row) → Pairing l done put → (c : Span) → Paired l done c (put (ended c))
all_of l done put a c = record { shows = onto_none done ∙ sym (a.shows (ended c)); ends = sym (a.ends (ended c)) }

-- an entry
module _ (f : Reader) (w : Room) (i : ℕ) (r : Left) where
  abbrev spread_made : Span → Reads Tree → Reads Element
  spread_made s o = o >>= λ e. found (spread s e.0, e.1)

  pub spread_read : (s : Span) (us : Left) (o : Reads Tree) → takes marks.Spread r ≡ found (s, us) → f w 0 (at i us) ≡ o → element_of f w of_entries (at i r) ≡ spread_made s o
  unfolding element_of
  spread_read s us o h read = ap (entry_at f w (at i r)) (skip_taken marks.Spread i r us s h) ∙ ap (spread_made s) read

  module _ (mark : takes marks.Spread r ≡ stopped r) where
    abbrev keyed : Reads (Lit × Span) → Reads Element
    keyed o = o >>= λ l. skip Colon l.1 >>= λ s. f w 0 s.1 >>= λ e. found (pair l.0.0 l.0.1 s.0 e.0, e.1)

    by_key : element_of f w of_entries (at i r) ≡ keyed (moved i (taken_literal r))
    unfolding element_of literal_at
    by_key = ap (entry_at f w (at i r)) (none_skip marks.Spread i r r mark)

    pub no_key : (z : Left) → taken_literal r ≡ stopped z → element_of f w of_entries (at i r) ≡ stopped z
    no_key z h = by_key ∙ ap (λ o. keyed (moved i o)) h

    module _ (x : Lit × Span) (us : Left) (key : taken_literal r ≡ found (x, us)) where
      abbrev parted : Reads Span → Reads Element
      parted o = o >>= λ s. f w 0 s.1 >>= λ e. found (pair x.0 x.1 s.0 e.0, e.1)

      abbrev valued : Span → Reads Tree → Reads Element
      valued s o = o >>= λ e. found (pair x.0 x.1 s e.0, e.1)

      after_key : element_of f w of_entries (at i r) ≡ parted (skip Colon (at i us))
      after_key = by_key ∙ ap (λ o. keyed (moved i o)) key

      pub no_colon : (z : Left) → takes Colon us ≡ stopped z → element_of f w of_entries (at i r) ≡ stopped z
      no_colon z h = after_key ∙ ap parted (none_skip Colon i us z h)

      pub pair_read : (s : Span) (vs : Left) (o : Reads Tree) → takes Colon us ≡ found (s, vs) → f w 0 (at i vs) ≡ o → element_of f w of_entries (at i r) ≡ valued s o
      pair_read s vs o colon read = after_key ∙ ap parted (skip_taken Colon i us vs s colon) ∙ ap (valued s) read

-- one turn of the loop, and its end
module _ (l : Bool) (done : List (MapEntryOf Expression)) (v : Values) (w : Room) (whole : Reads Row) (i : ℕ) (old : Left) (o : Opening (reader_of v) w of_entries whole (at i old) (Pairing l done)) where
  pub lacks_entry : (left : Left) (e : Error) → Fails (element_of (reader_of v) w of_entries (at i old)) left e → Fails whole left e
  lacks_entry left e h = fails_by whole (element_of (reader_of v) w of_entries (at i old)) left e (element_fails (reader_of v) w of_entries whole (at i old) (Pairing l done) o) h

  module _ (x : Element) (j : ℕ) (ts : Left) (read : element_of (reader_of v) w of_entries (at i old) ≡ found (x, at j ts)) where
    pub lacks_end : (new : Position) (e : Error) → Continues marks.RightBrace ts new (Err e) → Fails whole new.left e
    lacks_end new e h = after_fails v w of_entries whole o.put x j ts new e (element_read (reader_of v) w of_entries whole (at i old) (Pairing l done) o x (at j ts) read) h

    pub one_entry : (new : Position) (b : Bool) → Continues marks.RightBrace ts new (Ok b) → (e : MapEntryOf Expression) → IsEntry l e x → (with : List (MapEntryOf Expression)) → with ≡ done ++ e ∷ []
        → Rowing b (reader_of v) w of_entries whole (at j new.left) (Pairing l with) (Paired l with new.span)
    one_entry new b goes e is with same =
        subst (λ d. Rowing b (reader_of v) w of_entries whole (at j new.left) (Pairing l d) (Paired l d new.span)) (sym same)
        (following v w of_entries whole o.put x j ts new b (Pairing l (done ++ e ∷ [])) (Paired l (done ++ e ∷ []) new.span)
        (element_read (reader_of v) w of_entries whole (at i old) (Pairing l done) o x (at j ts) read) goes
        (λ c. one_more l done o.put o.keeps e x is c) (last_one l done o.put o.keeps e x is new.span)
        (λ c. all_of l (done ++ e ∷ []) (λ r. o.put (then x c r)) (one_more l done o.put o.keeps e x is c) new.span))

-- the map of a row
map_read : (f : Reader) (w : Room) (s : Span) (p q : Place) (r : Row) → row_of f w of_entries p ≡ found (r, q) → atoms.map_of f w s p ≡ found (Atomic (Map s r), q)
unfolding atoms.map_of
map_read f w s p q r h = ap (λ o. o >>= λ r. found (Atomic (Map s r.0), r.1)) h

pub map_missed : (f : Reader) (w : Room) (s : Span) (p : Place) (left : Left) (e : Error) → Fails (row_of f w of_entries p) left e → Fails (atoms.map_of f w s p) left e
unfolding atoms.map_of
map_missed f w s p left e h = fails_by (atoms.map_of f w s p) (row_of f w of_entries p) left e (λ z none. ap (λ o. o >>= λ r. found (Atomic (Map s r.0), r.1)) none) h

-- what a map of entries that were read comes to
map_shown : (l : Bool) (done : List (MapEntryOf Expression)) (first here : Span) (r : Row) → Paired l done here r → (span : Span) → span ≡ spanning first here
    → map_of (entries_view done) span ≡ output l (Atomic (Map first r))
map_shown l done first here r h span same = ap₂ map_of h.shows (same ∙ ap (spanning first) h.ends)

pub map_given : (l : Bool) (f : Reader) (w : Room) (first here : Span) (p q : Place) (done : List (MapEntryOf Expression)) (r : Row) (span : Span) (result : Result Expression Error)
    → row_of f w of_entries p ≡ found (r, q) → Paired l done here r → span ≡ spanning first here
    → IfOk result (λ e. expression_view e ≡ map_of (entries_view done) span) → IfErr result IsMemory → HeadGives expression_view l result here q (atoms.map_of f w first p)
map_given l f w first here p q done r span (Ok e) read paired same gives memory =
    (Atomic (Map first r), map_read f w first p q r read, gives ∙ map_shown l done first here r paired span same, paired.ends)
map_given l f w first here p q done r span (Err e) read paired same gives memory = inl memory
