-- Rows, attributes and argument_names are read from their tokens, for any way to count links.
use Rattle.std.proofs.Common.{◌≡◌, ℕ, zero, suc, ◌+◌, ◌<◌, true, false, cond, Option, Some, None, refl, sym, ap, subst, ◌∙◌, arith}
use Rattle.std.proofs.lemmas.Option.{none-some}
use Rattle.tera_base.specs.declared.utils.Span.{Span}
use Rattle.tera_lexer.specs.grammar.Tokens.{Items, Token}
use Rattle.tera_lexer.specs.code.Cursors.{size}
use Rattle.tera_grammar.specs.expressions.Marks.{Mark, RightParen, RightBracket, LeftBrace, RightBrace, Comma, Colon, Dot, Spread, Assign, mark_token, mark}
use Rattle.tera_grammar.specs.expressions.Concrete.{Name, Quote, Simple, Escaped, Lit, Number, Quoted, Truth, Dotted, no_dots, dots, Kind, of_arguments, of_items, of_entries, Tree, Row, ended, only, then, Element, plain, spread, pair, argument, Attributes, no_attributes, bare, quoted, valued, spreading, quote_token, literal_token, name_yield, dotted_yield, closing, yield, row_yield, element_yield, attributes_yield}
use Rattle.tera_grammar.specs.Words.{are_distinct, AreDistinct}
use Rattle.tera_grammar.specs.expressions.Conditions.{is_element_of, argument_names, IsRow, IsElement, AreAttributes}
use Rattle.tera_grammar.specs.expressions.Measures.{EachElement, EachRow, EachAttribute}
use Rattle.tera_grammar.specs.expressions.Reading.Front.{Place, at, same_token}
use Rattle.tera_grammar.proofs.plain.expressions.Reading.Front.{Reads, takes, skip, taken_name, name_of, literal_at, quote_at}
use Rattle.tera_grammar.specs.expressions.Reading.Rooms.{Room}
use Rattle.tera_grammar.proofs.plain.expressions.Reading.Bracketed.{Reader, item_at, entry_at, element_of, after_element, row_at, row_by, row_of, arguments_of, dotted_by, dotted_of, attributes_by, attributes_of}
use Rattle.tera_grammar.specs.expressions.Ends.{IsStopMark}
use Rattle.tera_grammar.proofs.Words.{distinct_true}
use Rattle.tera_grammar.proofs.expressions.Fronts.{takes_ok, none_skip, skip_mark, name_read}
use Rattle.tera_grammar.proofs.expressions.Longer.{longer, longer_element}
use Rattle.tera_grammar.specs.Options.{◌>>=◌}
use Rattle.tera_grammar.proofs.expressions.Arguments.{arguments_are}
use Rattle.tera_grammar.proofs.expressions.FoundRows.{element_toll, row_toll, attributes_toll}

-- the expression is read whole before each stop
abbrev pub Whole : Reader → (Tree → ℕ) → Room → Tree → Type 0
Whole f toll w e =
    (m : Mark) → IsStopMark m → (s : Span) (k : ℕ) (r : Items)
    → f w 0 (at (toll e + k) (yield e (mark m s r))) ≡ Some (e, at k (mark m s r))

-- no expression begins with these marks
abbrev pub IsBarred : Mark → Type 0
IsBarred RightParen = Unit {0}
IsBarred RightBracket = Unit {0}
IsBarred RightBrace = Unit {0}
IsBarred Comma = Unit {0}
IsBarred Colon = Unit {0}
IsBarred Spread = Unit {0}
IsBarred _ = ⊥

abbrev pub Bars : Reader → Type 0
Bars f = (m : Mark) → IsBarred m → (w : Room) (n k : ℕ) (s : Span) (r : Items) → f w n (at k (mark m s r)) ≡ None

free_of : (f : Reader) → Bars f → (m : Mark) → IsBarred m → (w : Room) (n k : ℕ) (ts : Items) (x : Tree × Place)
    → f w n (at k ts) ≡ Some x
    → (o : Option (Span × Items)) → takes m ts ≡ o → o ≡ None
free_of f bars m barred w n k ts x h None e = refl
free_of f bars m barred w n k ts x h (Some y) e =
    absurd (none-some x (sym (bars m barred w n k y.0 y.1) ∙ subst (λ v. f w n (at k v) ≡ Some x) (takes_ok m ts y e) h))

pub free : (f : Reader) → Bars f → (m : Mark) → IsBarred m → (w : Room) (n k : ℕ) (ts : Items) (x : Tree × Place)
    → f w n (at k ts) ≡ Some x → skip m (at k ts) ≡ None
free f bars m barred w n k ts x h = none_skip m k ts (free_of f bars m barred w n k ts x h (takes m ts) refl)

literal_read : (l : Lit) (s : Span) (k : ℕ) (r : Items) → literal_at (at k (Token (literal_token l) s r)) ≡ Some ((l, s), at k r)
unfolding literal_at
literal_read (Number n) s k r = refl
literal_read (Quoted (Simple text)) s k r = refl
literal_read (Quoted (Escaped text)) s k r = refl
literal_read (Truth b) s k r = refl

quote_read : (q : Quote) (s : Span) (k : ℕ) (r : Items) → quote_at (at k (Token (quote_token q) s r)) ≡ Some ((q, s), at k r)
unfolding quote_at
quote_read (Simple text) s k r = refl
quote_read (Escaped text) s k r = refl

literal_past : (m : Mark) (l : Lit) (s : Span) (k : ℕ) (r : Items) → skip m (at k (Token (literal_token l) s r)) ≡ None
unfolding skip
literal_past m (Number n) s k r = refl
literal_past m (Quoted (Simple text)) s k r = refl
literal_past m (Quoted (Escaped text)) s k r = refl
literal_past m (Truth b) s k r = refl

pub closing_own : (k : Kind) → same_token (mark_token (closing k)) (mark_token (closing k)) ≡ true
closing_own of_arguments = refl
closing_own of_items = refl
closing_own of_entries = refl

closing_barred : (k : Kind) → IsBarred (closing k)
closing_barred of_arguments = tt
closing_barred of_items = tt
closing_barred of_entries = tt

closing_stops : (k : Kind) → IsStopMark (closing k)
closing_stops of_arguments = tt
closing_stops of_items = tt
closing_stops of_entries = tt

name_past : (k : Kind) (n : Name) (j : ℕ) (r : Items) → skip (closing k) (at j (name_yield n r)) ≡ None
unfolding skip
name_past of_arguments n j r = refl
name_past of_items n j r = refl
name_past of_entries n j r = refl

spread_past : (k : Kind) (s : Span) (j : ℕ) (r : Items) → skip (closing k) (at j (mark Spread s r)) ≡ None
unfolding skip
spread_past of_arguments s j r = refl
spread_past of_items s j r = refl
spread_past of_entries s j r = refl

pub after_end : (more : Place → Reads Row) (k : Kind) (x : Element) (s : Span) (j : ℕ) (r : Items)
    → after_element more k x (at j (mark (closing k) s r)) ≡ Some (only x s, at j r)
unfolding after_element skip
after_end more of_arguments x s j r = refl
after_end more of_items x s j r = refl
after_end more of_entries x s j r = refl

pub after_comma : (more : Place → Reads Row) (k : Kind) (x : Element) (s : Span) (j : ℕ) (us : Items) (row : Row) (q : Place)
    → more (at j us) ≡ Some (row, q)
    → after_element more k x (at j (mark Comma s us)) ≡ Some (then x s row, q)
unfolding after_element skip
after_comma more k x s j us row q h = rw h

-- no attribute goes on with these tokens
pub record NoAttribute (r : Items) : Type 0 where
  pub name : taken_name r ≡ None
  pub brace : takes LeftBrace r ≡ None
  pub assign : takes Assign r ≡ None

no_assign : (x : Attributes) (k : ℕ) (r : Items) → takes Assign r ≡ None → skip Assign (at k (attributes_yield x r)) ≡ None
unfolding skip
no_assign no_attributes k r h = rw h
no_assign (bare n ats) k r h = refl
no_assign (quoted n s l t ats) k r h = refl
no_assign (valued n s b e c ats) k r h = refl
no_assign (spreading b s e c ats) k r h = refl

dotted_more : (n : ℕ) (s : Span) (m : Name) (ds : Dotted) (k : ℕ) (us r : Items) → dotted_by n (at k us) ≡ Some (ds, at k r)
    → dotted_by (suc n) (at k (mark Dot s (name_yield m us))) ≡ Some (dots s m ds, at k r)
unfolding dotted_by skip name_of
dotted_more n s m ds k us r h = rw h

dotted_end : (n k : ℕ) (r : Items) → takes Dot r ≡ None → dotted_by (suc n) (at k r) ≡ Some (no_dots, at k r)
unfolding dotted_by skip
dotted_end n k r h = rw h

dotted_by_read : (ds : Dotted) (n k : ℕ) (r : Items) → size (dotted_yield ds r) < n → takes Dot r ≡ None
    → dotted_by n (at k (dotted_yield ds r)) ≡ Some (ds, at k r)
dotted_by_read no_dots zero k r enough h = absurd (omega arith)
dotted_by_read no_dots (suc n) k r enough h = dotted_end n k r h
dotted_by_read (dots s m ds) zero k r enough h = absurd (omega arith)
dotted_by_read (dots s m ds) (suc n) k r enough h = dotted_more n s m ds k (dotted_yield ds r) r
    (dotted_by_read ds n k r (omega arith) h)

pub dotted_read : (ds : Dotted) (k : ℕ) (r : Items) → takes Dot r ≡ None → dotted_of (at k (dotted_yield ds r)) ≡ Some (ds, at k r)
unfolding dotted_of
dotted_read ds k r h = dotted_by_read ds (suc (size (dotted_yield ds r))) k r (omega arith) h

module _ (f : Reader) (toll : Tree → ℕ) (bars : Bars f) (w : Room) where
  item_read : (e : Tree) (m : Mark) → IsStopMark m → (s : Span) (j : ℕ) (r : Items) → Whole f toll w e
      → element_of f w of_items (at (toll e + j) (yield e (mark m s r))) ≡ Some (plain e, at j (mark m s r))
  unfolding element_of
  item_read e m stop s j r whole = ap (item_at f w (at (toll e + j) (yield e (mark m s r))))
      (free f bars Spread tt w 0 _ _ _ (whole m stop s j r)) ∙ rw (whole m stop s j r)

  spread_read : (k : Kind) (b : Span) (e : Tree) → is_element_of k (spread b e) ≡ true → (m : Mark) → IsStopMark m
      → (s : Span) (j : ℕ) (r : Items) → Whole f toll w e
      → element_of f w k (at (toll e + j) (mark Spread b (yield e (mark m s r)))) ≡ Some (spread b e, at j (mark m s r))
  unfolding element_of
  spread_read of_arguments b e may m stop s j r whole = cc
  spread_read of_items b e may m stop s j r whole = ap (item_at f w _) (skip_mark Spread refl _ b _) ∙ rw (whole m stop s j r)
  spread_read of_entries b e may m stop s j r whole = ap (entry_at f w _) (skip_mark Spread refl _ b _) ∙ rw (whole m stop s j r)

  pair_read : (l : Lit) (a b : Span) (e : Tree) (m : Mark) → IsStopMark m → (s : Span) (j : ℕ) (r : Items)
      → Whole f toll w e
      → element_of f w of_entries (at (toll e + j) (Token (literal_token l) a (mark Colon b (yield e (mark m s r))))) ≡ Some
      (pair l a b e, at j (mark m s r))
  unfolding element_of
  pair_read l a b e m stop s j r whole =
      ap (entry_at f w _) (literal_past Spread l a _ _) ∙ rw (
        literal_read l a (toll e + j) (mark Colon b (yield e (mark m s r))),
        skip_mark Colon refl (toll e + j) b
            (yield e (mark m s r)),
        whole m stop s j r,
      )

  argument_read : (n : Name) (b : Span) (e : Tree) (m : Mark) → IsStopMark m → (s : Span) (j : ℕ) (r : Items) → Whole f toll w e
      → element_of f w of_arguments (at (toll e + j) (name_yield n (mark Assign b (yield e (mark m s r))))) ≡ Some
      (argument n b e, at j (mark m s r))
  unfolding element_of
  argument_read n b e m stop s j r whole =
      rw (
        name_read n (toll e + j) (mark Assign b (yield e (mark m s r))),
        skip_mark Assign refl (toll e + j) b
            (yield e (mark m s r)),
        whole m stop s j r,
      )

  pub element_read : (k : Kind) (x : Element) → IsElement w.in_loop k x → EachElement (Whole f toll w) x → (m : Mark)
      → IsStopMark m → (s : Span) (j : ℕ) (r : Items)
      → element_of f w k (at (element_toll toll x + j) (element_yield x (mark m s r))) ≡ Some (x, at j (mark m s r))
  element_read of_items (plain e) is whole m stop s j r = item_read e m stop s j r whole
  element_read of_entries (plain e) is whole m stop s j r = let clash : false ≡ true = is.0 in cc
  element_read of_arguments (plain e) is whole m stop s j r = let clash : false ≡ true = is.0 in cc
  element_read k (spread b e) is whole m stop s j r = spread_read k b e is.0 m stop s j r whole
  element_read of_entries (pair l a b e) is whole m stop s j r = pair_read l a b e m stop s j r whole
  element_read of_items (pair l a b e) is whole m stop s j r = let clash : false ≡ true = is.0 in cc
  element_read of_arguments (pair l a b e) is whole m stop s j r = let clash : false ≡ true = is.0 in cc
  element_read of_arguments (argument n b e) is whole m stop s j r = argument_read n b e m stop s j r whole
  element_read of_items (argument n b e) is whole m stop s j r = let clash : false ≡ true = is.0 in cc
  element_read of_entries (argument n b e) is whole m stop s j r = let clash : false ≡ true = is.0 in cc

  -- an element does not begin with what closes the row
  pub element_free : (k : Kind) (x : Element) → IsElement w.in_loop k x → EachElement (Whole f toll w) x → (m : Mark)
      → IsStopMark m → (s : Span) (j : ℕ) (r : Items)
      → skip (closing k) (at (element_toll toll x + j) (element_yield x (mark m s r))) ≡ None
  element_free k (plain e) is whole m stop s j r = free f bars (closing k) (closing_barred k) w 0 _ _ _ (whole m stop s j r)
  element_free k (spread b e) is whole m stop s j r = spread_past k b _ _
  element_free of_entries (pair l a b e) is whole m stop s j r = literal_past RightBrace l a _ _
  element_free of_items (pair l a b e) is whole m stop s j r = let clash : false ≡ true = is.0 in cc
  element_free of_arguments (pair l a b e) is whole m stop s j r = let clash : false ≡ true = is.0 in cc
  element_free k (argument n b e) is whole m stop s j r = name_past k n _ _

  row_ended : (n : ℕ) (k : Kind) (s : Span) (j : ℕ) (r : Items)
      → row_by (suc n) f w k (at j (mark (closing k) s r)) ≡ Some (ended s, at j r)
  unfolding row_by
  row_ended n k s j r = ap (row_at (row_by n f w k) f w k _) (skip_mark (closing k) (closing_own k) j s r)

  row_more : (n : ℕ) (k : Kind) (x : Element) (p q : Place) → skip (closing k) p ≡ None → element_of f w k p ≡ Some (x, q)
      → row_by (suc n) f w k p ≡ after_element (row_by n f w k) k x q
  unfolding row_by
  row_more n k x p q none one = ap (row_at (row_by n f w k) f w k p) none ∙ rw one

  pub row_by_read : (row : Row) (n : ℕ) (k : Kind) (j : ℕ) (r : Items) → size (row_yield k row r) < n → IsRow w.in_loop k row
      → EachRow (Whole f toll w) row
      → row_by n f w k (at (row_toll toll row + j) (row_yield k row r)) ≡ Some (row, at j r)
  row_by_read (ended s) zero k j r enough is whole = absurd (omega arith)
  row_by_read (ended s) (suc n) k j r enough is whole = ap (λ i. row_by (suc n) f w k (at i (mark (closing k) s r))) (omega arith)
      ∙ row_ended n k s j r
  row_by_read (only x s) zero k j r enough is whole = absurd (omega arith)
  row_by_read (only x s) (suc n) k j r enough is whole =
      row_more n k x _ _ (element_free k x is whole (closing k) (closing_stops k) s j r)
      (element_read k x is whole (closing k) (closing_stops k) s j r) ∙ after_end (row_by n f w k) k x s j r
  row_by_read (then x s xs) zero k j r enough is whole = absurd (omega arith)
  row_by_read (then x s xs) (suc n) k j r enough is whole =
      let less = longer_element x (mark Comma s (row_yield k xs r)) in
      ap (λ i. row_by (suc n) f w k (at i (element_yield x (mark Comma s (row_yield k xs r))))) (omega arith)
      ∙ row_more n k x _ _ (element_free k x is.0 whole.0 Comma tt s (row_toll toll xs + j) (row_yield k xs r))
      (element_read k x is.0 whole.0 Comma tt s (row_toll toll xs + j) (row_yield k xs r))
      ∙ after_comma (row_by n f w k) k x s (row_toll toll xs + j) (row_yield k xs r) xs (at j r)
      (row_by_read xs n k j r (omega arith) is.1 whole.1)

  pub row_read : (row : Row) (k : Kind) (j : ℕ) (r : Items) → IsRow w.in_loop k row → EachRow (Whole f toll w) row
      → row_of f w k (at (row_toll toll row + j) (row_yield k row r)) ≡ Some (row, at j r)
  unfolding row_of
  row_read row k j r is whole = row_by_read row (suc (size (row_yield k row r))) k j r (omega arith) is whole

  pub arguments_read : (row : Row) (j : ℕ) (r : Items) → IsRow w.in_loop of_arguments row → AreDistinct (argument_names row)
      → EachRow (Whole f toll w) row
      → arguments_of f w (at (row_toll toll row + j) (row_yield of_arguments row r)) ≡ Some (row, at j r)
  arguments_read row j r is distinct whole =
      let p : Place = at (row_toll toll row + j) (row_yield of_arguments row r) in
      let read : (row_of f w of_arguments p >>= λ x. cond (are_distinct (argument_names x.0)) (Some x) None) ≡ Some (row, at j r) =
      rw (row_read row of_arguments j r is whole, distinct_true (argument_names row) distinct) refl in
      arguments_are f w p ∙ read

  attributes_end : (n j : ℕ) (r : Items) → NoAttribute r → attributes_by (suc n) f w (at j r) ≡ Some (no_attributes, at j r)
  unfolding attributes_by name_of skip
  attributes_end n j r h = rw (h.name, h.brace)

  bare_read : (n : ℕ) (x : Name) (ats : Attributes) (i : ℕ) (us : Items) (q : Place) → skip Assign (at i us) ≡ None
      → attributes_by n f w (at i us) ≡ Some (ats, q)
      → attributes_by (suc n) f w (at i (name_yield x us)) ≡ Some (bare x ats, q)
  unfolding attributes_by name_of
  bare_read n x ats i us q none h = rw (none, h)

  quoted_read : (n : ℕ) (x : Name) (s : Span) (l : Quote) (t : Span) (ats : Attributes) (i : ℕ) (us : Items) (q : Place)
      → attributes_by n f w (at i us) ≡ Some (ats, q)
      → attributes_by (suc n) f w (at i (name_yield x (mark Assign s (Token (quote_token l) t us)))) ≡ Some (quoted x s l t ats, q)
  unfolding attributes_by name_of
  quoted_read n x s l t ats i us q h = rw (skip_mark Assign refl i s (Token (quote_token l) t us), quote_read l t i us, h)

  no_text : (b : Span) (k : ℕ) (r : Items) → quote_at (at k (mark LeftBrace b r)) ≡ None
  unfolding quote_at
  no_text b k r = refl

  valued_read : (n : ℕ) (x : Name) (s b : Span) (e : Tree) (c : Span) (ats : Attributes) (i : ℕ) (us : Items) (q : Place)
      → Whole f toll w e → attributes_by n f w (at i us) ≡ Some (ats, q)
      → attributes_by (suc n) f w (at (toll e + i) (name_yield x (mark Assign s (mark LeftBrace b (yield e (mark RightBrace c us))))))
      ≡ Some (valued x s b e c ats, q)
  unfolding attributes_by name_of
  valued_read n x s b e c ats i us q whole h =
      rw (
        skip_mark Assign refl (toll e + i) s (mark LeftBrace b (yield e (mark RightBrace c us))),
        no_text b (toll e + i) (yield e (mark RightBrace c us)),
        skip_mark LeftBrace refl (toll e + i) b (yield e (mark RightBrace c us)),
        whole RightBrace tt c i us,
        skip_mark RightBrace refl i c us,
        h,
      )

  no_name : (b : Span) (k : ℕ) (r : Items) → name_of (at k (mark LeftBrace b r)) ≡ None
  unfolding name_of
  no_name b k r = refl

  spreading_read : (n : ℕ) (b s : Span) (e : Tree) (c : Span) (ats : Attributes) (i : ℕ) (us : Items) (q : Place)
      → Whole f toll w e → attributes_by n f w (at i us) ≡ Some (ats, q)
      → attributes_by (suc n) f w (at (toll e + i) (mark LeftBrace b (mark Spread s (yield e (mark RightBrace c us))))) ≡ Some
      (spreading b s e c ats, q)
  unfolding attributes_by
  spreading_read n b s e c ats i us q whole h =
      rw (
        no_name b (toll e + i) (mark Spread s (yield e (mark RightBrace c us))),
        skip_mark LeftBrace refl (toll e + i) b (mark Spread s (yield e (mark RightBrace c us))),
        skip_mark Spread refl (toll e + i) s (yield e (mark RightBrace c us)),
        whole RightBrace tt c i us,
        skip_mark RightBrace refl i c us,
        h,
      )

  attributes_by_read : (x : Attributes) (n j : ℕ) (r : Items) → size (attributes_yield x r) < n → AreAttributes w.in_loop x
      → EachAttribute (Whole f toll w) x → NoAttribute r
      → attributes_by n f w (at (attributes_toll toll x + j) (attributes_yield x r)) ≡ Some (x, at j r)
  attributes_by_read x zero j r enough is whole none = absurd (omega arith)
  attributes_by_read no_attributes (suc n) j r enough is whole none = ap (λ i. attributes_by (suc n) f w (at i r)) (omega arith)
      ∙ attributes_end n j r none
  attributes_by_read (bare x ats) (suc n) j r enough is whole none =
      bare_read n x ats (attributes_toll toll ats + j) (attributes_yield ats r) (at j r) (no_assign ats _ r none.assign)
      (attributes_by_read ats n j r (omega arith) is whole none)
  attributes_by_read (quoted x s l t ats) (suc n) j r enough is whole none =
      quoted_read n x s l t ats (attributes_toll toll ats + j) (attributes_yield ats r) (at j r)
      (attributes_by_read ats n j r (omega arith) is whole none)
  attributes_by_read (valued x s b e c ats) (suc n) j r enough is whole none =
      let less = longer e (mark RightBrace c (attributes_yield ats r)) in
      ap (λ i. attributes_by (suc n) f w (at i (attributes_yield (valued x s b e c ats) r))) (omega arith)
      ∙ valued_read n x s b e c ats (attributes_toll toll ats + j) (attributes_yield ats r) (at j r) whole.0
      (attributes_by_read ats n j r (omega arith) is.1 whole.1 none)
  attributes_by_read (spreading b s e c ats) (suc n) j r enough is whole none =
      let less = longer e (mark RightBrace c (attributes_yield ats r)) in
      ap (λ i. attributes_by (suc n) f w (at i (attributes_yield (spreading b s e c ats) r))) (omega arith)
      ∙ spreading_read n b s e c ats (attributes_toll toll ats + j) (attributes_yield ats r) (at j r) whole.0
      (attributes_by_read ats n j r (omega arith) is.1 whole.1 none)

  pub attributes_read : (x : Attributes) (j : ℕ) (r : Items) → AreAttributes w.in_loop x → EachAttribute (Whole f toll w) x
      → NoAttribute r
      → attributes_of f w (at (attributes_toll toll x + j) (attributes_yield x r)) ≡ Some (x, at j r)
  unfolding attributes_of
  attributes_read x j r is whole none = attributes_by_read x (suc (size (attributes_yield x r))) j r (omega arith) is whole none
