-- What the reading of rows and attributes has found, for any way to count links: those of the values add up in
-- one expression, and each value has links of its own where values are outermost.
use Rattle.std.proofs.Common.{◌≡◌, ℕ, zero, suc, ◌+◌, ◌≤◌, true, cond, Some, None, refl, sym, ap, subst, ◌∙◌, arith}
use Rattle.std.proofs.lemmas.Option.{same_Some}
use Rattle.tera_base.specs.declared.utils.Span.{Span}
use Rattle.tera_lexer.specs.grammar.Tokens.{Token}
use Rattle.tera_lexer.specs.code.Cursors.{size}
use Rattle.tera_grammar.specs.expressions.Marks.{LeftBrace, RightBrace, Comma, Colon, Spread, Assign, mark}
use Rattle.tera_grammar.specs.expressions.Concrete.{Name, Quote, Kind, of_arguments, of_items, of_entries, Tree, Row, ended, only, then, Element, plain, spread, pair, argument, Attributes, no_attributes, bare, quoted, valued, spreading, quote_token, literal_token, name_yield, closing, yield, row_yield, element_yield, attributes_yield}
use Rattle.tera_grammar.specs.expressions.Powers.{AtLeast}
use Rattle.tera_grammar.specs.Words.{are_distinct, AreDistinct}
use Rattle.tera_grammar.specs.expressions.Conditions.{is_element_of, argument_names, IsExpression, IsRow, IsElement, AreAttributes}
use Rattle.tera_grammar.specs.expressions.Measures.{measure, row_measure, element_measure, attributes_measure, openings, subscripts, arrays, height, links, linking, EachElement, EachRow, EachAttribute}
use Rattle.tera_grammar.specs.expressions.Reading.Front.{Place}
use Rattle.tera_grammar.proofs.plain.expressions.Reading.Front.{Reads, skip, name_of, quote_at}
use Rattle.tera_grammar.specs.expressions.Reading.Rooms.{Room}
use Rattle.tera_grammar.proofs.plain.expressions.Reading.Bracketed.{Reader, spread_at, item_at, entry_at, element_of, comma_at, after_element, row_at, row_by, row_of, arguments_of, value_at, named_at, attribute_at, attributes_by, attributes_of}
use Rattle.tera_grammar.proofs.Words.{distinct_ok}
use Rattle.tera_grammar.proofs.Options.{bound}
use Rattle.tera_grammar.proofs.expressions.Fronts.{holds_ok, skip_ok, name_of_ok, literal_at_ok, quote_at_ok}
use Rattle.tera_grammar.proofs.expressions.Quiet.{Stops, Quiet}
use Rattle.tera_grammar.proofs.expressions.Arguments.{arguments_are}

-- What a reading of a whole expression has found, where d expressions may open in some room. What it costs is given by
-- toll, and what else is known of it by fits.
pub record Found (toll : Tree → ℕ) (fits : Room → Tree → Type 0) (d : ℕ) (w : Room) (m : ℕ) (p : Place) (t : Tree) (q : Place) :
    Type 0 where
  pub spelled : p.tokens ≡ yield t q.tokens
  pub counted : p.links ≡ toll t + q.links
  pub each : fits w t
  pub is : IsExpression w.in_loop t
  pub left : AtLeast m t
  pub quiet : Quiet t q.tokens
  pub stops : Stops m q.tokens
  pub high : height t ≤ d
  pub nested : measure subscripts t ≤ w.subscripts
  pub inner : measure arrays t ≤ w.arrays

abbrev pub Sound : (Tree → ℕ) → (Room → Tree → Type 0) → ℕ → Reader → Type 0
Sound toll fits d f = (w : Room) (m : ℕ) (p : Place) (x : Tree × Place) → f w m p ≡ Some x → Found toll fits d w m p x.0 x.1

-- what the values of a row cost, and what is known of each
abbrev pub element_toll : (Tree → ℕ) → Element → ℕ
element_toll toll (plain e) = toll e
element_toll toll (spread s e) = toll e
element_toll toll (pair l s t e) = toll e
element_toll toll (argument n s e) = toll e

abbrev pub row_toll : (Tree → ℕ) → Row → ℕ
row_toll toll (ended s) = 0
row_toll toll (only x s) = element_toll toll x
row_toll toll (then x s xs) = element_toll toll x + row_toll toll xs

abbrev pub attributes_toll : (Tree → ℕ) → Attributes → ℕ
attributes_toll toll no_attributes = 0
attributes_toll toll (bare n ats) = attributes_toll toll ats
attributes_toll toll (quoted n s l t ats) = attributes_toll toll ats
attributes_toll toll (valued n s b e c ats) = toll e + attributes_toll toll ats
attributes_toll toll (spreading b s e c ats) = toll e + attributes_toll toll ats

element_toll_links : (x : Element) → element_toll links x ≡ element_measure linking x
element_toll_links (plain e) = refl
element_toll_links (spread s e) = refl
element_toll_links (pair l s t e) = refl
element_toll_links (argument n s e) = refl

pub row_toll_links : (row : Row) → row_toll links row ≡ row_measure linking row
row_toll_links (ended s) = refl
row_toll_links (only x s) = element_toll_links x
row_toll_links (then x s xs) = rw (element_toll_links x, row_toll_links xs)

pub attributes_toll_links : (x : Attributes) → attributes_toll links x ≡ attributes_measure linking x
attributes_toll_links no_attributes = refl
attributes_toll_links (bare n ats) = attributes_toll_links ats
attributes_toll_links (quoted n s l t ats) = attributes_toll_links ats
attributes_toll_links (valued n s b e c ats) = rw (attributes_toll_links ats)
attributes_toll_links (spreading b s e c ats) = rw (attributes_toll_links ats)

pub record FoundElement (toll : Tree → ℕ) (fits : Room → Tree → Type 0) (d : ℕ) (w : Room) (k : Kind) (p : Place) (x : Element)
    (q : Place) : Type 0 where
  pub spelled : p.tokens ≡ element_yield x q.tokens
  pub counted : p.links ≡ element_toll toll x + q.links
  pub each : EachElement (fits w) x
  pub is : IsElement w.in_loop k x
  pub high : element_measure openings x ≤ d
  pub nested : element_measure subscripts x ≤ w.subscripts
  pub inner : element_measure arrays x ≤ w.arrays

pub record FoundRow (toll : Tree → ℕ) (fits : Room → Tree → Type 0) (d : ℕ) (w : Room) (k : Kind) (p : Place) (row : Row)
    (q : Place) : Type 0 where
  pub spelled : p.tokens ≡ row_yield k row q.tokens
  pub counted : p.links ≡ row_toll toll row + q.links
  pub each : EachRow (fits w) row
  pub is : IsRow w.in_loop k row
  pub high : row_measure openings row ≤ d
  pub nested : row_measure subscripts row ≤ w.subscripts
  pub inner : row_measure arrays row ≤ w.arrays

pub record FoundAttributes (toll : Tree → ℕ) (fits : Room → Tree → Type 0) (d : ℕ) (w : Room) (p : Place) (x : Attributes)
    (q : Place) : Type 0 where
  pub spelled : p.tokens ≡ attributes_yield x q.tokens
  pub counted : p.links ≡ attributes_toll toll x + q.links
  pub each : EachAttribute (fits w) x
  pub is : AreAttributes w.in_loop x
  pub high : attributes_measure openings x ≤ d
  pub nested : attributes_measure subscripts x ≤ w.subscripts
  pub inner : attributes_measure arrays x ≤ w.arrays

abbrev pub SoundRow : (Tree → ℕ) → (Room → Tree → Type 0) → ℕ → Room → Kind → (Place → Reads Row) → Type 0
SoundRow toll fits d w k more = (p : Place) (x : Row × Place) → more p ≡ Some x → FoundRow toll fits d w k p x.0 x.1

abbrev pub SoundAttributes : (Tree → ℕ) → (Room → Tree → Type 0) → ℕ → Room → (Place → Reads Attributes) → Type 0
SoundAttributes toll fits d w more = (p : Place) (x : Attributes × Place) → more p ≡ Some x
    → FoundAttributes toll fits d w p x.0 x.1

module _ (toll : Tree → ℕ) (fits : Room → Tree → Type 0) (d : ℕ) (f : Reader) (sound : Sound toll fits d f) (w : Room) where
  spread_found : (k : Kind) (p q : Place) (s : Span) → ((e : Tree) → is_element_of k (spread s e) ≡ true)
      → p.tokens ≡ mark Spread s q.tokens → p.links ≡ q.links
      → (x : Element × Place) → spread_at f w s q ≡ Some x → FoundElement toll fits d w k p x.0 x.1
  spread_found k p q s may begun kept x h =
      bound (f w 0 q) (λ e. Some (spread s e.0, e.1)) x h (λ e read made.
      let found = sound w 0 q e read in
      subst (λ (y : Element × Place). FoundElement toll fits d w k p y.0 y.1) (same_Some (spread s e.0, e.1) x made) (record {
        spelled = begun ∙ ap (mark Spread s) found.spelled;
        counted = omega (arith, kept, found.counted);
        each = found.each;
        is = (may e.0, found.is);
        high = omega (arith, found.high);
        nested = omega (arith, found.nested);
        inner = omega (arith, found.inner);
      }))

  item_found : (p : Place) (o : Reads Span) → skip Spread p ≡ o → (x : Element × Place) → item_at f w p o ≡ Some x
      → FoundElement toll fits d w of_items p x.0 x.1
  item_found p (Some y) is x h = let at_spread = skip_ok Spread p y is in spread_found of_items p y.1 y.0 (λ e. refl) at_spread.0
      at_spread.1 x h
  item_found p None is x h =
      bound (f w 0 p) (λ e. Some (plain e.0, e.1)) x h (λ e read made.
      let found = sound w 0 p e read in
      subst (λ (y : Element × Place). FoundElement toll fits d w of_items p y.0 y.1) (same_Some (plain e.0, e.1) x made) (record {
        spelled = found.spelled;
        counted = found.counted;
        each = found.each;
        is = (refl, found.is);
        high = omega (arith, found.high);
        nested = omega (arith, found.nested);
        inner = omega (arith, found.inner);
      }))

  entry_found : (p : Place) (o : Reads Span) → skip Spread p ≡ o → (x : Element × Place) → entry_at f w p o ≡ Some x
      → FoundElement toll fits d w of_entries p x.0 x.1
  entry_found p (Some y) is x h = let at_spread = skip_ok Spread p y is in spread_found of_entries p y.1 y.0 (λ e. refl)
      at_spread.0 at_spread.1 x h
  entry_found p None is x h =
      bound _ _ _ h (λ l key more.
      bound _ _ _ more (λ s colon rest.
      bound _ _ _ rest (λ e read made.
      let at_key = literal_at_ok p l key in
      let at_colon = skip_ok Colon l.1 s colon in
      let found = sound w 0 s.1 e read in
      subst (λ (y : Element × Place). FoundElement toll fits d w of_entries p y.0 y.1) (same_Some _ _ made) (record {
        spelled = at_key.0 ∙ ap (Token (literal_token l.0.0) l.0.1) (at_colon.0 ∙ ap (mark Colon s.0) found.spelled);
        counted = omega (arith, at_key.1, at_colon.1, found.counted);
        each = found.each;
        is = (refl, found.is);
        high = omega (arith, found.high);
        nested = omega (arith, found.nested);
        inner = omega (arith, found.inner);
      }))))

  pub element_found : (k : Kind) (p : Place) (x : Element × Place) → element_of f w k p ≡ Some x
      → FoundElement toll fits d w k p x.0 x.1
  unfolding element_of
  element_found of_items p x h = item_found p (skip Spread p) refl x h
  element_found of_entries p x h = entry_found p (skip Spread p) refl x h
  element_found of_arguments p x h =
      bound _ _ _ h (λ n name more.
      bound _ _ _ more (λ s assigned rest.
      bound _ _ _ rest (λ e read made.
      let at_name = name_of_ok p n name in
      let at_assign = skip_ok Assign n.1 s assigned in
      let found = sound w 0 s.1 e read in
      subst (λ (y : Element × Place). FoundElement toll fits d w of_arguments p y.0 y.1) (same_Some _ _ made) (record {
        spelled = at_name.0 ∙ ap (name_yield n.0) (at_assign.0 ∙ ap (mark Assign s.0) found.spelled);
        counted = omega (arith, at_name.1, at_assign.1, found.counted);
        each = found.each;
        is = (refl, found.is);
        high = omega (arith, found.high);
        nested = omega (arith, found.nested);
        inner = omega (arith, found.inner);
      }))))

  comma_found : (k : Kind) (more : Place → Reads Row) → SoundRow toll fits d w k more → (p q : Place) (e : Element)
      → FoundElement toll fits d w k p e q
      → (o : Reads Span) → skip Comma q ≡ o → (x : Row × Place) → comma_at more k e q o ≡ Some x
      → FoundRow toll fits d w k p x.0 x.1
  comma_found k more goes p q e one (Some y) is x h =
      bound (more y.1) (λ r. Some (then e y.0 r.0, r.1)) x h (λ r read made.
      let at_comma = skip_ok Comma q y is in
      let others = goes y.1 r read in
      subst (λ (y : Row × Place). FoundRow toll fits d w k p y.0 y.1) (same_Some (then e y.0 r.0, r.1) x made) (record {
        spelled = one.spelled ∙ ap (element_yield e) (at_comma.0 ∙ ap (mark Comma y.0) others.spelled);
        counted = omega (arith, one.counted, at_comma.1, others.counted);
        each = (one.each, others.each);
        is = (one.is, others.is);
        high = omega (arith, one.high, others.high);
        nested = omega (arith, one.nested, others.nested);
        inner = omega (arith, one.inner, others.inner);
      }))
  comma_found k more goes p q e one None is x h =
      bound (skip (closing k) q) (λ c. Some (only e c.0, c.1)) x h (λ c closed made.
      let at_close = skip_ok (closing k) q c closed in
      subst (λ (y : Row × Place). FoundRow toll fits d w k p y.0 y.1) (same_Some (only e c.0, c.1) x made) (record {
        spelled = one.spelled ∙ ap (element_yield e) at_close.0;
        counted = omega (arith, one.counted, at_close.1);
        each = one.each;
        is = one.is;
        high = one.high;
        nested = one.nested;
        inner = one.inner;
      }))

  pub after_found : (k : Kind) (more : Place → Reads Row) → SoundRow toll fits d w k more → (p q : Place) (e : Element)
      → FoundElement toll fits d w k p e q
      → (x : Row × Place) → after_element more k e q ≡ Some x → FoundRow toll fits d w k p x.0 x.1
  unfolding after_element
  after_found k more goes p q e one x h = comma_found k more goes p q e one (skip Comma q) refl x h

  pub ended_found : (k : Kind) (p : Place) (y : Span × Place) → skip (closing k) p ≡ Some y
      → FoundRow toll fits d w k p (ended y.0) y.1
  ended_found k p y is =
      let at_close = skip_ok (closing k) p y is in
      record {
        spelled = at_close.0;
        counted = omega (arith, at_close.1);
        each = tt;
        is = tt;
        high = omega arith;
        nested = omega
            arith;
        inner = omega arith;
      }

  row_at_found : (k : Kind) (more : Place → Reads Row) → SoundRow toll fits d w k more → (p : Place)
      → (o : Reads Span) → skip (closing k) p ≡ o → (x : Row × Place) → row_at more f w k p o ≡ Some x
      → FoundRow toll fits d w k p x.0 x.1
  row_at_found k more goes p (Some y) is x h =
      subst (λ (z : Row × Place). FoundRow toll fits d w k p z.0 z.1) (same_Some (ended y.0, y.1) x h) (ended_found k p y is)
  row_at_found k more goes p None is x h =
      bound (element_of f w k p) (λ e. after_element more k e.0 e.1) x h (λ e read rest.
      after_found k more goes p e.1 e.0 (element_found k p e read) x rest)

  row_by_found : (n : ℕ) (k : Kind) → SoundRow toll fits d w k (row_by n f w k)
  unfolding row_by
  row_by_found zero k p x h = cc
  row_by_found (suc n) k p x h = row_at_found k (row_by n f w k) (row_by_found n k) p (skip (closing k) p) refl x h

  pub row_found : (k : Kind) → SoundRow toll fits d w k (row_of f w k)
  unfolding row_of
  row_found k p x h = row_by_found (suc (size p.tokens)) k p x h

  pub arguments_found : (p : Place) (x : Row × Place) → arguments_of f w p ≡ Some x → FoundRow toll fits d w of_arguments p x.0 x.1
      × AreDistinct (argument_names x.0)
  arguments_found p x h =
      bound (row_of f w of_arguments p) (λ r. cond (are_distinct (argument_names r.0)) (Some r) None) x (sym (arguments_are f w p) ∙ h) (λ r read rest.
      let (distinct, made) = holds_ok (are_distinct (argument_names r.0)) (Some r) x rest in
      let e = same_Some r x made in (
        subst (λ (z : Row × Place). FoundRow toll fits d w of_arguments p z.0 z.1) e (row_found of_arguments p r read),
        subst (λ (z : Row × Place). AreDistinct (argument_names z.0)) e (distinct_ok (argument_names r.0) distinct),
      ))

  value_found : (more : Place → Reads Attributes) → SoundAttributes toll fits d w more → (p q r : Place) (n : Name) (s : Span)
      → p.tokens ≡ name_yield n q.tokens → p.links ≡ q.links
      → q.tokens ≡ mark Assign s r.tokens → q.links ≡ r.links
      → (o : Reads (Quote × Span)) → quote_at r ≡ o → (x : Attributes × Place) → value_at more f w n s r o ≡ Some x
      → FoundAttributes toll fits d w p x.0 x.1
  value_found more goes p q r n s at_name kept at_assign same (Some l) is x h =
      bound (more l.1) (λ a. Some (quoted n s l.0.0 l.0.1 a.0, a.1)) x h (λ a read made.
      let at_text = quote_at_ok r l is in
      let others = goes l.1 a read in
      subst (λ (y : Attributes × Place). FoundAttributes toll fits d w p y.0 y.1)
      (same_Some (quoted n s l.0.0 l.0.1 a.0, a.1) x made) (record {
        spelled = at_name ∙ ap (name_yield n) (at_assign ∙ ap (mark Assign s)
            (at_text.0 ∙ ap (Token (quote_token l.0.0) l.0.1) others.spelled));
        counted = omega (arith, kept, same, at_text.1, others.counted);
        each = others.each;
        is = others.is;
        high = others.high;
        nested = others.nested;
        inner = others.inner;
      }))
  value_found more goes p q r n s at_name kept at_assign same None is x h =
      bound _ _ _ h (λ b braced one.
      bound _ _ _ one (λ e read two.
      bound _ _ _ two (λ c closed three.
      bound _ _ _ three (λ a rest made.
      let at_brace = skip_ok LeftBrace r b braced in
      let found = sound w 0 b.1 e read in
      let at_close = skip_ok RightBrace e.1 c closed in
      let others = goes c.1 a rest in
      subst (λ (y : Attributes × Place). FoundAttributes toll fits d w p y.0 y.1) (same_Some _ _ made) (record {
        spelled = at_name ∙ ap (name_yield n) (at_assign ∙ ap (mark Assign s)
            (at_brace.0 ∙ ap (mark LeftBrace b.0) (found.spelled
            ∙ ap (yield e.0) (at_close.0 ∙ ap (mark RightBrace c.0) others.spelled))));
        counted = omega (arith, kept, same, at_brace.1, found.counted, at_close.1, others.counted);
        each = (found.each, others.each);
        is = (found.is, others.is);
        high = omega (arith, found.high, others.high);
        nested = omega (arith, found.nested, others.nested);
        inner = omega (arith, found.inner, others.inner);
      })))))

  named_found : (more : Place → Reads Attributes) → SoundAttributes toll fits d w more → (p q : Place) (n : Name)
      → p.tokens ≡ name_yield n q.tokens → p.links ≡ q.links
      → (o : Reads Span) → skip Assign q ≡ o → (x : Attributes × Place) → named_at more f w n q o ≡ Some x
      → FoundAttributes toll fits d w p x.0 x.1
  named_found more goes p q n at_name kept None is x h =
      bound (more q) (λ a. Some (bare n a.0, a.1)) x h (λ a read made.
      let others = goes q a read in
      subst (λ (y : Attributes × Place). FoundAttributes toll fits d w p y.0 y.1) (same_Some (bare n a.0, a.1) x made) (record {
        spelled = at_name ∙ ap (name_yield n) others.spelled;
        counted = omega (arith, kept, others.counted);
        each = others.each;
        is = others.is;
        high = others.high;
        nested = others.nested;
        inner = others.inner;
      }))
  named_found more goes p q n at_name kept (Some y) is x h =
      let at_assign = skip_ok Assign q y is in
      value_found more goes p q y.1 n y.0 at_name kept at_assign.0 at_assign.1 (quote_at y.1) refl x h

  attribute_found : (more : Place → Reads Attributes) → SoundAttributes toll fits d w more → (p : Place)
      → (o : Reads Name) → name_of p ≡ o → (b : Reads Span) → skip LeftBrace p ≡ b → (x : Attributes × Place)
      → attribute_at more f w p o b ≡ Some x → FoundAttributes toll fits d w p x.0 x.1
  attribute_found more goes p (Some n) is b begun x h =
      let at_name = name_of_ok p n is in named_found more goes p n.1 n.0 at_name.0 at_name.1 (skip Assign n.1) refl x h
  attribute_found more goes p None is (Some b) begun x h =
      bound _ _ _ h (λ s spreads one.
      bound _ _ _ one (λ e read two.
      bound _ _ _ two (λ c closed three.
      bound _ _ _ three (λ a rest made.
      let at_brace = skip_ok LeftBrace p b begun in
      let at_spread = skip_ok Spread b.1 s spreads in
      let found = sound w 0 s.1 e read in
      let at_close = skip_ok RightBrace e.1 c closed in
      let others = goes c.1 a rest in
      subst (λ (y : Attributes × Place). FoundAttributes toll fits d w p y.0 y.1) (same_Some _ _ made) (record {
        spelled = at_brace.0 ∙ ap (mark LeftBrace b.0) (at_spread.0
            ∙ ap (mark Spread s.0) (found.spelled ∙ ap (yield e.0) (at_close.0 ∙ ap (mark RightBrace c.0) others.spelled)));
        counted = omega (arith, at_brace.1, at_spread.1, found.counted, at_close.1, others.counted);
        each = (found.each, others.each);
        is = (found.is, others.is);
        high = omega (arith, found.high, others.high);
        nested = omega (arith, found.nested, others.nested);
        inner = omega (arith, found.inner, others.inner);
      })))))
  attribute_found more goes p None is None begun x h =
      subst (λ (y : Attributes × Place). FoundAttributes toll fits d w p y.0 y.1) (same_Some (no_attributes, p) x h)
      (record {
        spelled = refl;
        counted = omega arith;
        each = tt;
        is = tt;
        high = omega arith;
        nested = omega arith;
        inner = omega
            arith;
      })

  attributes_by_found : (n : ℕ) → SoundAttributes toll fits d w (attributes_by n f w)
  unfolding attributes_by
  attributes_by_found zero p x h = cc
  attributes_by_found (suc n) p x h = attribute_found (attributes_by n f w) (attributes_by_found n) p (name_of p) refl
      (skip LeftBrace p) refl x h

  pub attributes_found : SoundAttributes toll fits d w (attributes_of f w)
  unfolding attributes_of
  attributes_found p x h = attributes_by_found (suc (size p.tokens)) p x h
