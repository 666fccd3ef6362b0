-- The numbers that bound rows, links, attributes and argument_names have no say: equations without them, for the loops
-- of a program.
use Rattle.std.proofs.Common.{◌≡◌, ℕ, zero, suc, ◌<◌, ◌≤◌, Bool, cond, Some, None, refl, sym, ap, subst, ◌∙◌, arith, lt_trans}
use Rattle.tera_base.specs.declared.utils.Span.{Span}
use Rattle.tera_lexer.specs.code.Cursors.{size}
use Rattle.tera_grammar.specs.expressions.Marks.{LeftBrace, RightBrace, Comma, Dot, Spread, Assign, mark}
use Rattle.tera_grammar.specs.expressions.Concrete.{Name, Quote, Dotted, dots, Kind, Tree, Links, field, item, Row, then, Element, Attributes, bare, quoted, valued, spreading, name_yield, joint_yield, bracket_yield, closing, yield, sub_yield}
use Rattle.tera_grammar.specs.expressions.Conditions.{is_field_of}
use Rattle.tera_grammar.specs.Options.{◌>>=◌}
use Rattle.tera_grammar.specs.expressions.Reading.Front.{Place, at, Link, no_link, jointed, bracketed, called, link_of}
use Rattle.tera_grammar.proofs.plain.expressions.Reading.Front.{Reads, skip, bump, name_of, quote_at}
use Rattle.tera_grammar.specs.expressions.Reading.Rooms.{Room}
use Rattle.tera_grammar.proofs.plain.expressions.Reading.Bracketed.{Reader, sub_of, element_of, comma_at, after_element, row_at, row_by, row_of, links_at, links_by, links_of, dotted_at, dotted_by, dotted_of, value_at, named_at, attribute_at, attributes_by, attributes_of}
use Rattle.tera_grammar.proofs.expressions.Fronts.{skip_ok, bump_ok, name_of_ok, quote_at_ok, LinkOf, LinkOf-link_of}
use Rattle.tera_grammar.proofs.expressions.Longer.{longer_joint, longer_bracket, longer, longer_sub, longer_element}
use Rattle.tera_grammar.proofs.expressions.FoundRows.{Sound, element_found}
use Rattle.tera_grammar.proofs.expressions.FoundParts.{SoundTree, sub_found}
use Rattle.tera_grammar.proofs.expressions.Unrolled.{bind_both}

-- what each loop goes on with is shorter
module _ (toll : Tree → ℕ) (fits : Room → Tree → Type 0) (d : ℕ) (f : Reader) (sound : Sound toll fits d f) (w : Room) where
  comma_agree : (k : Kind) (more other : Place → Reads Row) (x : Element) (p : Place) (o : Reads Span) → skip Comma p ≡ o
      → ((q : Place) → size q.tokens < size p.tokens → more q ≡ other q) → comma_at more k x p o ≡ comma_at other k x p o
  comma_agree k more other x p None is same = refl
  comma_agree k more other x p (Some y) is same =
      let at_comma = skip_ok Comma p y is in
      let less : size y.1.tokens < size p.tokens = subst (λ v. size y.1.tokens < size v) (sym at_comma.0) (omega arith) in
      ap (λ o. o >>= λ r. Some (then x y.0 r.0, r.1)) (same y.1 less)

  after_agree : (k : Kind) (more other : Place → Reads Row) (x : Element) (p : Place)
      → ((q : Place) → size q.tokens < size p.tokens → more q ≡ other q)
      → after_element more k x p ≡ after_element other k x p
  unfolding after_element
  after_agree k more other x p same = comma_agree k more other x p (skip Comma p) refl same

  row_at_agree : (k : Kind) (more other : Place → Reads Row) (p : Place) (o : Reads Span)
      → ((q : Place) → size q.tokens < size p.tokens → more q ≡ other q)
      → row_at more f w k p o ≡ row_at other f w k p o
  row_at_agree k more other p (Some y) same = refl
  row_at_agree k more other p None same =
      bind_both (element_of f w k p) _ _ (λ x read.
      let one = element_found toll fits d f sound w k p x read in
      let less : size x.1.tokens < size p.tokens = subst (λ v. size x.1.tokens < size v) (sym one.spelled)
      (longer_element x.0 x.1.tokens) in
      after_agree k more other x.0 x.1 (λ q h. same q (lt_trans h less)))

  row_agree : (n m : ℕ) (k : Kind) (p : Place) → size p.tokens < n → size p.tokens < m → row_by n f w k p ≡ row_by m f w k p
  unfolding row_by
  row_agree zero m k p hn hm = absurd (omega arith)
  row_agree (suc n) zero k p hn hm = absurd (omega arith)
  row_agree (suc n) (suc m) k p hn hm = row_at_agree k (row_by n f w k) (row_by m f w k) p (skip (closing k) p)
      (λ q h. row_agree n m k q (omega arith) (omega arith))

  pub row_steps : (k : Kind) (p : Place) → row_of f w k p ≡ row_at (row_of f w k) f w k p (skip (closing k) p)
  unfolding row_of row_by
  row_steps k p =
      row_at_agree k (row_by (size p.tokens) f w k) (row_of f w k) p (skip (closing k) p)
      (λ q h. row_agree (size p.tokens) (suc (size q.tokens)) k q h (omega arith))

  value_agree : (more other : Place → Reads Attributes) (n : Name) (s : Span) (p : Place) (o : Reads (Quote × Span))
      → quote_at p ≡ o
      → ((q : Place) → size q.tokens < size p.tokens → more q ≡ other q) → value_at more f w n s p o ≡ value_at other f w n s p o
  value_agree more other n s p (Some l) is same =
      let at_text = quote_at_ok p l is in
      let less : size l.1.tokens < size p.tokens = subst (λ v. size l.1.tokens < size v) (sym at_text.0) (omega arith) in
      ap (λ o. o >>= λ r. Some (quoted n s l.0.0 l.0.1 r.0, r.1)) (same l.1 less)
  value_agree more other n s p None is same =
      bind_both (skip LeftBrace p) _ _ (λ b braced. bind_both (f w 0 b.1) _ _
      (λ e read. bind_both (skip RightBrace e.1) _ _ (λ c closed.
      let at_brace = skip_ok LeftBrace p b braced in
      let found = sound w 0 b.1 e read in
      let at_close = skip_ok RightBrace e.1 c closed in
      let all : p.tokens ≡ mark LeftBrace b.0 (yield e.0 (mark RightBrace c.0 c.1.tokens)) = at_brace.0
      ∙ ap (mark LeftBrace b.0) (found.spelled ∙ ap (yield e.0) at_close.0) in
      let long = longer e.0 (mark RightBrace c.0 c.1.tokens) in
      let less : size c.1.tokens < size p.tokens = subst (λ v. size c.1.tokens < size v) (sym all) (omega arith) in
      ap (λ o. o >>= λ r. Some (valued n s b.0 e.0 c.0 r.0, r.1)) (same c.1 less))))

  named_agree : (more other : Place → Reads Attributes) (n : Name) (p : Place) (o : Reads Span) → skip Assign p ≡ o
      → ((q : Place) → size q.tokens ≤ size p.tokens → more q ≡ other q) → named_at more f w n p o ≡ named_at other f w n p o
  named_agree more other n p None is same = ap (λ o. o >>= λ r. Some (bare n r.0, r.1)) (same p (omega arith))
  named_agree more other n p (Some y) is same =
      let at_assign = skip_ok Assign p y is in
      let less : size y.1.tokens < size p.tokens = subst (λ v. size y.1.tokens < size v) (sym at_assign.0) (omega arith) in
      value_agree more other n y.0 y.1 (quote_at y.1) refl (λ q h. same q (omega (arith, h, less)))

  attribute_agree : (more other : Place → Reads Attributes) (p : Place) (o : Reads Name) → name_of p ≡ o → (b : Reads Span)
      → skip LeftBrace p ≡ b
      → ((q : Place) → size q.tokens < size p.tokens → more q ≡ other q)
      → attribute_at more f w p o b ≡ attribute_at other f w p o b
  attribute_agree more other p (Some n) is b begun same =
      let at_name = name_of_ok p n is in
      let less : size n.1.tokens < size p.tokens = subst (λ v. size n.1.tokens < size v) (sym at_name.0) (omega arith) in
      named_agree more other n.0 n.1 (skip Assign n.1) refl (λ q h. same q (omega (arith, h, less)))
  attribute_agree more other p None is (Some b) begun same =
      bind_both (skip Spread b.1) _ _ (λ s spreads. bind_both (f w 0 s.1) _ _
      (λ e read. bind_both (skip RightBrace e.1) _ _ (λ c closed.
      let at_brace = skip_ok LeftBrace p b begun in
      let at_spread = skip_ok Spread b.1 s spreads in
      let found = sound w 0 s.1 e read in
      let at_close = skip_ok RightBrace e.1 c closed in
      let all : p.tokens ≡ mark LeftBrace b.0 (mark Spread s.0 (yield e.0 (mark RightBrace c.0 c.1.tokens))) =
      at_brace.0 ∙ ap (mark LeftBrace b.0) (at_spread.0 ∙ ap (mark Spread s.0) (found.spelled ∙ ap (yield e.0) at_close.0)) in
      let long = longer e.0 (mark RightBrace c.0 c.1.tokens) in
      let less : size c.1.tokens < size p.tokens = subst (λ v. size c.1.tokens < size v) (sym all) (omega arith) in
      ap (λ o. o >>= λ r. Some (spreading b.0 s.0 e.0 c.0 r.0, r.1)) (same c.1 less))))
  attribute_agree more other p None is None begun same = refl

  attributes_agree : (n m : ℕ) (p : Place) → size p.tokens < n → size p.tokens < m → attributes_by n f w p ≡ attributes_by m f w p
  unfolding attributes_by
  attributes_agree zero m p hn hm = absurd (omega arith)
  attributes_agree (suc n) zero p hn hm = absurd (omega arith)
  attributes_agree (suc n) (suc m) p hn hm =
      attribute_agree (attributes_by n f w) (attributes_by m f w) p (name_of p) refl (skip LeftBrace p) refl
      (λ q h. attributes_agree n m q (omega arith) (omega arith))

  pub attributes_steps : (p : Place) → attributes_of f w p ≡ attribute_at (attributes_of f w) f w p (name_of p) (skip LeftBrace p)
  unfolding attributes_of attributes_by
  attributes_steps p =
      attribute_agree (attributes_by (size p.tokens) f w) (attributes_of f w) p (name_of p) refl (skip LeftBrace p) refl
      (λ q h. attributes_agree (size p.tokens) (suc (size q.tokens)) q h (omega arith))

dotted_at_agree : (more other : Place → Reads Dotted) (p : Place) (o : Reads Span) → skip Dot p ≡ o
    → ((q : Place) → size q.tokens < size p.tokens → more q ≡ other q) → dotted_at more p o ≡ dotted_at other p o
dotted_at_agree more other p None is same = refl
dotted_at_agree more other p (Some y) is same =
    bind_both (name_of y.1) _ _ (λ n name.
    let at_dot = skip_ok Dot p y is in
    let at_name = name_of_ok y.1 n name in
    let all : p.tokens ≡ mark Dot y.0 (name_yield n.0 n.1.tokens) = at_dot.0 ∙ ap (mark Dot y.0) at_name.0 in
    let less : size n.1.tokens < size p.tokens = subst (λ v. size n.1.tokens < size v) (sym all) (omega arith) in
    ap (λ o. o >>= λ ds. Some (dots y.0 n.0 ds.0, ds.1)) (same n.1 less))

dotted_agree : (n m : ℕ) (p : Place) → size p.tokens < n → size p.tokens < m → dotted_by n p ≡ dotted_by m p
unfolding dotted_by
dotted_agree zero m p hn hm = absurd (omega arith)
dotted_agree (suc n) zero p hn hm = absurd (omega arith)
dotted_agree (suc n) (suc m) p hn hm = dotted_at_agree (dotted_by n) (dotted_by m) p (skip Dot p) refl
    (λ q h. dotted_agree n m q (omega arith) (omega arith))

pub dotted_steps : (p : Place) → dotted_of p ≡ dotted_at dotted_of p (skip Dot p)
unfolding dotted_of dotted_by
dotted_steps p = dotted_at_agree (dotted_by (size p.tokens)) dotted_of p (skip Dot p) refl
    (λ q h. dotted_agree (size p.tokens) (suc (size q.tokens)) q h (omega arith))

module _ (d : ℕ) (f : Reader) (sound : SoundTree d f) (w : Room) (c : Bool) where
  links_at_agree : (more other : Place → Reads Links) (p : Place) (o : Link) → LinkOf p.tokens o
      → ((q : Place) → size q.tokens < size p.tokens → more q ≡ other q)
      → links_at more f w c p o ≡ links_at other f w c p o
  links_at_agree more other p no_link is same = refl
  links_at_agree more other p called is same = refl
  links_at_agree more other p (jointed j us) is same =
      bind_both (bump (at p.links us)) _ _ (λ q bumped. bind_both (name_of q) _ _ (λ n name.
      let low = bump_ok (at p.links us) q bumped in
      let at_name = name_of_ok q n name in
      let all : p.tokens ≡ joint_yield j (name_yield n.0 n.1.tokens) = is ∙ ap (joint_yield j) (low.1 ∙ at_name.0) in
      let long = longer_joint j (name_yield n.0 n.1.tokens) in
      let less : size n.1.tokens < size p.tokens = subst (λ v. size n.1.tokens < size v) (sym all) (omega arith) in
      ap (λ o. cond (is_field_of c n.0.text) (o >>= λ ls. Some (field j n.0 ls.0, ls.1)) None) (same n.1 less)))
  links_at_agree more other p (bracketed b us) is same =
      bind_both (bump (at p.links us)) _ _ (λ q bumped. bind_both (sub_of f w q) _ _ (λ s inside.
      let low = bump_ok (at p.links us) q bumped in
      let (n, room_is, found) = sub_found d f sound w q s inside in
      let all : p.tokens ≡ bracket_yield b (sub_yield s.0 s.1.tokens) = is ∙ ap (bracket_yield b) (low.1 ∙ found.spelled) in
      let long = longer_bracket b (sub_yield s.0 s.1.tokens) in
      let long_too = longer_sub s.0 s.1.tokens in
      let less : size s.1.tokens < size p.tokens = subst (λ v. size s.1.tokens < size v) (sym all) (omega arith) in
      ap (λ o. o >>= λ ls. Some (item b s.0 ls.0, ls.1)) (same s.1 less)))

  links_agree : (n m : ℕ) (p : Place) → size p.tokens < n → size p.tokens < m → links_by n f w c p ≡ links_by m f w c p
  unfolding links_by
  links_agree zero m p hn hm = absurd (omega arith)
  links_agree (suc n) zero p hn hm = absurd (omega arith)
  links_agree (suc n) (suc m) p hn hm =
      links_at_agree (links_by n f w c) (links_by m f w c) p (link_of p.tokens) (LinkOf-link_of p.tokens)
      (λ q h. links_agree n m q (omega arith) (omega arith))

  pub links_steps : (p : Place) → links_of f w c p ≡ links_at (links_of f w c) f w c p (link_of p.tokens)
  unfolding links_of links_by
  links_steps p =
      links_at_agree (links_by (size p.tokens) f w c) (links_of f w c) p (link_of p.tokens) (LinkOf-link_of p.tokens)
      (λ q h. links_agree (size p.tokens) (suc (size q.tokens)) q h (omega arith))
