-- What the reading of brackets, links and arguments has found, inside of one expression.
use Rattle.std.proofs.Common.{◌≡◌, ℕ, zero, suc, ◌+◌, ◌≤◌, Bool, Some, None, refl, sym, ap, subst, ◌∙◌, arith}
use Rattle.std.proofs.lemmas.Option.{same_Some}
use Rattle.tera_base.specs.declared.utils.Span.{Span}
use Rattle.tera_lexer.specs.code.Cursors.{size}
use Rattle.tera_grammar.specs.expressions.Marks.{Mark, LeftParen, RightBracket, Colon, Dot, mark}
use Rattle.tera_grammar.specs.expressions.Concrete.{Dotted, no_dots, dots, Tree, Links, no_links, field, item, Sub, index, slice, Part, absent, present, Extra, no_extra, extra, Args, no_args, args, name_yield, joint_yield, bracket_yield, dotted_yield, yield, links_yield, sub_yield, part_yield, extra_yield, args_yield}
use Rattle.tera_grammar.specs.expressions.Conditions.{is_field_of, AreLinks, IsSub, IsPart, IsExtra, AreArgs}
use Rattle.tera_grammar.specs.expressions.Measures.{links_measure, sub_measure, part_measure, extra_measure, args_measure, openings, subscripts, arrays, links, linking}
use Rattle.tera_grammar.specs.Options.{◌>>=◌}
use Rattle.tera_grammar.specs.expressions.Reading.Front.{Place, at, lowered, Link, no_link, jointed, bracketed, called, link_of}
use Rattle.tera_grammar.proofs.plain.expressions.Reading.Front.{Reads, skip}
use Rattle.tera_grammar.specs.expressions.Reading.Rooms.{Room, room, inside_subscript, inside_array}
use Rattle.tera_grammar.proofs.plain.expressions.Reading.Bracketed.{Reader, extra_at, extra_of, part_at, part_of, slice_of, index_at, sub_at, sub_of, args_at, args_of, links_at, links_by, links_of, dotted_at, dotted_by, dotted_of}
use Rattle.tera_grammar.proofs.Options.{bound}
use Rattle.tera_grammar.proofs.expressions.Fronts.{holds_ok, skip_ok, skip_none, lowered_ok, bump_ok, name_of_ok, LinkOf, LinkOf-link_of}
use Rattle.tera_grammar.proofs.expressions.Quiet.{QuietArgs}
use Rattle.tera_grammar.proofs.expressions.FoundRows.{Sound, row_toll_links, arguments_found}

-- nothing more is known of a value
abbrev pub Any : Room → Tree → Type 0
Any w t = Unit {0}

abbrev pub SoundTree : ℕ → Reader → Type 0
SoundTree d f = Sound links Any d f

pub record FoundExtra (d : ℕ) (w : Room) (c : Mark) (m : ℕ) (p : Place) (x : Extra) (q : Place) : Type 0 where
  pub spelled : p.tokens ≡ extra_yield c x q.tokens
  pub counted : p.links ≡ extra_measure linking x + q.links
  pub is : IsExtra w.in_loop m x
  pub high : extra_measure openings x ≤ d
  pub nested : extra_measure subscripts x ≤ w.subscripts
  pub inner : extra_measure arrays x ≤ w.arrays

pub record FoundPart (d : ℕ) (w : Room) (p : Place) (x : Part) (q : Place) : Type 0 where
  pub spelled : p.tokens ≡ part_yield x q.tokens
  pub counted : p.links ≡ part_measure linking x + q.links
  pub is : IsPart w.in_loop x
  pub high : part_measure openings x ≤ d
  pub nested : part_measure subscripts x ≤ w.subscripts
  pub inner : part_measure arrays x ≤ w.arrays

pub record FoundSub (d : ℕ) (w : Room) (p : Place) (x : Sub) (q : Place) : Type 0 where
  pub spelled : p.tokens ≡ sub_yield x q.tokens
  pub counted : p.links ≡ sub_measure linking x + q.links
  pub is : IsSub w.in_loop x
  pub high : sub_measure openings x ≤ d
  pub nested : sub_measure subscripts x ≤ w.subscripts
  pub inner : sub_measure arrays x ≤ w.arrays

pub record FoundArgs (d : ℕ) (w : Room) (p : Place) (x : Args) (q : Place) : Type 0 where
  pub spelled : p.tokens ≡ args_yield x q.tokens
  pub counted : p.links ≡ args_measure linking x + q.links
  pub is : AreArgs w.in_loop x
  pub quiet : QuietArgs x q.tokens
  pub high : args_measure openings x ≤ d
  pub nested : args_measure subscripts x ≤ w.subscripts
  pub inner : args_measure arrays x ≤ w.arrays

pub record FoundLinks (d : ℕ) (w : Room) (c : Bool) (p : Place) (x : Links) (q : Place) : Type 0 where
  pub spelled : p.tokens ≡ links_yield x q.tokens
  pub counted : p.links ≡ links_measure linking x + q.links
  pub is : AreLinks w.in_loop c x
  pub quiet : link_of q.tokens ≡ no_link
  pub high : links_measure openings x ≤ d
  pub nested : links_measure subscripts x ≤ w.subscripts
  pub inner : links_measure arrays x ≤ w.arrays

pub inside_subscript_ok : (w v : Room) → inside_subscript w ≡ Some v → (s : ℕ) × (w.subscripts ≡ suc s)
    × (room w.in_loop s w.arrays ≡ v)
unfolding inside_subscript
inside_subscript_ok w v h = bound (lowered w.subscripts) (λ s. Some (room w.in_loop s w.arrays)) v h
    (λ s low made. (s, lowered_ok w.subscripts s low, same_Some _ _ made))

pub inside_array_ok : (w v : Room) → inside_array w ≡ Some v → (a : ℕ) × (w.arrays ≡ suc a) × (room w.in_loop w.subscripts a ≡ v)
unfolding inside_array
inside_array_ok w v h = bound (lowered w.arrays) (λ a. Some (room w.in_loop w.subscripts a)) v h
    (λ a low made. (a, lowered_ok w.arrays a low, same_Some _ _ made))

-- the further names of a component
pub record FoundDotted (p : Place) (x : Dotted) (q : Place) : Type 0 where
  pub spelled : p.tokens ≡ dotted_yield x q.tokens
  pub counted : p.links ≡ q.links

dotted_at_found : (more : Place → Reads Dotted) → ((p : Place) (x : Dotted × Place) → more p ≡ Some x → FoundDotted p x.0 x.1)
    → (p : Place)
    → (o : Reads Span) → skip Dot p ≡ o → (x : Dotted × Place) → dotted_at more p o ≡ Some x → FoundDotted p x.0 x.1
dotted_at_found more goes p None is x h =
    subst (λ (y : Dotted × Place). FoundDotted p y.0 y.1) (same_Some (no_dots, p) x h) (record { spelled = refl; counted = refl })
dotted_at_found more goes p (Some y) is x h =
    bound _ _ _ h (λ n name rest. bound _ _ _ rest (λ ds read made.
    let at_dot = skip_ok Dot p y is in
    let at_name = name_of_ok y.1 n name in
    let others = goes n.1 ds read in
    subst (λ (z : Dotted × Place). FoundDotted p z.0 z.1) (same_Some (dots y.0 n.0 ds.0, ds.1) x made) (record {
      spelled = at_dot.0 ∙ ap (mark Dot y.0) (at_name.0 ∙ ap (name_yield n.0) others.spelled);
      counted = at_dot.1 ∙ at_name.1 ∙ others.counted;
    })))

dotted_by_found : (n : ℕ) (p : Place) (x : Dotted × Place) → dotted_by n p ≡ Some x → FoundDotted p x.0 x.1
unfolding dotted_by
dotted_by_found zero p x h = cc
dotted_by_found (suc n) p x h = dotted_at_found (dotted_by n) (dotted_by_found n) p (skip Dot p) refl x h

pub dotted_found : (p : Place) (x : Dotted × Place) → dotted_of p ≡ Some x → FoundDotted p x.0 x.1
unfolding dotted_of
dotted_found p x h = dotted_by_found (suc (size p.tokens)) p x h

module _ (d : ℕ) (f : Reader) (sound : SoundTree d f) where
  extra_at_found : (w : Room) (c : Mark) (m : ℕ) (p : Place) (o : Reads Span) → skip c p ≡ o → (x : Extra × Place)
      → extra_at f w m p o ≡ Some x → FoundExtra d w c m p x.0 x.1
  extra_at_found w c m p None is x h =
      subst (λ (y : Extra × Place). FoundExtra d w c m p y.0 y.1) (same_Some (no_extra, p) x h)
      (record { spelled = refl; counted = omega arith; is = tt; high = omega arith; nested = omega arith; inner = omega arith })
  extra_at_found w c m p (Some y) is x h =
      bound _ _ _ h (λ e read made.
      let at_mark = skip_ok c p y is in
      let found = sound w m y.1 e read in
      subst (λ (z : Extra × Place). FoundExtra d w c m p z.0 z.1) (same_Some (extra y.0 e.0, e.1) x made) (record {
        spelled = at_mark.0 ∙ ap (mark c y.0) found.spelled;
        counted = omega (arith, at_mark.1, found.counted);
        is = (found.left, found.is);
        high = omega (arith, found.high);
        nested = omega (arith, found.nested);
        inner = omega (arith, found.inner);
      }))

  pub extra_found : (w : Room) (c : Mark) (m : ℕ) (p : Place) (x : Extra × Place) → extra_of f w c m p ≡ Some x
      → FoundExtra d w c m p x.0 x.1
  unfolding extra_of
  extra_found w c m p x h = extra_at_found w c m p (skip c p) refl x h

  absent_found : (w : Room) (p : Place) → FoundPart d w p absent p
  absent_found w p = record {
    spelled = refl;
    counted = omega arith;
    is = tt;
    high = omega arith;
    nested = omega arith;
    inner = omega arith;
  }

  present_found : (w : Room) (p : Place) (e : Tree × Place) → f w 0 p ≡ Some e → FoundPart d w p (present e.0) e.1
  present_found w p e read =
      let found = sound w 0 p e read in
      record {
        spelled = found.spelled;
        counted = found.counted;
        is = found.is;
        high = omega (arith, found.high);
        nested = omega
            (arith, found.nested);
        inner = omega (arith, found.inner);
      }

  part_at_found : (w : Room) (p : Place) (a b : Reads Span) (x : Part × Place) → part_at f w p a b ≡ Some x
      → FoundPart d w p x.0 x.1
  part_at_found w p (Some y) b x h = subst (λ (z : Part × Place). FoundPart d w p z.0 z.1) (same_Some (absent, p) x h)
      (absent_found w p)
  part_at_found w p None (Some y) x h = subst (λ (z : Part × Place). FoundPart d w p z.0 z.1) (same_Some (absent, p) x h)
      (absent_found w p)
  part_at_found w p None None x h =
      bound _ _ _ h (λ e read made. subst (λ (z : Part × Place). FoundPart d w p z.0 z.1) (same_Some (present e.0, e.1) x made)
      (present_found w p e read))

  part_found : (w : Room) (p : Place) (x : Part × Place) → part_of f w p ≡ Some x → FoundPart d w p x.0 x.1
  unfolding part_of
  part_found w p x h = part_at_found w p (skip Colon p) (skip RightBracket p) x h

  slice_found : (w : Room) (p q : Place) (a : Part) (s : Span) (r : Place) → FoundPart d w p a q → q.tokens ≡ mark Colon s r.tokens
      → q.links ≡ r.links
      → (x : Sub × Place) → slice_of f w a s r ≡ Some x → FoundSub d w p x.0 x.1
  unfolding slice_of
  slice_found w p q a s r first at_colon kept x h =
      bound _ _ _ h (λ b read one. bound _ _ _ one (λ t step two. bound _ _ _ two (λ c closed made.
      let end = part_found w r b read in
      let third = extra_found w Colon 0 b.1 t step in
      let at_close = skip_ok RightBracket t.1 c closed in
      subst (λ (z : Sub × Place). FoundSub d w p z.0 z.1) (same_Some (slice a s b.0 t.0 c.0, c.1) x made) (record {
        spelled = first.spelled ∙ ap (part_yield a) (at_colon
            ∙ ap (mark Colon s) (end.spelled ∙ ap (part_yield b.0) (third.spelled ∙ ap (extra_yield Colon t.0) at_close.0)));
        counted = omega (arith, first.counted, kept, end.counted, third.counted, at_close.1);
        is = (first.is, end.is, third.is);
        high = omega (arith, first.high, end.high, third.high);
        nested = omega (arith, first.nested, end.nested, third.nested);
        inner = omega (arith, first.inner, end.inner, third.inner);
      }))))

  index_at_found : (w : Room) (p : Place) (e : Tree × Place) → f w 0 p ≡ Some e → (o : Reads Span) → skip Colon e.1 ≡ o
      → (x : Sub × Place) → index_at f w e.0 e.1 o ≡ Some x → FoundSub d w p x.0 x.1
  index_at_found w p e read (Some y) is x h =
      let at_colon = skip_ok Colon e.1 y is in
      slice_found w p e.1 (present e.0) y.0 y.1 (present_found w p e read) at_colon.0 at_colon.1 x h
  index_at_found w p e read None is x h =
      bound _ _ _ h (λ c closed made.
      let found = sound w 0 p e read in
      let at_close = skip_ok RightBracket e.1 c closed in
      subst (λ (z : Sub × Place). FoundSub d w p z.0 z.1) (same_Some (index e.0 c.0, c.1) x made) (record {
        spelled = found.spelled ∙ ap (yield e.0) at_close.0;
        counted = omega (arith, found.counted, at_close.1);
        is = found.is;
        high = omega (arith, found.high);
        nested = omega (arith, found.nested);
        inner = omega (arith, found.inner);
      }))

  sub_at_found : (w : Room) (p : Place) (o : Reads Span) → skip Colon p ≡ o → (x : Sub × Place) → sub_at f w p o ≡ Some x
      → FoundSub d w p x.0 x.1
  sub_at_found w p (Some y) is x h =
      let at_colon = skip_ok Colon p y is in
      slice_found w p p absent y.0 y.1 (absent_found w p) at_colon.0 at_colon.1 x h
  sub_at_found w p None is x h = bound _ _ _ h (λ e read more. index_at_found w p e read (skip Colon e.1) refl x more)

  pub sub_found : (w : Room) (p : Place) (x : Sub × Place) → sub_of f w p ≡ Some x → (s : ℕ) × (w.subscripts ≡ suc s)
      × FoundSub d (room w.in_loop s w.arrays) p x.0 x.1
  unfolding sub_of
  sub_found w p x h =
      bound _ _ _ h (λ v inside more.
      let (s, low, is) = inside_subscript_ok w v inside in
      (s, low, subst (λ u. FoundSub d u p x.0 x.1) (sym is) (sub_at_found v p (skip Colon p) refl x more)))

  args_at_found : (w : Room) (p : Place) (o : Reads Span) → skip LeftParen p ≡ o → (x : Args × Place) → args_at f w p o ≡ Some x
      → FoundArgs d w p x.0 x.1
  args_at_found w p None is x h =
      subst (λ (y : Args × Place). FoundArgs d w p y.0 y.1) (same_Some (no_args, p) x h)
      (record {
        spelled = refl;
        counted = omega arith;
        is = tt;
        quiet = skip_none LeftParen p is;
        high = omega arith;
        nested = omega arith;
        inner = omega arith;
      })
  args_at_found w p (Some y) is x h =
      bound _ _ _ h (λ r read made.
      let at_open = skip_ok LeftParen p y is in
      let (found, distinct) = arguments_found links Any d f sound w y.1 r read in
      subst (λ (z : Args × Place). FoundArgs d w p z.0 z.1) (same_Some (args y.0 r.0, r.1) x made) (record {
        spelled = at_open.0 ∙ ap (mark LeftParen y.0) found.spelled;
        counted = omega (arith, at_open.1, found.counted, row_toll_links r.0);
        is = (found.is, distinct);
        quiet = tt;
        high = found.high;
        nested = found.nested;
        inner = found.inner;
      }))

  pub args_found : (w : Room) (p : Place) (x : Args × Place) → args_of f w p ≡ Some x → FoundArgs d w p x.0 x.1
  unfolding args_of
  args_found w p x h = args_at_found w p (skip LeftParen p) refl x h

  links_at_found : (w : Room) (c : Bool) (more : Place → Reads Links)
      → ((p : Place) (x : Links × Place) → more p ≡ Some x → FoundLinks d w c p x.0 x.1) → (p : Place)
      → (o : Link) → link_of p.tokens ≡ o → LinkOf p.tokens o → (x : Links × Place) → links_at more f w c p o ≡ Some x
      → FoundLinks d w c p x.0 x.1
  links_at_found w c more goes p no_link none is x h =
      subst (λ (y : Links × Place). FoundLinks d w c p y.0 y.1) (same_Some (no_links, p) x h)
      (record {
        spelled = refl;
        counted = omega arith;
        is = tt;
        quiet = none;
        high = omega arith;
        nested = omega arith;
        inner = omega arith;
      })
  links_at_found w c more goes p called some is x h = cc
  links_at_found w c more goes p (jointed j us) some is x h =
      bound _ _ _ h (λ q bumped one. bound _ _ _ one (λ n name two.
      let (fits, three) = holds_ok (is_field_of c n.0.text) (more n.1 >>= λ ls. Some (field j n.0 ls.0, ls.1)) x two in
      bound _ _ _ three (λ ls read made.
      let low = bump_ok (at p.links us) q bumped in
      let at_name = name_of_ok q n name in
      let others = goes n.1 ls read in
      subst (λ (y : Links × Place). FoundLinks d w c p y.0 y.1) (same_Some (field j n.0 ls.0, ls.1) x made) (record {
        spelled = is ∙ ap (joint_yield j) (low.1 ∙ at_name.0 ∙ ap (name_yield n.0) others.spelled);
        counted = omega (arith, low.0, at_name.1, others.counted);
        is = (fits, others.is);
        quiet = others.quiet;
        high = others.high;
        nested = others.nested;
        inner = others.inner;
      }))))
  links_at_found w c more goes p (bracketed b us) some is x h =
      bound _ _ _ h (λ q bumped one. bound _ _ _ one (λ s inside two. bound _ _ _ two (λ ls read made.
      let low = bump_ok (at p.links us) q bumped in
      let (n, room_is, found) = sub_found w q s inside in
      let others = goes s.1 ls read in
      subst (λ (y : Links × Place). FoundLinks d w c p y.0 y.1) (same_Some (item b s.0 ls.0, ls.1) x made) (record {
        spelled = is ∙ ap (bracket_yield b) (low.1 ∙ found.spelled ∙ ap (sub_yield s.0) others.spelled);
        counted = omega (arith, low.0, found.counted, others.counted);
        is = (found.is, others.is);
        quiet = others.quiet;
        high = omega (arith, found.high, others.high);
        nested = omega (arith, room_is, found.nested, others.nested);
        inner = omega (arith, found.inner, others.inner);
      }))))

  links_by_found : (n : ℕ) (w : Room) (c : Bool) (p : Place) (x : Links × Place) → links_by n f w c p ≡ Some x
      → FoundLinks d w c p x.0 x.1
  unfolding links_by
  links_by_found zero w c p x h = cc
  links_by_found (suc n) w c p x h = links_at_found w c (links_by n f w c) (links_by_found n w c) p (link_of p.tokens) refl
      (LinkOf-link_of p.tokens) x h

  pub links_found : (w : Room) (c : Bool) (p : Place) (x : Links × Place) → links_of f w c p ≡ Some x → FoundLinks d w c p x.0 x.1
  unfolding links_of
  links_found w c p x h = links_by_found (suc (size p.tokens)) w c p x h
