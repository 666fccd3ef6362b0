-- What the reading of an operand's head has found.
use Rattle.std.proofs.Common.{◌≡◌, ℕ, suc, ◌+◌, ◌≤◌, true, false, cond, [], Some, None, refl, sym, ap, subst, ◌∙◌, ⊎_elim, arith, codes}
use Rattle.std.proofs.lemmas.Option.{same_Some}
use Rattle.std.proofs.lemmas.Slice.Eq.{bytes_eq-Decides}
use Rattle.tera_base.specs.declared.utils.Span.{Span}
use Rattle.tera_lexer.specs.grammar.Tokens as toks
use Rattle.tera_lexer.specs.grammar.Tokens.{Tok, Items, Token, Ident, Symbol}
use Rattle.tera_grammar.specs.expressions.Operators.{Div, Minus, LessThan, GreaterThan, In}
use Rattle.tera_grammar.specs.expressions.Marks.{Mark, LeftParen, RightParen, LeftBracket, RightBracket, LeftBrace, Comma, If, For, Operation, mark}
use Rattle.tera_grammar.specs.expressions.Concrete.{Name, Simple, Escaped, Lit, Number, Quoted, Truth, Sign, Negative, Negates, Second, no_second, second, of_items, of_entries, Tree, Atomic, Prefix, Suffixed, Infix, Literal, Null, Chain, Call, Paren, Array, Comprehension, Map, Component, Row, ended, Element, plain, spread, pair, argument, literal_token, name_yield, sign_yield, second_yield, dotted_yield, yield, extra_yield, attributes_yield}
use Rattle.tera_grammar.specs.expressions.Powers.{sign_power, left_spine, BeginsPlain}
use Rattle.tera_grammar.specs.Words.{is_none, is_not, is_reserved}
use Rattle.tera_grammar.specs.expressions.Conditions.{IsFirst, AreVariables, IsExpression}
use Rattle.tera_grammar.specs.expressions.Measures.{measure, subscripts, arrays, height, links}
use Rattle.tera_grammar.specs.expressions.Output.{of_loop}
use Rattle.tera_grammar.specs.Options.{◌>>=◌}
use Rattle.tera_grammar.specs.expressions.Reading.Front.{Place, at, among, head_marks, head_mark, begins_sign}
use Rattle.tera_grammar.proofs.plain.expressions.Reading.Front.{Reads, skip}
use Rattle.tera_grammar.specs.expressions.Reading.Rooms.{Room, room}
use Rattle.tera_grammar.proofs.plain.expressions.Reading.Bracketed.{Reader, row_of}
use Rattle.tera_grammar.proofs.plain.expressions.Reading.Atoms.{prefix_of, paren_of, second_at, variables_of, comprehension_of, items_from, for_at, array_from, array_at, array_of, map_of, component_of, called_at, chain_of, word_head, mark_head, head_token, head_in, head_of}
use Rattle.tera_grammar.proofs.Options.{bound}
use Rattle.tera_grammar.proofs.expressions.Fronts.{cond_ok, fails_ok, among_is, skip_ok, name_of_ok}
use Rattle.tera_grammar.proofs.expressions.Quiet.{Quiet}
use Rattle.tera_grammar.proofs.expressions.FoundRows.{row_toll_links, attributes_toll_links, FoundElement, FoundRow, element_found, after_found, ended_found, row_found, arguments_found, attributes_found}
use Rattle.tera_grammar.proofs.expressions.FoundParts.{Any, SoundTree, inside_array_ok, dotted_found, extra_found, links_found}

pub record FoundHead (d : ℕ) (w : Room) (p : Place) (t : Tree) (q : Place) : Type 0 where
  pub spelled : p.tokens ≡ yield t q.tokens
  pub counted : p.links ≡ links t + q.links
  pub is : IsExpression w.in_loop t
  pub left : left_spine t ≡ []
  pub quiet : Quiet t q.tokens
  pub high : height t ≤ suc d
  pub nested : measure subscripts t ≤ w.subscripts
  pub inner : measure arrays t ≤ w.arrays

plain_from : (t : Tree) (r : Items) → begins_sign (yield t r) ≡ false → BeginsPlain t
unfolding begins_sign
plain_from (Atomic a) r h = tt
plain_from (Prefix (Negative s) e) r h = cc
plain_from (Prefix (Negates s) e) r h = cc
plain_from (Suffixed a s) r h = plain_from a _ h
plain_from (Infix a o b) r h = plain_from a _ h

second_found : (n : Name) (p : Place) (o : Reads Span) → skip Comma p ≡ o → is_reserved n.text ≡ false
    → (x : (Name × Second) × Place) → second_at n p o ≡ Some x
    → (name_yield n p.tokens ≡ name_yield x.0.0 (second_yield x.0.1 x.1.tokens)) × (p.links ≡ x.1.links) × AreVariables x.0.0 x.0.1
second_found n p None is free x h =
    let e = same_Some ((n, no_second), p) x h in
    subst (λ (y : (Name × Second) × Place). (name_yield n p.tokens ≡ name_yield y.0.0 (second_yield y.0.1 y.1.tokens))
    × (p.links ≡ y.1.links) × AreVariables y.0.0 y.0.1) e (refl, refl, free)
second_found n p (Some s) is free x h =
    bound _ _ _ h (λ m name more.
    let (free_too, made) = fails_ok (is_reserved m.0.text) (Some ((n, second s.0 m.0), m.1)) x more in
    let at_comma = skip_ok Comma p s is in
    let at_name = name_of_ok s.1 m name in
    subst (λ (y : (Name × Second) × Place). (name_yield n p.tokens ≡ name_yield y.0.0 (second_yield y.0.1 y.1.tokens))
    × (p.links ≡ y.1.links) × AreVariables y.0.0 y.0.1)
    (same_Some ((n, second s.0 m.0), m.1) x made)
    (ap (name_yield n) (at_comma.0 ∙ ap (mark Comma s.0) at_name.0), at_comma.1 ∙ at_name.1, (free, free_too)))

pub variables_found : (p : Place) (x : (Name × Second) × Place) → variables_of p ≡ Some x
    → (p.tokens ≡ name_yield x.0.0 (second_yield x.0.1 x.1.tokens)) × (p.links ≡ x.1.links) × AreVariables x.0.0 x.0.1
unfolding variables_of
variables_found p x h =
    bound _ _ _ h (λ n name more.
    let (free, rest) = fails_ok (is_reserved n.0.text) (second_at n.0 n.1 (skip Comma n.1)) x more in
    let at_name = name_of_ok p n name in
    let found = second_found n.0 n.1 (skip Comma n.1) refl free x rest in
    (at_name.0 ∙ found.0, at_name.1 ∙ found.1, found.2))

module _ (d : ℕ) (f : Reader) (sound : SoundTree d f) (w : Room) where
  prefix_found : (s : Sign) (p : Place) (x : Tree × Place) → prefix_of f w s p ≡ Some x
      → FoundHead d w (at p.links (sign_yield s p.tokens)) x.0 x.1
  unfolding prefix_of
  prefix_found s p x h =
      let (plainly_on, more) = fails_ok (begins_sign p.tokens) (f w (sign_power s) p >>= λ e. Some (Prefix s e.0, e.1)) x h in
      bound _ _ _ more (λ e read made.
      let found = sound w (sign_power s) p e read in
      subst (λ (y : Tree × Place). FoundHead d w (at p.links (sign_yield s p.tokens)) y.0 y.1)
      (same_Some (Prefix s e.0, e.1) x made) (record {
        spelled = ap (sign_yield s) found.spelled;
        counted = found.counted;
        is = (found.left, plain_from e.0 e.1.tokens (subst (λ v. begins_sign v ≡ false) found.spelled plainly_on), found.is);
        left = refl;
        quiet = (found.stops, found.quiet);
        high = omega (arith, found.high);
        nested = omega (arith, found.nested);
        inner = omega (arith, found.inner);
      }))

  paren_found : (s : Span) (p : Place) (x : Tree × Place) → paren_of f w s p ≡ Some x
      → FoundHead d w (at p.links (mark LeftParen s p.tokens)) x.0 x.1
  unfolding paren_of
  paren_found s p x h =
      bound _ _ _ h (λ e read more. bound _ _ _ more (λ c closed made.
      let found = sound w 0 p e read in
      let at_close = skip_ok RightParen e.1 c closed in
      subst (λ (y : Tree × Place). FoundHead d w (at p.links (mark LeftParen s p.tokens)) y.0 y.1)
      (same_Some (Atomic (Paren s e.0 c.0), c.1) x made) (record {
        spelled = ap (mark LeftParen s) (found.spelled ∙ ap (yield e.0) at_close.0);
        counted = omega (arith, found.counted, at_close.1);
        is = found.is;
        left = refl;
        quiet = tt;
        high = omega (arith, found.high);
        nested = omega (arith, found.nested);
        inner = omega (arith, found.inner);
      })))

  -- the room inside of an array
  module _ (a : ℕ) (low : w.arrays ≡ suc a) (s : Span) (p : Place) where
    array_row_found : (r : Row) (q : Place) → FoundRow links Any d (room w.in_loop w.subscripts a) of_items p r q
        → FoundHead d w (at p.links (mark LeftBracket s p.tokens)) (Atomic (Array s r)) q
    array_row_found r q found = record {
      spelled = ap (mark LeftBracket s) found.spelled;
      counted = omega (arith, found.counted, row_toll_links r);
      is = found.is;
      left = refl;
      quiet = tt;
      high = omega (arith, found.high);
      nested = omega (arith, found.nested);
      inner = omega (arith, found.inner, low);
    }

    items_from_found : (e : Element) (q : Place) → FoundElement links Any d (room w.in_loop w.subscripts a) of_items p e q
        → (x : Tree × Place) → items_from f (room w.in_loop w.subscripts a) s e q ≡ Some x
        → FoundHead d w (at p.links (mark LeftBracket s p.tokens)) x.0 x.1
    unfolding items_from
    items_from_found e q one x h =
        bound _ _ _ h (λ r read made.
        let v : Room = room w.in_loop w.subscripts a in
        subst (λ (y : Tree × Place). FoundHead d w (at p.links (mark LeftBracket s p.tokens)) y.0 y.1)
        (same_Some (Atomic (Array s r.0), r.1) x made)
        (array_row_found r.0 r.1 (after_found links Any d f sound v of_items (row_of f v of_items)
        (row_found links Any d f sound v of_items) p q e one r read)))

    comprehension_found : (e : Tree) (q : Place) → FoundElement links Any d (room w.in_loop w.subscripts a) of_items p (plain e) q
        → (y : Span × Place) → skip For q ≡ Some y
        → (x : Tree × Place) → comprehension_of f w s e y.0 y.1 ≡ Some x
        → FoundHead d w (at p.links (mark LeftBracket s p.tokens)) x.0 x.1
    unfolding comprehension_of
    comprehension_found e q one y begun x h =
        bound _ _ _ h (λ v variables two. bound _ _ _ two (λ i joined three. bound _ _ _ three
        (λ t read four. bound _ _ _ four (λ g guarded five. bound _ _ _ five (λ c closed made.
        let at_for = skip_ok For q y begun in
        let vars = variables_found y.1 v variables in
        let at_in = skip_ok (Operation In) v.1 i joined in
        let target = sound w 1 i.1 t read in
        let guard = extra_found d f sound w If 1 t.1 g guarded in
        let at_close = skip_ok RightBracket g.1 c closed in
        subst (λ (z : Tree × Place). FoundHead d w (at p.links (mark LeftBracket s p.tokens)) z.0 z.1)
        (same_Some (Atomic (Comprehension s e y.0 v.0.0 v.0.1 i.0 t.0 g.0 c.0), c.1) x made) (record {
          spelled = ap (mark LeftBracket s) (one.spelled ∙ ap (yield e) (at_for.0 ∙ ap (mark For y.0) (vars.0
              ∙ ap (λ r. name_yield v.0.0 (second_yield v.0.1 r)) (at_in.0
              ∙ ap (mark (Operation In) i.0) (target.spelled
              ∙ ap (yield t.0) (guard.spelled ∙ ap (extra_yield If g.0) at_close.0))))));
          counted = omega (arith, one.counted, at_for.1, vars.1, at_in.1, target.counted, guard.counted, at_close.1);
          is = (vars.2, target.left, one.is.1, target.is, guard.is);
          left = refl;
          quiet = tt;
          high = omega (arith, one.high, target.high, guard.high);
          nested = omega (arith, one.nested, target.nested, guard.nested);
          inner = omega (arith, one.inner, target.inner, guard.inner, low);
        }))))))

    for_found : (e : Tree) (q : Place) → FoundElement links Any d (room w.in_loop w.subscripts a) of_items p (plain e) q
        → (o : Reads Span) → skip For q ≡ o
        → (x : Tree × Place) → for_at f w (room w.in_loop w.subscripts a) s e q o ≡ Some x
        → FoundHead d w (at p.links (mark LeftBracket s p.tokens)) x.0 x.1
    for_found e q one (Some y) is x h = comprehension_found e q one y is x h
    for_found e q one None is x h = items_from_found (plain e) q one x h

    array_from_found : (e : Element) (q : Place) → FoundElement links Any d (room w.in_loop w.subscripts a) of_items p e q
        → (x : Tree × Place) → array_from f w (room w.in_loop w.subscripts a) s e q ≡ Some x
        → FoundHead d w (at p.links (mark LeftBracket s p.tokens)) x.0 x.1
    array_from_found (plain e) q one x h = for_found e q one (skip For q) refl x h
    array_from_found (spread t e) q one x h = items_from_found (spread t e) q one x h
    array_from_found (pair l t u e) q one x h = items_from_found (pair l t u e) q one x h
    array_from_found (argument n t e) q one x h = items_from_found (argument n t e) q one x h

    array_at_found : (o : Reads Span) → skip RightBracket p ≡ o
        → (x : Tree × Place) → array_at f w (room w.in_loop w.subscripts a) s p o ≡ Some x
        → FoundHead d w (at p.links (mark LeftBracket s p.tokens)) x.0 x.1
    array_at_found (Some y) is x h =
        subst (λ (z : Tree × Place). FoundHead d w (at p.links (mark LeftBracket s p.tokens)) z.0 z.1)
        (same_Some (Atomic (Array s (ended y.0)), y.1) x h)
        (array_row_found (ended y.0) y.1 (ended_found links Any d f sound (room w.in_loop w.subscripts a) of_items p y is))
    array_at_found None is x h =
        bound _ _ _ h (λ e read more. array_from_found e.0 e.1
        (element_found links Any d f sound (room w.in_loop w.subscripts a) of_items p e read) x more)

  array_found : (s : Span) (p : Place) (x : Tree × Place) → array_of f w s p ≡ Some x
      → FoundHead d w (at p.links (mark LeftBracket s p.tokens)) x.0 x.1
  unfolding array_of
  array_found s p x h =
      bound _ _ _ h (λ v inside more.
      let (a, low, is) = inside_array_ok w v inside in
      array_at_found a low s p (skip RightBracket p) refl x (subst (λ u. array_at f w u s p (skip RightBracket p) ≡ Some x)
      (sym is) more))

  map_found : (s : Span) (p : Place) (x : Tree × Place) → map_of f w s p ≡ Some x
      → FoundHead d w (at p.links (mark LeftBrace s p.tokens)) x.0 x.1
  unfolding map_of
  map_found s p x h =
      bound _ _ _ h (λ r read made.
      let found = row_found links Any d f sound w of_entries p r read in
      subst (λ (y : Tree × Place). FoundHead d w (at p.links (mark LeftBrace s p.tokens)) y.0 y.1)
      (same_Some (Atomic (Map s r.0), r.1) x made) (record {
        spelled = ap (mark LeftBrace s) found.spelled;
        counted = omega (arith, found.counted, row_toll_links r.0);
        is = found.is;
        left = refl;
        quiet = tt;
        high = omega (arith, found.high);
        nested = omega (arith, found.nested);
        inner = omega (arith, found.inner);
      }))

  component_found : (s : Span) (p : Place) (x : Tree × Place) → component_of f w s p ≡ Some x
      → FoundHead d w (at p.links (mark (Operation LessThan) s p.tokens)) x.0 x.1
  unfolding component_of
  component_found s p x h =
      bound _ _ _ h (λ n name one. bound _ _ _ one (λ ds dotted two. bound _ _ _ two
      (λ r read three. bound _ _ _ three (λ t slash four. bound _ _ _ four (λ u closed made.
      let at_name = name_of_ok p n name in
      let further = dotted_found n.1 ds dotted in
      let found = attributes_found links Any d f sound w ds.1 r read in
      let at_slash = skip_ok (Operation Div) r.1 t slash in
      let at_close = skip_ok (Operation GreaterThan) t.1 u closed in
      subst (λ (y : Tree × Place). FoundHead d w (at p.links (mark (Operation LessThan) s p.tokens)) y.0 y.1)
      (same_Some (Atomic (Component s n.0 ds.0 r.0 t.0 u.0), u.1) x made) (record {
        spelled = ap (mark (Operation LessThan) s) (at_name.0
            ∙ ap (name_yield n.0) (further.spelled ∙ ap (dotted_yield ds.0) (found.spelled
            ∙ ap (attributes_yield r.0) (at_slash.0 ∙ ap (mark (Operation Div) t.0) at_close.0))));
        counted = omega (arith, at_name.1, further.counted, found.counted, attributes_toll_links r.0, at_slash.1, at_close.1);
        is = found.is;
        left = refl;
        quiet = tt;
        high = omega (arith, found.high);
        nested = omega (arith, found.nested);
        inner = omega (arith, found.inner);
      }))))))

  literal_found : (l : Lit) (s : Span) (p : Place) (x : Tree × Place) → Some (Atomic (Literal l s), p) ≡ Some x
      → FoundHead d w (at p.links (Token (literal_token l) s p.tokens)) x.0 x.1
  literal_found l s p x h =
      subst (λ (y : Tree × Place). FoundHead d w (at p.links (Token (literal_token l) s p.tokens)) y.0 y.1)
      (same_Some (Atomic (Literal l s), p) x h)
      (record {
        spelled = refl;
        counted = omega arith;
        is = tt;
        left = refl;
        quiet = tt;
        high = omega arith;
        nested = omega arith;
        inner = omega arith;
      })

  nothing_found : (n : Name) (p : Place) (x : Tree × Place) → is_none n.text ≡ true → Some (Atomic (Null n), p) ≡ Some x
      → FoundHead d w (at p.links (name_yield n p.tokens)) x.0 x.1
  nothing_found n p x none h =
      subst (λ (y : Tree × Place). FoundHead d w (at p.links (name_yield n p.tokens)) y.0 y.1) (same_Some (Atomic (Null n), p) x h)
      (record {
        spelled = refl;
        counted = omega arith;
        is = none;
        left = refl;
        quiet = tt;
        high = omega arith;
        nested = omega arith;
        inner = omega arith;
      })

  chain_found : (n : Name) → IsFirst n → (p : Place) (o : Reads Span) → skip LeftParen p ≡ o → (x : Tree × Place)
      → called_at f w n p o ≡ Some x
      → FoundHead d w (at p.links (name_yield n p.tokens)) x.0 x.1
  chain_found n is_first p None is x h =
      bound _ _ _ h (λ ls read made.
      let found = links_found d f sound w (of_loop w.in_loop n) p ls read in
      subst (λ (y : Tree × Place). FoundHead d w (at p.links (name_yield n p.tokens)) y.0 y.1)
      (same_Some (Atomic (Chain n ls.0), ls.1) x made) (record {
        spelled = ap (name_yield n) found.spelled;
        counted = found.counted;
        is = (is_first, found.is);
        left = refl;
        quiet = found.quiet;
        high = omega (arith, found.high);
        nested = omega (arith, found.nested);
        inner = omega (arith, found.inner);
      }))
  chain_found n is_first p (Some y) is x h =
      bound _ _ _ h (λ r read made.
      let at_open = skip_ok LeftParen p y is in
      let (found, distinct) = arguments_found links Any d f sound w y.1 r read in
      subst (λ (z : Tree × Place). FoundHead d w (at p.links (name_yield n p.tokens)) z.0 z.1)
      (same_Some (Atomic (Call n y.0 r.0), r.1) x made) (record {
        spelled = ap (name_yield n) (at_open.0 ∙ ap (mark LeftParen y.0) found.spelled);
        counted = omega (arith, at_open.1, found.counted, row_toll_links r.0);
        is = (is_first, found.is, distinct);
        left = refl;
        quiet = tt;
        high = omega (arith, found.high);
        nested = omega (arith, found.nested);
        inner = omega (arith, found.inner);
      }))

  word_found : (n : Name) (p : Place) (x : Tree × Place) → word_head f w n p ≡ Some x
      → FoundHead d w (at p.links (name_yield n p.tokens)) x.0 x.1
  unfolding word_head chain_of
  word_found n p x h =
      ⊎_elim (λ (none : (is_none n.text ≡ true) × (Some (Atomic (Null n), p) ≡ Some x)). nothing_found n p x none.0 none.1)
      (λ (some : (is_none n.text ≡ false) × (cond (is_not n.text) (prefix_of f w (Negates n.span) p)
      (called_at f w n p (skip LeftParen p)) ≡ Some x)).
      ⊎_elim (λ (negation : (is_not n.text ≡ true) × (prefix_of f w (Negates n.span) p ≡ Some x)).
      subst (λ v. FoundHead d w (at p.links (Token (Ident v) n.span p.tokens)) x.0 x.1)
      (sym ((bytes_eq-Decides n.text (codes "not")).0 negation.0)) (prefix_found (Negates n.span) p x negation.1))
      (λ (first : (is_not n.text ≡ false) × (called_at f w n p (skip LeftParen p) ≡ Some x)). chain_found n (some.0, first.0) p
      (skip LeftParen p) refl x first.1)
      (cond_ok (is_not n.text) _ _ _ some.1))
      (cond_ok (is_none n.text) _ _ _ h)

  mark_found : (m : Mark) (t : Tok) → among head_marks t ≡ m → (s : Span) (p : Place) (x : Tree × Place)
      → mark_head f w m s p ≡ Some x → FoundHead d w (at p.links (Token t s p.tokens)) x.0 x.1
  mark_found (Operation Minus) t e s p x h = subst (λ u. FoundHead d w (at p.links (Token u s p.tokens)) x.0 x.1)
      (sym (among_is head_marks t (Operation Minus) e (λ c. cc))) (prefix_found (Negative s) p x h)
  mark_found (Operation LessThan) t e s p x h = subst (λ u. FoundHead d w (at p.links (Token u s p.tokens)) x.0 x.1)
      (sym (among_is head_marks t (Operation LessThan) e (λ c. cc))) (component_found s p x h)
  mark_found LeftParen t e s p x h = subst (λ u. FoundHead d w (at p.links (Token u s p.tokens)) x.0 x.1)
      (sym (among_is head_marks t LeftParen e (λ c. cc))) (paren_found s p x h)
  mark_found LeftBracket t e s p x h = subst (λ u. FoundHead d w (at p.links (Token u s p.tokens)) x.0 x.1)
      (sym (among_is head_marks t LeftBracket e (λ c. cc))) (array_found s p x h)
  mark_found LeftBrace t e s p x h = subst (λ u. FoundHead d w (at p.links (Token u s p.tokens)) x.0 x.1)
      (sym (among_is head_marks t LeftBrace e (λ c. cc))) (map_found s p x h)
  mark_found _ t e s p x h = cc

  token_found : (t : Tok) (s : Span) (p : Place) (x : Tree × Place) → head_token f w t s p ≡ Some x
      → FoundHead d w (at p.links (Token t s p.tokens)) x.0 x.1
  unfolding head_mark
  token_found (Ident n) s p x h = word_found (record { text = n; span = s }) p x h
  token_found (Symbol op) s p x h = mark_found (among head_marks (Symbol op)) (Symbol op) refl s p x h
  token_found (toks.Integer n) s p x h = literal_found (Number n) s p x h
  token_found (toks.Str text) s p x h = literal_found (Quoted (Simple text)) s p x h
  token_found (toks.Escaped text) s p x h = literal_found (Quoted (Escaped text)) s p x h
  token_found (toks.Truth b) s p x h = literal_found (Truth b) s p x h
  token_found _ s p x h = cc

  head_in_found : (k : ℕ) (ts : Items) (x : Tree × Place) → head_in f w k ts ≡ Some x → FoundHead d w (at k ts) x.0 x.1
  head_in_found k (Token t s us) x h = token_found t s (at k us) x h
  head_in_found k _ x h = cc

  pub head_found : (p : Place) (x : Tree × Place) → head_of f w p ≡ Some x → FoundHead d w p x.0 x.1
  head_found p x h = head_in_found p.links p.tokens x h
