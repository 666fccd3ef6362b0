-- What the turns of the loop find, and what a whole reading finds.
use Rattle.std.proofs.Common.{◌≡◌, ℕ, zero, suc, ◌+◌, ◌<◌, ◌≤◌, true, false, ltb, Option, Some, None, refl, sym, ap, subst, subst₂, ◌∙◌, ⊎_elim, arith, lt_trans, ltb-true, ltb-false}
use Rattle.std.specs.List.{AllByRecursion}
use Rattle.std.proofs.lemmas.Option.{none-some, same_Some}
use Rattle.tera_base.specs.declared.utils.Span.{Span}
use Rattle.tera_lexer.specs.grammar.Tokens.{Items}
use Rattle.tera_lexer.specs.code.Cursors.{size}
use Rattle.tera_grammar.specs.expressions.Marks.{LeftBracket, Bar, Not, Is, If, Else, mark}
use Rattle.tera_grammar.specs.expressions.Concrete.{Name, Negation, plainly, negated, Tree, Suffixed, Suffix, Test, Filter, Subscript, Operator, Binary, Condition, name_yield, negation_yield, op_yield, yield, suffix_yield, operator_yield}
use Rattle.tera_grammar.specs.expressions.Powers.{left_power, right_power, AtLeast, Above, Carries}
use Rattle.tera_grammar.specs.Words.{is_not}
use Rattle.tera_grammar.specs.expressions.Conditions.{NamesTest, argument_names, is_refused, IsExpression, IsSuffix, IsOperator}
use Rattle.tera_grammar.specs.expressions.Measures.{measure, suffix_measure, operator_measure, openings, subscripts, arrays, height, links, linking}
use Rattle.tera_grammar.specs.expressions.Reading.Front.{Place, at, Lead, leads_binary, leads_condition, Ending, ends_test, ends_filter, ends_subscript, lead_power, keeps_out}
use Rattle.tera_grammar.proofs.plain.expressions.Reading.Front.{Reads, takes, skip, Front, nothing, joins, closes, misplaced, front}
use Rattle.tera_grammar.specs.expressions.Reading.Rooms.{Room}
use Rattle.tera_grammar.proofs.plain.expressions.Reading.Bracketed.{Reader}
use Rattle.tera_grammar.specs.expressions.Reading.Loop.{Growth, by_operator, by_suffix, grow}
use Rattle.tera_grammar.proofs.plain.expressions.Reading.Loop.{operator_of, test_named, test_at, suffix_in, join_of, close_of, grown, step, go_on, loop_by, expr}
use Rattle.tera_grammar.proofs.Options.{bound}
use Rattle.tera_grammar.proofs.expressions.Fronts.{cond_ok, fails_ok, skip_ok, skip_none, bump_ok, name_of_ok, lead_tokens, ending_tokens, FrontOf, FrontOf-front}
use Rattle.tera_grammar.proofs.expressions.Quiet.{StopsAt, Stops, QuietSuffix, Quiet, Above-quiet, closed-quiet, bare-quiet}
use Rattle.tera_grammar.proofs.expressions.Longer.{longer, longer_suffix, longer_operator}
use Rattle.tera_grammar.proofs.expressions.FoundRows.{Found}
use Rattle.tera_grammar.proofs.expressions.FoundParts.{Any, SoundTree, sub_found, args_found}
use Rattle.tera_grammar.proofs.expressions.FoundAtoms.{head_found}

pub record FoundOperator (d : ℕ) (w : Room) (e : Lead) (p : Place) (o : Operator) (q : Place) : Type 0 where
  pub spelled : lead_tokens e p.tokens ≡ operator_yield o q.tokens
  pub counted : p.links ≡ operator_measure linking o + q.links
  pub power : left_power o ≡ lead_power e
  pub is : IsOperator w.in_loop o
  pub high : operator_measure openings o ≤ d
  pub nested : operator_measure subscripts o ≤ w.subscripts
  pub inner : operator_measure arrays o ≤ w.arrays

abbrev pub ending_of : Suffix → Ending
ending_of (Test s n m g) = ends_test s
ending_of (Filter s m g) = ends_filter s
ending_of (Subscript s b) = ends_subscript s

pub record FoundSuffix (d : ℕ) (w : Room) (e : Ending) (p : Place) (x : Suffix) (q : Place) : Type 0 where
  pub spelled : ending_tokens e p.tokens ≡ suffix_yield x q.tokens
  pub counted : suc p.links ≡ suffix_measure linking x + q.links
  pub kind : ending_of x ≡ e
  pub is : IsSuffix w.in_loop x
  pub quiet : QuietSuffix x q.tokens
  pub high : suffix_measure openings x ≤ d
  pub nested : suffix_measure subscripts x ≤ w.subscripts
  pub inner : suffix_measure arrays x ≤ w.arrays

-- what is known of the operand that the loop goes on with
pub record Operand (d : ℕ) (w : Room) (m : ℕ) (l : Tree) (ts : Items) : Type 0 where
  pub is : IsExpression w.in_loop l
  pub left : AtLeast m l
  pub quiet : Quiet l ts
  pub high : height l ≤ suc d
  pub nested : measure subscripts l ≤ w.subscripts
  pub inner : measure arrays l ≤ w.arrays

-- the place where the operand began
abbrev pub before : Tree → Place → Place
before l p = at (links l + p.links) (yield l p.tokens)

-- what one turn has found, whatever the operand is
pub record FoundGrowth (d : ℕ) (w : Room) (m : ℕ) (p : Place) (g : Growth) (q : Place) : Type 0 where
  pub next : (l : Tree) → Operand d w m l p.tokens → Operand d w m (grow l g) q.tokens
  pub begun : (l : Tree) → before (grow l g) q ≡ before l p
  pub shorter : size q.tokens < size p.tokens

pub grown_ok : (o : Reads Growth) (g : Growth × Place) → grown o ≡ Some (Some g) → o ≡ Some g
grown_ok None g h = cc
grown_ok (Some x) g h = same_Some _ _ h

grown_some : (o : Reads Growth) → grown o ≡ Some None → ⊥
grown_some None h = cc
grown_some (Some x) h = cc

carries : (s : Suffix) (l : Tree) (ts us : Items) → ts ≡ ending_tokens (ending_of s) us → front ts ≡ closes (ending_of s) us
    → Quiet l ts → Carries l s
carries (Test s n m g) l ts us is e q = Above-quiet l 5 ts (λ m h. subst (StopsAt m) e h) q
carries (Filter s m g) l ts us is e q = Above-quiet l 17 ts (λ m h. subst (StopsAt m) e h) q
carries (Subscript s b) l ts us is e q = (
  closed-quiet l ts (λ m h. subst (StopsAt m) e h) q,
  bare-quiet l s us
      (subst (Quiet l) is q),
)

left_suffix : (s : Suffix) (l : Tree) (m : ℕ) → keeps_out m (ending_of s) ≡ false → AtLeast m l → AtLeast m (Suffixed l s)
left_suffix (Test s n x g) l m out h = (ltb-false _ _ out, h)
left_suffix (Filter s x g) l m out h = (ltb-false _ _ out, h)
left_suffix (Subscript s b) l m out h = h

kept_out : (e : Ending) (m : ℕ) (us : Items) → keeps_out m e ≡ true → StopsAt m (closes e us)
kept_out (ends_test s) m us h = ltb-true _ _ h
kept_out (ends_filter s) m us h = ltb-true _ _ h
kept_out (ends_subscript s) m us h = cc

module _ (d : ℕ) (f : Reader) (sound : SoundTree d f) (w : Room) where
  operator_found : (e : Lead) (p : Place) (x : Operator × Place) → operator_of f w e p ≡ Some x → FoundOperator d w e p x.0 x.1
  unfolding operator_of
  operator_found (leads_binary o) p x h =
      bound _ _ _ h (λ q bumped made.
      let low = bump_ok p q bumped in
      subst (λ (y : Operator × Place). FoundOperator d w (leads_binary o) p y.0 y.1) (same_Some (Binary o, q) x made)
      (record {
        spelled = ap (op_yield o) low.1;
        counted = omega (arith, low.0);
        power = refl;
        is = tt;
        high = omega arith;
        nested = omega arith;
        inner = omega arith;
      }))
  operator_found (leads_condition s) p x h =
      bound _ _ _ h (λ c read more. bound _ _ _ more (λ t closed made.
      let found = sound w 0 p c read in
      let at_else = skip_ok Else c.1 t closed in
      subst (λ (y : Operator × Place). FoundOperator d w (leads_condition s) p y.0 y.1)
      (same_Some (Condition s c.0 t.0, t.1) x made) (record {
        spelled = ap (mark If s) (found.spelled ∙ ap (yield c.0) at_else.0);
        counted = omega (arith, found.counted, at_else.1);
        power = refl;
        is = found.is;
        high = omega (arith, found.high);
        nested = omega (arith, found.nested);
        inner = omega (arith, found.inner);
      })))

  test_named_found : (s : Span) (n : Negation) (p q : Place) → mark Is s p.tokens ≡ mark Is s (negation_yield n q.tokens)
      → p.links ≡ q.links
      → ((m : Name) (r : Items) → q.tokens ≡ name_yield m r → NamesTest n m) → (x : Suffix × Place) → test_named f w s n q ≡ Some x
      → FoundSuffix d w (ends_test s) p x.0 x.1
  test_named_found s n p q begun kept argument_names x h =
      bound _ _ _ h (λ m name more. bound _ _ _ more (λ g read made.
      let at_name = name_of_ok q m name in
      let found = args_found d f sound w m.1 g read in
      subst (λ (y : Suffix × Place). FoundSuffix d w (ends_test s) p y.0 y.1) (same_Some (Test s n m.0 g.0, g.1) x made) (record {
        spelled = begun ∙ ap (λ r. mark Is s (negation_yield n r)) (at_name.0 ∙ ap (name_yield m.0) found.spelled);
        counted = omega (arith, kept, at_name.1, found.counted);
        kind = refl;
        is = (argument_names m.0 m.1.tokens at_name.0, found.is);
        quiet = found.quiet;
        high = found.high;
        nested = found.nested;
        inner = found.inner;
      })))

  no_negation : (ts : Items) → takes Not ts ≡ None → (m : Name) (r : Items) → ts ≡ name_yield m r → is_not m.text ≡ false
  no_negation ts none m r is =
      let e : takes Not (name_yield m r) ≡ None = subst (λ v. takes Not v ≡ None) is none in
      ⊎_elim (λ (p : (is_not m.text ≡ true) × (Some (m.span, r) ≡ None)). absurd (none-some _ (sym p.1)))
      (λ (p : (is_not m.text ≡ false) × (None ≡ None)). p.0)
      (cond_ok (is_not m.text) (Some (m.span, r)) None None e)

  test_found : (s : Span) (p : Place) (o : Reads Span) → skip Not p ≡ o → (x : Suffix × Place) → test_at f w s p o ≡ Some x
      → FoundSuffix d w (ends_test s) p x.0 x.1
  test_found s p None is x h = test_named_found s plainly p p refl refl (no_negation p.tokens (skip_none Not p is)) x h
  test_found s p (Some y) is x h =
      let at_not = skip_ok Not p y is in
      test_named_found s (negated y.0) p y.1 (ap (mark Is s) at_not.0) at_not.1 (λ m r e. tt) x h

  suffix_found : (e : Ending) (p : Place) (x : Suffix × Place) → suffix_in f w e p ≡ Some x → FoundSuffix d w e p x.0 x.1
  unfolding suffix_in
  suffix_found (ends_test s) p x h = test_found s p (skip Not p) refl x h
  suffix_found (ends_filter s) p x h =
      bound _ _ _ h (λ m name more. bound _ _ _ more (λ g read made.
      let at_name = name_of_ok p m name in
      let found = args_found d f sound w m.1 g read in
      subst (λ (y : Suffix × Place). FoundSuffix d w (ends_filter s) p y.0 y.1) (same_Some (Filter s m.0 g.0, g.1) x made) (record {
        spelled = ap (mark Bar s) (at_name.0 ∙ ap (name_yield m.0) found.spelled);
        counted = omega (arith, at_name.1, found.counted);
        kind = refl;
        is = found.is;
        quiet = found.quiet;
        high = found.high;
        nested = found.nested;
        inner = found.inner;
      })))
  suffix_found (ends_subscript s) p x h =
      bound _ _ _ h (λ b read made.
      let (n, room_is, found) = sub_found d f sound w p b read in
      subst (λ (y : Suffix × Place). FoundSuffix d w (ends_subscript s) p y.0 y.1) (same_Some (Subscript s b.0, b.1) x made)
      (record {
        spelled = ap (mark LeftBracket s) found.spelled;
        counted = omega (arith, found.counted);
        kind = refl;
        is = found.is;
        quiet = tt;
        high = omega (arith, found.high);
        nested = omega (arith, room_is, found.nested);
        inner = omega (arith, found.inner);
      }))

  module _ (m : ℕ) (p : Place) where
    joined : (e : Lead) (us : Items) (x : Growth × Place) → p.tokens ≡ lead_tokens e us → front p.tokens ≡ joins e us
        → m ≤ lead_power e
        → join_of f w e (at p.links us) ≡ Some x → FoundGrowth d w m p x.0 x.1
    unfolding join_of
    joined e us x spelled is least h =
        bound _ _ _ h (λ o read more. bound _ _ _ more (λ r right last.
        let (fits, made) = fails_ok (is_refused w.in_loop o.0 r.0) (Some (by_operator o.0 r.0, r.1)) x last in
        let first = operator_found e (at p.links us) o read in
        let found = sound w (right_power o.0) o.1 r right in
        let all : p.tokens ≡ operator_yield o.0 (yield r.0 r.1.tokens) = spelled ∙ first.spelled
        ∙ ap (operator_yield o.0) found.spelled in
        let longer_o = longer_operator o.0 (yield r.0 r.1.tokens) in
        let longer_r = longer r.0 r.1.tokens in
        subst (λ (y : Growth × Place). FoundGrowth d w m p y.0 y.1) (same_Some (by_operator o.0 r.0, r.1) x made) (record {
          next = λ l known. record {
            is = (
              subst (λ v. Above v l) (sym first.power) (Above-quiet l (lead_power e) p.tokens (λ n s. subst (StopsAt n) is s)
                  known.quiet),
              found.left,
              fits,
              known.is,
              first.is,
              found.is,
            );
            left = (subst (λ v. m ≤ v) (sym first.power) least, known.left);
            quiet = (found.stops, found.quiet);
            high = omega (arith, known.high, first.high, found.high);
            nested = omega (arith, known.nested, first.nested, found.nested);
            inner = omega (arith, known.inner, first.inner, found.inner);
          };
          begun = λ l. (ap (λ v. at ((links l + (operator_measure linking o.0 + links r.0)) + r.1.links) (yield l v)) (sym all)
              ∙ ap (λ k. at k (yield l p.tokens)) (omega (arith, first.counted, found.counted)));
          shorter = subst (λ v. size r.1.tokens < size v) (sym all) (lt_trans longer_r longer_o);
        })))

    closed : (e : Ending) (us : Items) (x : Growth × Place) → p.tokens ≡ ending_tokens e us → front p.tokens ≡ closes e us
        → keeps_out m e ≡ false
        → close_of f w e (at p.links us) ≡ Some x → FoundGrowth d w m p x.0 x.1
    unfolding close_of
    closed e us x spelled is out h =
        bound _ _ _ h (λ q bumped more. bound _ _ _ more (λ s read made.
        let low = bump_ok (at p.links us) q bumped in
        let found = suffix_found e q s read in
        let all : p.tokens ≡ suffix_yield s.0 s.1.tokens = spelled ∙ ap (ending_tokens e) low.1 ∙ found.spelled in
        subst (λ (y : Growth × Place). FoundGrowth d w m p y.0 y.1) (same_Some (by_suffix s.0, s.1) x made) (record {
          next = λ l known. record {
            is = (
              carries s.0 l p.tokens us (spelled ∙ ap (λ v. ending_tokens v us) (sym found.kind))
                  (is ∙ ap (λ v. closes v us) (sym found.kind)) known.quiet,
              known.is,
              found.is,
            );
            left = left_suffix s.0 l m (ap (keeps_out m) found.kind ∙ out) known.left;
            quiet = found.quiet;
            high = omega (arith, known.high, found.high);
            nested = omega (arith, known.nested, found.nested);
            inner = omega (arith, known.inner, found.inner);
          };
          begun = λ l. (ap (λ v. at ((links l + suffix_measure linking s.0) + s.1.links) (yield l v)) (sym all)
              ∙ ap (λ k. at k (yield l p.tokens)) (omega (arith, low.0, found.counted)));
          shorter = subst (λ v. size s.1.tokens < size v) (sym all) (longer_suffix s.0 s.1.tokens);
        })))

    step_growth : (fr : Front) → FrontOf p.tokens fr → front p.tokens ≡ fr → (x : Growth × Place)
        → step f w m p.links fr ≡ Some (Some x) → FoundGrowth d w m p x.0 x.1
    unfolding step
    step_growth nothing of is x h = cc
    step_growth (joins e us) of is x h =
        ⊎_elim (λ (c : (ltb (lead_power e) m ≡ true) × (Some None ≡ Some (Some x))). absurd (none-some x (same_Some _ _ c.1)))
        (λ (c : (ltb (lead_power e) m ≡ false) × (grown (join_of f w e (at p.links us)) ≡ Some (Some x))). joined e us x of is
        (ltb-false _ _ c.0) (grown_ok _ x c.1))
        (cond_ok (ltb (lead_power e) m) _ _ _ h)
    step_growth (closes e us) of is x h =
        ⊎_elim (λ (c : (keeps_out m e ≡ true) × (Some None ≡ Some (Some x))). absurd (none-some x (same_Some _ _ c.1)))
        (λ (c : (keeps_out m e ≡ false) × (grown (close_of f w e (at p.links us)) ≡ Some (Some x))). closed e us x of is c.0
        (grown_ok _ x c.1))
        (cond_ok (keeps_out m e) _ _ _ h)
    step_growth misplaced of is x h =
        ⊎_elim (λ (c : (ltb 5 m ≡ true) × (Some None ≡ Some (Some x))). absurd (none-some x (same_Some _ _ c.1)))
        (λ (c : (ltb 5 m ≡ false) × (None ≡ Some (Some x))). absurd (none-some _ c.1))
        (cond_ok (ltb 5 m) _ _ _ h)

    step_stops : (fr : Front) → step f w m p.links fr ≡ Some None → StopsAt m fr
    unfolding step
    step_stops nothing h = tt
    step_stops (joins e us) h =
        ⊎_elim (λ (c : (ltb (lead_power e) m ≡ true) × (Some None ≡ Some None)). ltb-true _ _ c.0)
        (λ (c : (ltb (lead_power e) m ≡ false) × (grown (join_of f w e (at p.links us)) ≡ Some None)). absurd (grown_some _ c.1))
        (cond_ok (ltb (lead_power e) m) _ _ _ h)
    step_stops (closes e us) h =
        ⊎_elim (λ (c : (keeps_out m e ≡ true) × (Some None ≡ Some None)). kept_out e m us c.0)
        (λ (c : (keeps_out m e ≡ false) × (grown (close_of f w e (at p.links us)) ≡ Some None)). absurd (grown_some _ c.1))
        (cond_ok (keeps_out m e) _ _ _ h)
    step_stops misplaced h =
        ⊎_elim (λ (c : (ltb 5 m ≡ true) × (Some None ≡ Some None)). ltb-true _ _ c.0)
        (λ (c : (ltb 5 m ≡ false) × (None ≡ Some None)). absurd (none-some _ c.1))
        (cond_ok (ltb 5 m) _ _ _ h)

  pub step_found : (m : ℕ) (p : Place) (x : Growth × Place) → step f w m p.links (front p.tokens) ≡ Some (Some x)
      → FoundGrowth d w m p x.0 x.1
  step_found m p x h = step_growth m p (front p.tokens) (FrontOf-front p.tokens) refl x h

-- going on from an operand finds an expression
abbrev pub SoundAgain : ℕ → Room → ℕ → (Tree → Place → Reads Tree) → Type 0
SoundAgain d w m again = (l : Tree) (p : Place) (x : Tree × Place) → Operand d w m l p.tokens → again l p ≡ Some x
    → Found links Any (suc d) w m (before l p) x.0 x.1

go_on_found : (d : ℕ) (w : Room) (m : ℕ) (again : Tree → Place → Reads Tree) → SoundAgain d w m again → (l : Tree) (p : Place)
    → Operand d w m l p.tokens
    → (g : Option (Growth × Place)) → (g ≡ None → Stops m p.tokens)
    → ((x : Growth × Place) → g ≡ Some x → FoundGrowth d w m p x.0 x.1)
    → (x : Tree × Place) → go_on grow again l p g ≡ Some x → Found links Any (suc d) w m (before l p) x.0 x.1
go_on_found d w m again goes l p o None stops found x h =
    subst (λ (y : Tree × Place). Found links Any (suc d) w m (before l p) y.0 y.1) (same_Some (l, p) x h)
    (record {
      spelled = refl;
      counted = refl;
      each = tt;
      is = o.is;
      left = o.left;
      quiet = o.quiet;
      stops = stops refl;
      high = o.high;
      nested = o.nested;
      inner = o.inner;
    })
go_on_found d w m again goes l p o (Some g) stops found x h =
    let grows = found g refl in
    subst (λ v. Found links Any (suc d) w m v x.0 x.1) (grows.begun l) (goes (grow l g.0) g.1 x (grows.next l o) h)

loop_found : (n d : ℕ) (f : Reader) → SoundTree d f → (w : Room) (m : ℕ) → SoundAgain d w m (loop_by grow n f w m)
unfolding loop_by
loop_found zero d f sound w m l p x o h = cc
loop_found (suc n) d f sound w m l p x o h =
    bound _ _ _ h (λ g read more.
    go_on_found d w m (loop_by grow n f w m) (loop_found n d f sound w m) l p o g
    (λ e. step_stops d f sound w m p (front p.tokens) (read ∙ ap Some e)) (λ y e. step_found d f sound w m p y (read ∙ ap Some e))
    x more)

-- what is read is an expression within the limits, and what follows it
pub expr_sound : (d : ℕ) → SoundTree d (expr d)
unfolding expr
expr_sound zero w m p x h = cc
expr_sound (suc d) w m p x h =
    bound _ _ _ h (λ t read more.
    let head = head_found d (expr d) (expr_sound d) w p t read in
    let none : AtLeast m t.0 = subst (λ v. AllByRecursion (λ p. m ≤ p) v) (sym head.left) tt in
    let found = loop_found (suc (size t.1.tokens)) d (expr d) (expr_sound d) w m t.0 t.1 x
    (record { is = head.is; left = none; quiet = head.quiet; high = head.high; nested = head.nested; inner = head.inner }) more in
    subst₂ (λ j v. Found links Any (suc d) w m (at j v) x.0 x.1) (sym head.counted) (sym head.spelled) found)
