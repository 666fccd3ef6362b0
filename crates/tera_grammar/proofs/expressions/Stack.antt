-- What the whole comes to, from the states of the reading over a stack.
use Rattle.std.proofs.Common.{◌≡◌, ◌≢◌, inl, inr, ℕ, zero, suc, ◌-◌, Bool, true, false, cond, List, [], ◌∷◌, ◌++◌, length, Option, Some, None, Result, Ok, Err, refl, sym, ap, subst, ◌∙◌, arith}
use Rattle.std.proofs.lemmas.Option.{same_Some}
use Rattle.tera_base.specs.declared.errors.Error.{Error}
use Rattle.tera_base.specs.declared.utils.Span.{Span}
use Rattle.tera_lexer.specs.code.Cursors.{Position, TakesOne, size}
use Rattle.tera_lexer.specs.code.Steps.{Stops}
use Rattle.tera_lexer.specs.grammar.Tokens.{Tok, Items, Token, Ended, Failed, Ident, Symbol}
use Rattle.tera_ast.specs.Tree as tree
use Rattle.tera_base.specs.Values as values
use Rattle.tera_grammar.specs.expressions.Operators.{BinaryOperator, StrConcat, Minus, LessThan}
use Rattle.tera_grammar.specs.expressions.Marks.{mark, LeftParen, RightParen, LeftBracket, LeftBrace, Else, Operation, Other}
use Rattle.tera_grammar.specs.expressions.Concrete.{Sign, Negative, Negates, Op, Single, NotIn, Tree, Atomic, Prefix, Suffixed, Infix, Literal, Null, Chain, Call, Paren, Array, Comprehension, Map, Component, Suffix, Test, Filter, Subscript, Operator, Binary, Condition, yield, suffix_yield, operator_yield}
use Rattle.tera_grammar.specs.expressions.Powers.{op_right, right_of, right_power, sign_power}
use Rattle.tera_grammar.specs.expressions.Spans.{spanning, first, last}
use Rattle.tera_grammar.specs.Words.{is_none, is_not}
use Rattle.tera_grammar.specs.expressions.Output.{output, suffix_output}
use Rattle.tera_grammar.specs.expressions.Conditions.{is_refused}
use Rattle.tera_grammar.specs.Reads.{Read, found, stopped, ◌>>=◌, Fails}
use Rattle.tera_grammar.specs.expressions.Reading.Front.{Place, at, Reads, takes, moved, skip, head_mark, begins_sign, leads_binary, leads_condition, Ending, Front, nothing, joins, closes, misplaced, front}
use Rattle.tera_grammar.specs.expressions.Reading.Rooms.{Room}
use Rattle.tera_grammar.specs.expressions.Reading.Bracketed.{linked, Reader}
use Rattle.tera_grammar.specs.expressions.Reading.Atoms.{prefix_of, paren_of, array_of, map_of, component_of, chain_of, word_head, mark_head, head_in, head_of}
use Rattle.tera_grammar.specs.expressions.Reading.Loop.{Growth, by_operator, by_suffix, grow, before, suffix_in, operator_of, join_of, close_of, grown, step, go_on, loop_by, loop_with, loop, expr}
use Rattle.tera_grammar.proofs.plain.expressions.Reading.Loop.{expr as plain_expr}
use Rattle.tera_grammar.proofs.plain.expressions.Reading.Atoms.{head_of as plain_head_of}
use Rattle.tera_grammar.specs.expressions.Stack.{Operand, shown, Shows, outcome, enclosed, chosen, suffixed, joined, refuses, operator_in, is_negated, grown_operand, Level, level, Frame, in_paren, in_prefix, in_binary, in_condition, in_last, State, going, coming, resume, stops, heading, prefixing, joining, choosing, suffix_of, closing, unwind, Keeps, HeadGives, SuffixGives}
use Rattle.tera_grammar.proofs.expressions.FoundLoop.{expr_sound}
use Rattle.tera_grammar.proofs.expressions.FoundAtoms.{head_found}
use Rattle.tera_grammar.proofs.stops.Loop.{loop_goes}
use Rattle.tera_grammar.proofs.stops.Forget.{head_forget, expr_forget}
use Rattle.tera_grammar.proofs.Readings.{some_of, fails_as}

outcome_bind : (l : Bool) (o : Reads Tree) (f : Tree × Place → Reads Tree) (g : Operand × Place → Shows)
    → ((t : Tree) (q : Place) → outcome l (f (t, q)) ≡ g (shown l t, q)) → outcome l (o >>= f) ≡ (outcome l o >>= g)
outcome_bind l (stopped z) f g same = refl
outcome_bind l (found x) f g same = same x.0 x.1

-- an operand grows as its tree does
pub grows : (l : Bool) (t : Tree) (g : Growth) → shown l (grow t g) ≡ grown_operand l (shown l t) g
grows l t (by_operator o r) = refl
grows l t (by_suffix (Test s n w g)) = refl
grows l t (by_suffix (Filter s w g)) = refl
grows l t (by_suffix (Subscript s b)) = refl

-- The loop on operands is the loop on trees.
pub goes_by : (n : ℕ) (f : Reader) (w : Room) (m : ℕ) (t : Tree) (p : Place)
    → outcome w.in_loop (loop_by grow n f w m t p) ≡ loop_by (grown_operand w.in_loop) n f w m (shown w.in_loop t) p
unfolding loop_by
goes_by zero f w m t p = refl
goes_by (suc n) f w m t p = followed (goes_by n f w m) (step f w m p.links p.tokens (front p.tokens))
  where
    l : Bool
    l = w.in_loop

    turned : ((u : Tree) (q : Place) → outcome l (loop_by grow n f w m u q) ≡ loop_by (grown_operand l) n f w m (shown l u) q) → (g : Option Growth) (q : Place)
        → outcome l (go_on grow (loop_by grow n f w m) t g q) ≡ go_on (grown_operand l) (loop_by (grown_operand l) n f w m) (shown l t) g q
    turned same None q = refl
    turned same (Some g) q = same (grow t g) q ∙ ap (λ a. loop_by (grown_operand l) n f w m a q) (grows l t g)

    followed : ((u : Tree) (q : Place) → outcome l (loop_by grow n f w m u q) ≡ loop_by (grown_operand l) n f w m (shown l u) q)
        → (s : Reads (Option Growth)) → outcome l (s >>= λ g. go_on grow (loop_by grow n f w m) t g.0 g.1)
        ≡ (s >>= λ g. go_on (grown_operand l) (loop_by (grown_operand l) n f w m) (shown l t) g.0 g.1)
    followed same (stopped z) = refl
    followed same (found x) = turned same x.0 x.1

expr_opens : (d : ℕ) (w : Room) (m : ℕ) (p : Place) → expr (suc d) w m p ≡ (head_of (expr d) w p >>= λ h. loop d w m h.0 h.1)
unfolding expr loop_with
expr_opens d w m p = refl

-- an expression opens with its head
opening : (d : ℕ) (w : Room) (m : ℕ) (p : Place) → coming (suc d) w m p ≡ heading w (level d m) p
unfolding loop_with
opening d w m p =
    ap (outcome w.in_loop) (expr_opens d w m p)
    ∙ outcome_bind w.in_loop (head_of (expr d) w p) _ _ (λ t q. goes_by (suc (size q.tokens)) (expr d) w m t q)

-- no expression may open
pub none_opens : (d : ℕ) (w : Room) (m : ℕ) (p : Place) → d ≡ 0 → coming d w m p ≡ stopped p.tokens
unfolding expr
none_opens d w m p h = ap (λ n. outcome w.in_loop (expr n w m p)) h

opened : (d : ℕ) → d ≢ 0 → d ≡ suc (d - 1)
opened d h = omega arith

pub opens : (d : ℕ) (w : Room) (m : ℕ) (p : Place) → d ≢ 0 → coming d w m p ≡ heading w (level (d - 1) m) p
opens d w m p h = ap (λ n. coming n w m p) (opened d h) ∙ opening (d - 1) w m p

-- what an operator joins, and what a ternary chooses from
refused_as : (l : Bool) (o : Op) (t : Tree) → is_refused l (Binary o) t ≡ refuses (operator_in o) (output l t)
refused_as l (Single StrConcat s) t = refl
refused_as l (Single o s) t = refl
refused_as l (NotIn s u) t = refl

joined_as : (l : Bool) (o : Op) (a : Operand) (t : Tree)
    → grown_operand l a (by_operator (Binary o) t) ≡ joined (operator_in o) (is_negated o) a (shown l t)
joined_as l (Single o s) a t = refl
joined_as l (NotIn s u) a t = refl

module _ (w : Room) (v : Level) (a : Operand) (p : Place) where
  -- what comes of a growth
  abbrev after : Reads Growth → Shows
  after r = grown r >>= λ g. go_on (grown_operand w.in_loop) (going w v) a g.0 g.1

  abbrev operator : Operator → Read Place → Reads Operator
  operator o q = q >>= λ r. found (o, r)

  abbrev right_part : Reads Operator → Reads Growth
  right_part r =
      r >>= λ o. expr v.depth w (right_power o.0) o.1 >>= λ r. cond (is_refused w.in_loop o.0 r.0) (stopped r.1.tokens)
      (found (by_operator o.0 r.0, r.1))

  joined_alike : (o : Op) (start : Items) (q : Place)
      → after (join_of (expr v.depth) w start (leads_binary o) q) ≡ joining w v (operator_in o) (is_negated o) a start q
  unfolding join_of operator_of
  joined_alike o start q = bumped o (linked start q.links q.tokens)
    where
      decided : (c : Bool) (z : Items) (g : Growth × Place)
          → after (cond c (stopped z) (found g)) ≡ cond c (stopped z) (going w v (grown_operand w.in_loop a g.0) g.1)
      decided true z g = refl
      decided false z g = refl

      powers : (o : Op) → right_of (operator_in o) ≡ op_right o
      powers (Single o s) = refl
      powers (NotIn s t) = refl

      last : (o : Op) (r : Reads Tree)
          → after (r >>= λ r. cond (is_refused w.in_loop (Binary o) r.0) (stopped r.1.tokens) (found (by_operator (Binary o) r.0, r.1)))
          ≡ (outcome w.in_loop r >>= resume w (in_binary v (operator_in o) (is_negated o) a))
      last o (stopped z) = refl
      last o (found x) =
          decided (is_refused w.in_loop (Binary o) x.0) x.1.tokens (by_operator (Binary o) x.0, x.1)
          ∙ ap (λ c. cond c (stopped x.1.tokens) (going w v (grown_operand w.in_loop a (by_operator (Binary o) x.0)) x.1))
          (refused_as w.in_loop o x.0)
          ∙ ap (λ b. cond (refuses (operator_in o) (output w.in_loop x.0)) (stopped x.1.tokens) (going w v b x.1)) (joined_as w.in_loop o a x.0)

      bumped : (o : Op) (r : Read Place) → after (right_part (operator (Binary o) r))
          ≡ (r >>= λ q. coming v.depth w (right_of (operator_in o)) q >>= resume w (in_binary v (operator_in o) (is_negated o) a))
      bumped o (stopped z) = refl
      bumped o (found r) =
          last o (expr v.depth w (op_right o) r)
          ∙ ap (λ m. coming v.depth w m r >>= resume w (in_binary v (operator_in o) (is_negated o) a)) (sym (powers o))

  chosen_alike : (s : Span) (start : Items) (q : Place) → after (join_of (expr v.depth) w start (leads_condition s) q) ≡ choosing w v a q
  unfolding join_of operator_of
  chosen_alike s start q = first (expr v.depth w 0 q)
    where
      last : (o : Operator) (c : Tree) (t : Span) → o ≡ Condition s c t → (r : Reads Tree)
          → after (r >>= λ r. cond (is_refused w.in_loop (Condition s c t) r.0) (stopped r.1.tokens) (found (by_operator (Condition s c t) r.0, r.1)))
          ≡ (outcome w.in_loop r >>= λ r. going w v (chosen (output w.in_loop c) a r.0) r.1)
      last o c t is (stopped z) = refl
      last o c t is (found x) = refl

      otherwise : Tree → Reads Span → Reads Operator
      otherwise c r = r >>= λ t. found (Condition s c t.0, t.1)

      middle : (c : Tree) (r : Reads Span) → after (right_part (otherwise c r))
          ≡ (r >>= λ t. coming v.depth w 0 t.1 >>= λ r. going w v (chosen (output w.in_loop c) a r.0) r.1)
      middle c (stopped z) = refl
      middle c (found t) = last (Condition s c t.0) c t.0 refl (expr v.depth w 0 t.1)

      first : (r : Reads Tree) → after (right_part (r >>= λ c. otherwise c.0 (skip Else c.1)))
          ≡ (outcome w.in_loop r >>= resume w (in_condition v a))
      first (stopped z) = refl
      first (found c) = middle c.0 (skip Else c.1)

  closed_alike : (e : Ending) (start : Items) (q : Place) → after (close_of (expr v.depth) w start e q) ≡ closing w v e a start q
  unfolding close_of
  closed_alike e start q = counted (linked start q.links q.tokens)
    where
      last : (r : Reads Suffix) → after (r >>= λ s. found (by_suffix s.0, s.1))
          ≡ (r >>= λ s. going w v (suffixed w.in_loop a s.0) s.1)
      last (stopped z) = refl
      last (found x) = refl

      counted : (o : Read Place) → after (o >>= λ q. suffix_in (expr v.depth) w e q >>= λ s. found (by_suffix s.0, s.1))
          ≡ ((o >>= λ q. suffix_in (expr v.depth) w e q) >>= λ s. going w v (suffixed w.in_loop a s.0) s.1)
      counted (stopped z) = refl
      counted (found q) = last (suffix_in (expr v.depth) w e q)

  -- one turn of the loop
  abbrev turned : Front → Shows
  turned fr = step (expr v.depth) w v.least p.links p.tokens fr >>= λ g. go_on (grown_operand w.in_loop) (going w v) a g.0 g.1

  going_at : (fr : Front) → front p.tokens ≡ fr → going w v a p ≡ turned fr
  going_at fr is = loop_goes (grown_operand w.in_loop) v.depth w v.least a p ∙ ap turned is

  stops_at : (fr : Front) → stops v.least fr ≡ true → step (expr v.depth) w v.least p.links p.tokens fr ≡ found (None, p)
  unfolding step
  stops_at nothing h = refl
  stops_at (joins e us) h = rw h refl
  stops_at (closes e us) h = rw h refl
  stops_at (misplaced us) h = rw h refl

  -- The operand is all.
  pub ends : stops v.least (front p.tokens) ≡ true → going w v a p ≡ found (a, p)
  ends h =
      going_at (front p.tokens) refl
      ∙ ap (λ s. s >>= λ g. go_on (grown_operand w.in_loop) (going w v) a g.0 g.1) (stops_at (front p.tokens) h)

  -- A `not` that is not a `not in` is read nowhere but where it stops.
  pub ends_badly : (us : Items) → front p.tokens ≡ misplaced us → stops v.least (front p.tokens) ≡ false → going w v a p ≡ stopped us
  unfolding step
  ends_badly us is goes = let h = subst (λ fr. stops v.least fr ≡ false) is goes in going_at (misplaced us) is ∙ rw h refl

  pub joins_on : (o : Op) (us : Items) → front p.tokens ≡ joins (leads_binary o) us → stops v.least (front p.tokens) ≡ false
      → going w v a p ≡ joining w v (operator_in o) (is_negated o) a (before p.tokens (leads_binary o)) (at p.links us)
  unfolding step
  joins_on o us is goes =
      let h = subst (λ fr. stops v.least fr ≡ false) is goes in
      going_at (joins (leads_binary o) us) is ∙ rw h (joined_alike o (before p.tokens (leads_binary o)) (at p.links us))

  pub chooses_on : (s : Span) (us : Items) → front p.tokens ≡ joins (leads_condition s) us
      → stops v.least (front p.tokens) ≡ false → going w v a p ≡ choosing w v a (at p.links us)
  unfolding step
  chooses_on s us is goes =
      let h = subst (λ fr. stops v.least fr ≡ false) is goes in
      going_at (joins (leads_condition s) us) is ∙ rw h (chosen_alike s (before p.tokens (leads_condition s)) (at p.links us))

  pub closes_on : (e : Ending) (us : Items) → front p.tokens ≡ closes e us → stops v.least (front p.tokens) ≡ false
      → going w v a p ≡ closing w v e a p.tokens (at p.links us)
  unfolding step
  closes_on e us is goes =
      let h = subst (λ fr. stops v.least fr ≡ false) is goes in
      going_at (closes e us) is ∙ rw h (closed_alike e p.tokens (at p.links us))

  -- after a suffix that was read, and where none is
  pub suffix_holds : (e : Ending) (us : Items) → front p.tokens ≡ closes e us → stops v.least (front p.tokens) ≡ false
      → (s : Suffix) (q : Place) → suffix_of w v e p.tokens (at p.links us) ≡ found (s, q)
      → going w v (suffixed w.in_loop a s) q ≡ going w v a p
  suffix_holds e us is goes s q read =
      sym (closes_on e us is goes ∙ ap (λ o. o >>= λ s. going w v (suffixed w.in_loop a s.0) s.1) read)

  pub suffix_fails : (e : Ending) (us : Items) → front p.tokens ≡ closes e us → stops v.least (front p.tokens) ≡ false
      → (z : Items) → suffix_of w v e p.tokens (at p.links us) ≡ stopped z → going w v a p ≡ stopped z
  suffix_fails e us is goes z read =
      closes_on e us is goes ∙ ap (λ o. o >>= λ s. going w v (suffixed w.in_loop a s.0) s.1) read

-- What each frame makes of what was read inside of it, where it goes on, and where it refuses.
module _ (w : Room) (v : Level) (x : Operand) (p : Place) where
  -- the mark that must follow
  follows : {A : Type 0} (r : Reads Span) (y : Span × Place) (next : Span × Place → Read A) → r ≡ found y → (r >>= next) ≡ next y
  follows r y next h = ap (λ o. o >>= next) h

  fails : {A : Type 0} (r : Reads Span) (next : Span × Place → Read A) (z : Items) → r ≡ stopped z → (r >>= next) ≡ stopped z
  fails r next z h = ap (λ o. o >>= next) h

  pub encloses : (s t : Span) (us : Items) → takes RightParen p.tokens ≡ found (t, us)
      → resume w (in_paren v s) (x, p) ≡ going w v (enclosed s x t) (at p.links us)
  unfolding skip
  encloses s t us h = follows _ (t, at p.links us) (λ c. going w v (enclosed s x c.0) c.1) (ap (moved p.links) h)

  pub unclosed : (s : Span) (z : Items) → takes RightParen p.tokens ≡ stopped z → resume w (in_paren v s) (x, p) ≡ stopped z
  unfolding skip
  unclosed s z h = fails _ (λ c. going w v (enclosed s x c.0) c.1) z (ap (moved p.links) h)

  pub refuses_right : (o : BinaryOperator) (n : Bool) (a : Operand) → refuses o x.0 ≡ true
      → resume w (in_binary v o n a) (x, p) ≡ stopped p.tokens
  refuses_right o n a h = ap (λ c. cond c (stopped p.tokens) (going w v (joined o n a x) p)) h

  pub goes_otherwise : (a : Operand) (t : Span) (us : Items) → takes Else p.tokens ≡ found (t, us)
      → resume w (in_condition v a) (x, p) ≡ (coming v.depth w 0 (at p.links us) >>= resume w (in_last v a x.0))
  unfolding skip
  goes_otherwise a t us h =
      follows _ (t, at p.links us) (λ t. coming v.depth w 0 t.1 >>= resume w (in_last v a x.0)) (ap (moved p.links) h)

  pub lacks_else : (a : Operand) (z : Items) → takes Else p.tokens ≡ stopped z → resume w (in_condition v a) (x, p) ≡ stopped z
  unfolding skip
  lacks_else a z h = fails _ (λ t. coming v.depth w 0 t.1 >>= resume w (in_last v a x.0)) z (ap (moved p.links) h)

-- the span of the first token
span_of_first : Items → Option Span
span_of_first (Token t s us) = Some s
span_of_first _ = None

begins : (t : Tree) (r : Items) → span_of_first (yield t r) ≡ Some (first t)
unfolding span_of_first
begins (Atomic (Literal l s)) r = refl
begins (Atomic (Null n)) r = refl
begins (Atomic (Chain n ls)) r = refl
begins (Atomic (Call n s row)) r = refl
begins (Atomic (Paren s e t)) r = refl
begins (Atomic (Array s row)) r = refl
begins (Atomic (Comprehension s e f n m i t g c)) r = refl
begins (Atomic (Map s row)) r = refl
begins (Atomic (Component s n ds ats t u)) r = refl
begins (Prefix (Negative s) e) r = refl
begins (Prefix (Negates s) e) r = refl
begins (Suffixed a s) r = begins a (suffix_yield s r)
begins (Infix a o b) r = begins a (operator_yield o (yield b r))

begins_at : (t : Tree) (r : Items) (k : Tok) (s : Span) (us : Items) → yield t r ≡ Token k s us → first t ≡ s
unfolding span_of_first
begins_at t r k s us h = same_Some _ _ (sym (begins t r) ∙ ap span_of_first h)

-- the head, where it is read by a function of its own
module _ (w : Room) (v : Level) (p : Place) where
  -- the loop after a head
  abbrev following : Reads Tree → Shows
  following r = outcome w.in_loop r >>= λ h. going w v h.0 h.1

  pub heads : (t : Tree) (q : Place) → head_of (expr v.depth) w p ≡ found (t, q)
      → heading w v p ≡ going w v (shown w.in_loop t) q
  heads t q h = ap following h

  pub heads_badly : (z : Items) → head_of (expr v.depth) w p ≡ stopped z → heading w v p ≡ stopped z
  heads_badly z h = ap following h

  plainly_read : (x : Tree × Place) → head_of (expr v.depth) w p ≡ found x → plain_head_of (plain_expr v.depth) w p ≡ Some x
  plainly_read x h = some_of _ _ (head_forget (expr v.depth) (plain_expr v.depth) (expr_forget v.depth) w p.links p.tokens) x h

  -- an operand begins at the first token that is taken
  pub heads_at : (k : Tok) (s : Span) (us : Items) → p.tokens ≡ Token k s us → (t : Tree) (q : Place)
      → head_of (expr v.depth) w p ≡ found (t, q) → heading w v p ≡ going w v (output w.in_loop t, spanning s (last t)) q
  heads_at k s us is t q h =
      heads t q h ∙ ap (λ b. going w v (output w.in_loop t, spanning b (last t)) q)
      (begins_at t q.tokens k s us (sym (head_found v.depth (plain_expr v.depth) (expr_sound v.depth) w p (t, q) (plainly_read (t, q) h)).spelled ∙ is))

  paren_opens : (s : Span) (q : Place)
      → following (paren_of (expr v.depth) w s q) ≡ (coming v.depth w 0 q >>= resume w (in_paren v s))
  unfolding paren_of
  paren_opens s q = inside (expr v.depth w 0 q)
    where
      closes_it : Tree → Reads Span → Reads Tree
      closes_it t r = r >>= λ c. found (Atomic (Paren s t c.0), c.1)

      closed : (t : Tree) (r : Reads Span)
          → following (closes_it t r) ≡ (r >>= λ c. going w v (enclosed s (shown w.in_loop t) c.0) c.1)
      closed t (stopped z) = refl
      closed t (found c) = refl

      inside : (r : Reads Tree) → following (r >>= λ e. closes_it e.0 (skip RightParen e.1))
          ≡ (outcome w.in_loop r >>= resume w (in_paren v s))
      inside (stopped z) = refl
      inside (found x) = closed x.0 (skip RightParen x.1)

  prefix_opens : (s : Sign) (q : Place) → begins_sign q.tokens ≡ false → following (prefix_of (expr v.depth) w s q) ≡ prefixing w v s q
  unfolding prefix_of
  prefix_opens s q h = ap following (decided h) ∙ inside (expr v.depth w (sign_power s) q)
    where
      signs : Reads Tree → Reads Tree
      signs r = r >>= λ e. found (Prefix s e.0, e.1)

      decided : begins_sign q.tokens ≡ false → prefix_of (expr v.depth) w s q ≡ signs (expr v.depth w (sign_power s) q)
      decided h = ap (λ c. cond c (stopped q.tokens) (signs (expr v.depth w (sign_power s) q))) h

      inside : (r : Reads Tree) → following (signs r) ≡ (outcome w.in_loop r >>= resume w (in_prefix v s))
      inside (stopped z) = refl
      inside (found x) = refl

  prefix_refused : (s : Sign) (q : Place) → begins_sign q.tokens ≡ true → following (prefix_of (expr v.depth) w s q) ≡ stopped q.tokens
  unfolding prefix_of
  prefix_refused s q h =
      ap (λ c. following (cond c (stopped q.tokens) (expr v.depth w (sign_power s) q >>= λ e. found (Prefix s e.0, e.1)))) h

  begun : (ts : Items) → p.tokens ≡ ts → heading w v p ≡ following (head_in (expr v.depth) w p.links ts)
  begun ts is = ap (λ us. following (head_in (expr v.depth) w p.links us)) is

  pub heads_paren : (s : Span) (us : Items) → p.tokens ≡ mark LeftParen s us
      → heading w v p ≡ (coming v.depth w 0 (at p.links us) >>= resume w (in_paren v s))
  unfolding head_mark
  heads_paren s us is = begun (mark LeftParen s us) is ∙ paren_opens s (at p.links us)

  pub heads_minus : (s : Span) (us : Items) → p.tokens ≡ mark (Operation Minus) s us → begins_sign us ≡ false
      → heading w v p ≡ prefixing w v (Negative s) (at p.links us)
  unfolding head_mark
  heads_minus s us is h = begun (mark (Operation Minus) s us) is ∙ prefix_opens (Negative s) (at p.links us) h

  pub minus_refused : (s : Span) (us : Items) → p.tokens ≡ mark (Operation Minus) s us → begins_sign us ≡ true
      → heading w v p ≡ stopped us
  unfolding head_mark
  minus_refused s us is h = begun (mark (Operation Minus) s us) is ∙ prefix_refused (Negative s) (at p.links us) h

  -- a word: a negation, a word for no value, or a name
  worded : (n : List ℕ) (s : Span) (us : Items) → p.tokens ≡ Token (Ident n) s us
      → head_of (expr v.depth) w p ≡ word_head (expr v.depth) w (record { text = n; span = s }) (at p.links us)
  worded n s us is = ap (λ us. head_in (expr v.depth) w p.links us) is

  pub heads_name : (n : List ℕ) (s : Span) (us : Items) → p.tokens ≡ Token (Ident n) s us → is_none n ≡ false → is_not n ≡ false
      → head_of (expr v.depth) w p ≡ chain_of (expr v.depth) w (record { text = n; span = s }) (at p.links us)
  unfolding word_head
  heads_name n s us is none other = worded n s us is ∙ rw (none, other) refl

  pub heads_nothing : (n : List ℕ) (s : Span) (us : Items) → p.tokens ≡ Token (Ident n) s us → is_none n ≡ true
      → heading w v p ≡ going w v (tree.Const values.Nothing s, s) (at p.links us)
  unfolding word_head
  heads_nothing n s us is none = ap following (worded n s us is) ∙ rw none refl

  negates : (n : List ℕ) (s : Span) (us : Items) → p.tokens ≡ Token (Ident n) s us → is_none n ≡ false → is_not n ≡ true
      → head_of (expr v.depth) w p ≡ prefix_of (expr v.depth) w (Negates s) (at p.links us)
  unfolding word_head
  negates n s us is none other = worded n s us is ∙ rw (none, other) refl

  pub heads_not : (n : List ℕ) (s : Span) (us : Items) → p.tokens ≡ Token (Ident n) s us → is_none n ≡ false → is_not n ≡ true
      → begins_sign us ≡ false → heading w v p ≡ prefixing w v (Negates s) (at p.links us)
  heads_not n s us is none other h = ap following (negates n s us is none other) ∙ prefix_opens (Negates s) (at p.links us) h

  pub not_refused : (n : List ℕ) (s : Span) (us : Items) → p.tokens ≡ Token (Ident n) s us → is_none n ≡ false → is_not n ≡ true
      → begins_sign us ≡ true → heading w v p ≡ stopped us
  not_refused n s us is none other h = ap following (negates n s us is none other) ∙ prefix_refused (Negates s) (at p.links us) h

  pub heads_array : (s : Span) (us : Items) → p.tokens ≡ mark LeftBracket s us
      → head_of (expr v.depth) w p ≡ array_of (expr v.depth) w s (at p.links us)
  unfolding head_mark
  heads_array s us is = ap (λ us. head_in (expr v.depth) w p.links us) is

  pub heads_map : (s : Span) (us : Items) → p.tokens ≡ mark LeftBrace s us
      → head_of (expr v.depth) w p ≡ map_of (expr v.depth) w s (at p.links us)
  unfolding head_mark
  heads_map s us is = ap (λ us. head_in (expr v.depth) w p.links us) is

  pub heads_component : (s : Span) (us : Items) → p.tokens ≡ mark (Operation LessThan) s us
      → head_of (expr v.depth) w p ≡ component_of (expr v.depth) w s (at p.links us)
  unfolding head_mark
  heads_component s us is = ap (λ us. head_in (expr v.depth) w p.links us) is

  -- what no operand begins with
  pub heads_no_mark : (o : List ℕ) (s : Span) (us : Items) → p.tokens ≡ Token (Symbol o) s us → head_mark (Symbol o) ≡ Other
      → heading w v p ≡ stopped us
  heads_no_mark o s us is h =
      begun (Token (Symbol o) s us) is ∙ ap (λ m. following (mark_head (expr v.depth) w m s (at p.links us))) h

  pub heads_end : p.tokens ≡ Ended → heading w v p ≡ stopped Ended
  heads_end is = begun Ended is

  pub heads_failed : (text : List ℕ) (s : Span) → p.tokens ≡ Failed text s → heading w v p ≡ stopped (Failed text s)
  heads_failed text s is = begun (Failed text s) is

  -- no token was taken
  pub heads_untaken : (c : Position) (e : Error) (d : Position) → p.tokens ≡ c.left → TakesOne c (Err e) d → Fails (heading w v p) d.left e
  heads_untaken c e d here (inl x) = inr (inl (heads_end (here ∙ x.0) ∙ ap stopped (sym (ap (λ (q : Position). q.left) x.2 ∙ x.0))))
  heads_untaken c e d here (inr x) = ends c.left here x.1 (ap (λ (q : Position). q.left) x.2)
    where
      ends : (ts : Items) → p.tokens ≡ ts → Stops c.source ts e → d.left ≡ Ended → Fails (heading w v p) d.left e
      ends Ended is h none = absurd h
      ends (Failed text s) is h none = inr (inr (inr (text, s, heads_failed text s is, none)))
      ends (Token t s us) is h none = inl h.1

  -- a head that a function of its own has read, and one that it has not
  pub head_given : {E : Type 0} (view : E → tree.Expr) (e : E) (here : Span) (q : Place) (k : Tok) (s : Span) (us : Items)
      → p.tokens ≡ Token k s us → HeadGives view w.in_loop (Ok e) here q (head_of (expr v.depth) w p)
      → going w v (view e, spanning s here) q ≡ heading w v p
  head_given view e here q k s us is (t, read, shows, ends) =
      ap (λ x. going w v (x, spanning s here) q) shows ∙ ap (λ z. going w v (output w.in_loop t, spanning s z) q) ends
      ∙ sym (heads_at k s us is t q read)

  pub head_missed : {E : Type 0} (view : E → tree.Expr) (e : Error) (here : Span) (q : Place)
      → HeadGives view w.in_loop (Err e) here q (head_of (expr v.depth) w p) → Fails (heading w v p) q.tokens e
  head_missed view e here q h = fails_as _ _ q.tokens e heads_badly h

-- The same of a suffix.
module _ (w : Room) (v : Level) (a : Operand) (p : Place) (k : Ending) (us : Items) (is : front p.tokens ≡ closes k us)
    (goes : stops v.least (front p.tokens) ≡ false) {E : Type 0} (view : E → tree.Expr) where
  pub suffix_given : (e : E) (here : Span) (q : Place)
      → SuffixGives view w.in_loop a (Ok e) here q (suffix_of w v k p.tokens (at p.links us))
      → going w v (view e, spanning a.1 here) q ≡ going w v a p
  suffix_given e here q (s, read, shows, ends) =
      ap (λ x. going w v (x, spanning a.1 here) q) shows
      ∙ ap (λ z. going w v (suffix_output w.in_loop a.1 a.0 s, spanning a.1 z) q) ends ∙ suffix_holds w v a p k us is goes s q read

  pub suffix_missed : (e : Error) (here : Span) (q : Place)
      → SuffixGives view w.in_loop a (Err e) here q (suffix_of w v k p.tokens (at p.links us)) → Fails (going w v a p) q.tokens e
  suffix_missed e here q h = fails_as _ _ q.tokens e (suffix_fails w v a p k us is goes) h

-- where nothing is read inside of the frames, and what is pushed and popped
module _ {F : Type 0} (frame : F → Frame) (w : Room) where
  pub unwind_none : (fs : List F) (z : Items) → unwind frame w fs (stopped z) ≡ stopped z
  unfolding unwind
  unwind_none [] z = refl
  unwind_none (f ∷ fs) z = ap (λ o. o >>= resume w (frame f)) (unwind_none fs z)

  pub unwind_push : (fs : List F) (f : F) (read : Shows) → unwind frame w (fs ++ f ∷ []) read ≡ unwind frame w fs (read >>= resume w (frame f))
  unfolding unwind
  unwind_push [] f read = refl
  unwind_push (g ∷ fs) f read = ap (λ o. o >>= resume w (frame g)) (unwind_push fs f read)

  pub pushed : (fs gs : List F) (f : F) (read : Shows) → gs ≡ fs ++ f ∷ [] → unwind frame w gs read ≡ unwind frame w fs (read >>= resume w (frame f))
  pushed fs gs f read is = ap (λ xs. unwind frame w xs read) is ∙ unwind_push fs f read

  pub unframed : (fs : List F) (read : Shows) → length fs ≡ 0 → read ≡ unwind frame w fs read
  unfolding unwind
  unframed [] read h = refl
  unframed (f ∷ fs) read h = absurd (omega arith)

  pub keeps_as : {S : Type 0} (state : S → State) (r : Result S Error) (gs : List F) (q : Place) (x y : Shows) → x ≡ y
      → Keeps frame state w r gs q x → Keeps frame state w r gs q y
  keeps_as state r gs q x y is kept = subst (Keeps frame state w r gs q) is kept

  -- Where reading stops inside, it stops.
  pub refuses_all : (e : Error) (left : Items) (fs : List F) (read : Shows) → Fails read left e → Fails (unwind frame w fs read) left e
  refuses_all e left fs read h = fails_as _ _ left e (λ z none. ap (unwind frame w fs) none ∙ unwind_none fs z) h
