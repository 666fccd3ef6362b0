-- Whole expressions are read locally.
use Rattle.std.proofs.Common.{◌≡◌, ℕ, zero, suc, ◌<◌, arith, ltb, Bool, true, false, cond, Option, Some, None, refl, sym, ap, ◌∙◌}
use Rattle.tera_base.specs.declared.utils.Span.{Span}
use Rattle.tera_lexer.specs.code.Cursors.{size}
use Rattle.tera_lexer.specs.grammar.Tokens.{Tok, Items, Ended, Failed, Token}
use Rattle.tera_grammar.specs.expressions.Operators.{BinaryOperator, In}
use Rattle.tera_grammar.specs.expressions.Marks.{Mark, Not, Is, If, Bar, LeftBracket, Else, Operation}
use Rattle.tera_grammar.specs.expressions.Concrete.{Op, Single, NotIn, Negation, plainly, negated, Test, Filter, Subscript, Operator, Binary, Condition}
use Rattle.tera_grammar.specs.expressions.Powers.{right_power}
use Rattle.tera_grammar.specs.expressions.Conditions.{is_refused}
use Rattle.tera_grammar.specs.expressions.Reading.Front.{Place, at, lowered, among, front_marks, leads_binary, leads_condition, Ending, ends_test, ends_filter, ends_subscript, lead_power, keeps_out, Reads, mark_kind, takes, skip, name_of, Front, nothing, joins, closes, front_not, marked_front, front_of_token, front}
use Rattle.tera_grammar.specs.expressions.Reading.Bracketed.{Reader, sub_of, args_of}
use Rattle.tera_grammar.specs.expressions.Reading.Rooms.{Room}
use Rattle.tera_grammar.specs.expressions.Reading.Loop.{Growth, by_operator, by_suffix, grow, operator_of, test_named, test_at, suffix_in, join_of, close_of, grown, step, go_on, loop_by, expr, loop_with}
use Rattle.tera_grammar.specs.Reads.{Read, found, stopped, ◌>>=◌, given}
use Rattle.tera_grammar.specs.expressions.Reading.Atoms.{head_of}
use Rattle.tera_grammar.proofs.stops.Local.{SameHead, at_token, local_near, local_past, past_size, local_enough, bind_both, first_refused, first_past}
use Rattle.tera_grammar.proofs.stops.Lowest.{place, IsLocal, here, stop, after, skip_local, name_local, ask_mark, local_cond}
use Rattle.tera_grammar.proofs.stops.Bracketed.{sub_local, args_local}
use Rattle.tera_grammar.proofs.stops.Links.{counted, counted_less}
use Rattle.tera_grammar.proofs.stops.Atoms.{head_local}

-- what a token begins after an operand, without what comes after it
data Begin : Type 0 where
  begins_none : Begin
  begins_single : BinaryOperator → Span → Begin
  begins_if : Span → Begin
  begins_close : Ending → Begin
  begins_not : Span → Begin

abbrev begin_of : Mark → Span → Begin
begin_of (Operation o) s = begins_single o s
begin_of Not s = begins_not s
begin_of Is s = begins_close (ends_test s)
begin_of If s = begins_if s
begin_of Bar s = begins_close (ends_filter s)
begin_of LeftBracket s = begins_close (ends_subscript s)
begin_of _ s = begins_none

abbrev begun : Begin → Items → Front
begun begins_none us = nothing
begun (begins_single o s) us = joins (leads_binary (Single o s)) us
begun (begins_if s) us = joins (leads_condition s) us
begun (begins_close e) us = closes e us
begun (begins_not s) us = front_not s (takes (Operation In) us)

begin_is : (m : Mark) (s : Span) (us : Items) → begun (begin_of m s) us ≡ marked_front m s us
begin_is (Operation o) s us = refl
begin_is Not s us = refl
begin_is Is s us = refl
begin_is If s us = refl
begin_is Bar s us = refl
begin_is LeftBracket s us = refl
begin_is _ s us = refl

abbrev begin_at : Tok → Span → Begin
begin_at t s = begin_of (among front_marks t) s

front_is : (t : Tok) (s : Span) (us : Items) → front (Token t s us) ≡ begun (begin_at t s) us
unfolding front_of_token
front_is t s us = sym (begin_is (among front_marks t) s us)

module _ (self : Reader) (local : (w : Room) (m k : ℕ) (ts : Items) → IsLocal (λ us. self w m (at k us)) ts) where
  -- tests, filters and subscripts
  named_local : (w : Room) (s : Span) (n : Negation) (k : ℕ) (ts : Items) → IsLocal (λ us. test_named self w s n (at k us)) ts
  named_local w s n k ts =
      after (λ us. name_of (at k us)) (λ m q. args_of self w q >>= λ g. found (Test s n m g.0, g.1)) ts (name_local k ts)
      (λ m q read. after (λ us. args_of self w (at q.links us)) (λ g r. found (Test s n m g, r)) q.tokens (args_local self local w q.links q.tokens) (λ g r all. here r (Test s n m g)))

  suffix_local : (w : Room) (e : Ending) (k : ℕ) (ts : Items) → IsLocal (λ us. suffix_in self w e (at k us)) ts
  unfolding suffix_in
  suffix_local w (ends_test s) k ts =
      ask_mark Not k (test_at self w s) (λ x q. test_named self w s (negated x) q) (λ q. test_named self w s plainly q) (λ q x. refl) (λ q z. refl) ts
      (λ t r us x is. named_local w s (negated x) k us) (named_local w s plainly k ts)
  suffix_local w (ends_filter s) k ts =
      after (λ us. name_of (at k us)) (λ n q. args_of self w q >>= λ g. found (Filter s n g.0, g.1)) ts (name_local k ts)
      (λ n q read. after (λ us. args_of self w (at q.links us)) (λ g r. found (Filter s n g, r)) q.tokens (args_local self local w q.links q.tokens) (λ g r all. here r (Filter s n g)))
  suffix_local w (ends_subscript s) k ts =
      after (λ us. sub_of self w (at k us)) (λ b q. found (Subscript s b, q)) ts (sub_local self local w k ts) (λ b q read. here q (Subscript s b))

  -- what comes after an operator: its right operand
  abbrev right_of : Room → Operator → Place → Reads Growth
  right_of w o p = self w (right_power o) p >>= λ r. cond (is_refused w.in_loop o r.0) (stopped r.1.tokens) (found (by_operator o r.0, r.1))

  right_local : (w : Room) (o : Operator) (k : ℕ) (ts : Items) → IsLocal (λ us. right_of w o (at k us)) ts
  right_local w o k ts =
      after (λ us. self w (right_power o) (at k us)) (λ r q. cond (is_refused w.in_loop o r) (stopped q.tokens) (found (by_operator o r, q))) ts (local w (right_power o) k ts)
      (λ r q read. local_cond (is_refused w.in_loop o r) (λ us. stopped us) (λ us. found (by_operator o r, at q.links us)) q.tokens (stop q.tokens) (here q (by_operator o r)))

  grown_local : (f : Items → Reads Growth) (ts : Items) → IsLocal f ts → IsLocal (λ us. grown (f us)) ts
  grown_local f ts one = after f (λ g q. found (Some g, q)) ts one (λ g q read. here q (Some g))

  -- a binary operator, after its first token: the right operand
  abbrev operand : Room → Op → Place → Reads (Option Growth)
  operand w o p = grown (right_of w (Binary o) p)

  abbrev counted_operator : Items → Items → Op → Option ℕ → Reads Operator
  counted_operator start us o links = (given start links >>= λ j. found (at j us)) >>= λ q. found (Binary o, q)

  binary_is : (w : Room) (start : Items) (o : Op) (k : ℕ) (us : Items) → grown (join_of self w start (leads_binary o) (at k us)) ≡ ((given start (lowered k) >>= λ j. found (at j us)) >>= operand w o)
  unfolding join_of operator_of
  binary_is w start o k us = by (lowered k)
    where
      by : (links : Option ℕ) → grown (counted_operator start us o links >>= λ x. right_of w x.0 x.1)
          ≡ ((given start links >>= λ j. found (at j us)) >>= operand w o)
      by None = refl
      by (Some j) = refl

  abbrev suffixed : Room → Ending → Place → Reads (Option Growth)
  suffixed w e p = grown (suffix_in self w e p >>= λ s. found (by_suffix s.0, s.1))

  closing_is : (w : Room) (start : Items) (e : Ending) (k : ℕ) (us : Items) → grown (close_of self w start e (at k us)) ≡ ((given start (lowered k) >>= λ j. found (at j us)) >>= suffixed w e)
  unfolding close_of
  closing_is w start e k us = by (lowered k)
    where
      by : (links : Option ℕ) → grown ((given start links >>= λ j. found (at j us)) >>= λ q. suffix_in self w e q >>= λ s. found (by_suffix s.0, s.1))
          ≡ ((given start links >>= λ j. found (at j us)) >>= suffixed w e)
      by None = refl
      by (Some j) = refl

  -- a ternary, after its `if`
  abbrev ternary : Room → Span → Place → Reads Operator
  ternary w s p = self w 0 p >>= λ c. skip Else c.1 >>= λ t. found (Condition s c.0 t.0, t.1)

  abbrev chosen : Room → Span → Place → Reads (Option Growth)
  chosen w s p = grown (ternary w s p >>= λ o. right_of w o.0 o.1)

  condition_is : (w : Room) (start : Items) (s : Span) (k : ℕ) (us : Items) → grown (join_of self w start (leads_condition s) (at k us)) ≡ chosen w s (at k us)
  unfolding join_of operator_of
  condition_is w start s k us = refl

  condition_local : (w : Room) (s : Span) (k : ℕ) (ts : Items) → IsLocal (λ us. chosen w s (at k us)) ts
  condition_local w s k ts =
      grown_local (λ us. ternary w s (at k us) >>= λ o. right_of w o.0 o.1) ts
      (after (λ us. ternary w s (at k us)) (λ o q. right_of w o q) ts
      (after (λ us. self w 0 (at k us)) (λ c q. skip Else q >>= λ t. found (Condition s c t.0, t.1)) ts (local w 0 k ts)
      (λ c q read. after (λ us. skip Else (at q.links us)) (λ t r. found (Condition s c t, r)) q.tokens (skip_local Else q.links q.tokens) (λ t r other. here r (Condition s c t))))
      (λ o q read. right_local w o q.links q.tokens))

  operand_local : (w : Room) (o : Op) (k : ℕ) (ts : Items) → IsLocal (λ us. operand w o (at k us)) ts
  operand_local w o k ts = grown_local (λ us. right_of w (Binary o) (at k us)) ts (right_local w (Binary o) k ts)

  suffixed_local : (w : Room) (e : Ending) (k : ℕ) (ts : Items) → IsLocal (λ us. suffixed w e (at k us)) ts
  suffixed_local w e k ts =
      grown_local (λ us. suffix_in self w e (at k us) >>= λ s. found (by_suffix s.0, s.1)) ts
      (after (λ us. suffix_in self w e (at k us)) (λ s q. found (by_suffix s, q)) ts (suffix_local w e k ts) (λ s q read. here q (by_suffix s)))

  abbrev over : Place → Reads (Option Growth)
  over p = found (None, p)

  abbrev is_over : Reads (Option Growth) → Bool
  is_over (found (None, q)) = true
  is_over (found (Some g, q)) = false
  is_over (stopped z) = false

  over_not : (p q : Place) (g : Growth) → over p ≡ found (Some g, q) → ⊥
  over_not p q g h = let clash : true ≡ false = ap is_over h in cc

  stopped_not : (z : Items) (x : Option Growth × Place) → stopped z ≡ found x → ⊥
  stopped_not z x h = cc

  module _ (w : Room) (m k : ℕ) where
    abbrev Turn : Items → Reads (Option Growth)
    Turn us = step self w m k us (front us)

    -- a turn is local, and what grows leaves fewer tokens
    abbrev Turns : Items → Type 0
    Turns ts = IsLocal Turn ts × ((g : Growth) (q : Place) → Turn ts ≡ found (Some g, q) → size q.tokens < size ts)

    turn_is : (t : Tok) (s : Span) (b : Begin) → begin_at t s ≡ b → (r : Span) (vs : Items) → s ≡ r → Turn (Token t r vs) ≡ step self w m k (Token t r vs) (begun b vs)
    turn_is t s b is r vs same = ap (step self w m k (Token t r vs)) (front_is t r vs ∙ ap (λ x. begun (begin_at t x) vs) (sym same) ∙ ap (λ x. begun x vs) is)

    -- nothing more comes, whatever comes after the token
    still : (t : Tok) (s : Span) (us : Items) (b : Begin) → begin_at t s ≡ b → ((ts vs : Items) → step self w m k ts (begun b vs) ≡ over (at k ts)) → Turns (Token t s us)
    still t s us b is none = (
      local_near place at_token at_token Turn (λ vs. over (at k vs)) (Token t s us) (refl, refl) near (here (at k (Token t s us)) None),
      λ g q h. absurd (over_not (at k (Token t s us)) q g (sym (turn_is t s b is s us refl ∙ none (Token t s us) us) ∙ h)),
    )
      where
        near : (vs : Items) → SameHead (Token t s us) vs → Turn vs ≡ over (at k vs)
        near (Token u r vs) h = ap (λ x. Turn (Token x r vs)) (sym h.0) ∙ turn_is t s b is r vs h.1 ∙ none (Token t r vs) vs ∙ ap (λ x. over (at k (Token x r vs))) h.0
        near Ended h = absurd h
        near (Failed text there) h = absurd h

    -- a binary operator and a suffix count
    counts : (g : Place → Reads (Option Growth)) → ((j : ℕ) (ts : Items) → IsLocal (λ vs. g (at j vs)) ts) → (t : Tok) (s : Span) (us : Items) (b : Begin) → begin_at t s ≡ b
        → ((r : Span) (vs : Items) → s ≡ r → step self w m k (Token t r vs) (begun b vs) ≡ ((given (Token t r vs) (lowered k) >>= λ j. found (at j vs)) >>= g)) → Turns (Token t s us)
    counts g goes t s us b is shape =
        let all : (r : Span) (vs : Items) → s ≡ r → Turn (Token t r vs) ≡ ((given (Token t r vs) (lowered k) >>= λ j. found (at j vs)) >>= g) = λ r vs same. turn_is t s b is r vs same ∙ shape r vs same in (
          counted self local k g (lowered k) t s us (λ j. goes j us) Turn all,
          λ x q h. counted_less self local k g (lowered k) t s us (λ j. goes j us) Turn all (Some x, q) h,
        )

    cond_is : (b c : Bool) (x y : Reads (Option Growth)) → b ≡ c → cond b x y ≡ cond c x y
    cond_is b c x y h = ap (λ a. cond a x y) h

    single : (t : Tok) (s : Span) (us : Items) (o : BinaryOperator) (p : Span) → begin_at t s ≡ begins_single o p → (b : Bool) → ltb (lead_power (leads_binary (Single o p))) m ≡ b → Turns (Token t s us)
    unfolding step
    single t s us o p is true high =
        still t s us (begins_single o p) is (λ ts vs. cond_is (ltb (lead_power (leads_binary (Single o p))) m) true (over (at k ts)) _ high)
    single t s us o p is false high =
        counts (operand w (Single o p)) (operand_local w (Single o p)) t s us (begins_single o p) is
        (λ r vs same. cond_is (ltb (lead_power (leads_binary (Single o p))) m) false (over (at k (Token t r vs))) _ high ∙ binary_is w (Token t r vs) (Single o p) k vs)

    ends_by : (t : Tok) (s : Span) (us : Items) (e : Ending) → begin_at t s ≡ begins_close e → (b : Bool) → keeps_out m e ≡ b → Turns (Token t s us)
    unfolding step
    ends_by t s us e is true out = still t s us (begins_close e) is (λ ts vs. cond_is (keeps_out m e) true (over (at k ts)) _ out)
    ends_by t s us e is false out =
        counts (suffixed w e) (suffixed_local w e) t s us (begins_close e) is
        (λ r vs same. cond_is (keeps_out m e) false (over (at k (Token t r vs))) _ out ∙ closing_is w (Token t r vs) e k vs)

    chooses : (t : Tok) (s : Span) (us : Items) (p : Span) → begin_at t s ≡ begins_if p → (b : Bool) → ltb (lead_power (leads_condition p)) m ≡ b → Turns (Token t s us)
    unfolding step
    chooses t s us p is true high = still t s us (begins_if p) is (λ ts vs. cond_is (ltb (lead_power (leads_condition p)) m) true (over (at k ts)) _ high)
    chooses t s us p is false high =
        let all : (vs : Items) → Turn (Token t s vs) ≡ chosen w p (at k vs) =
        λ vs. turn_is t s (begins_if p) is s vs refl ∙ cond_is (ltb (lead_power (leads_condition p)) m) false (over (at k (Token t s vs))) _ high ∙ condition_is w (Token t s vs) p k vs in (
          local_past place at_token at_token Turn (λ vs. chosen w p (at k vs)) t s us all (condition_local w p k us),
          λ g q h. past_size place at_token at_token Turn (λ vs. chosen w p (at k vs)) t s us all (condition_local w p k us) (Some g, q) h,
        )

    -- after a `not`, where it may go on with the operand
    high_not : (s : Span) (ts : Items) (o : Read (Span × Items)) → ltb 5 m ≡ true → step self w m k ts (front_not s o) ≡ over (at k ts)
    unfolding step
    high_not s ts (stopped z) high = cond_is (ltb 5 m) true (over (at k ts)) _ high
    high_not s ts (found x) high = cond_is (ltb 5 m) true (over (at k ts)) _ high

    module _ (low : ltb 5 m ≡ false) (t : Tok) (s p : Span) where
      abbrev After : Items → Reads (Option Growth)
      After vs = step self w m k (Token t s vs) (front_not p (takes (Operation In) vs))

      alone : (vs : Items) → takes (Operation In) vs ≡ stopped vs → After vs ≡ stopped vs
      unfolding step
      alone vs none = ap (λ o. step self w m k (Token t s vs) (front_not p o)) none ∙ cond_is (ltb 5 m) false (over (at k (Token t s vs))) (stopped vs) low

      not_in : (u : Tok) (r : Span) (vs : Items) (x : Span) → mark_kind (Operation In) u r ≡ Some x
          → After (Token u r vs) ≡ ((given (Token u r vs) (lowered k) >>= λ j. found (at j vs)) >>= operand w (NotIn p x))
      unfolding step
      not_in u r vs x is =
          ap (λ o. step self w m k (Token t s (Token u r vs)) (front_not p o)) (first_past (mark_kind (Operation In)) u r x vs is)
          ∙ cond_is (ltb 5 m) false (over (at k (Token t s (Token u r vs)))) _ low ∙ binary_is w (Token u r vs) (NotIn p x) k vs

      abbrev Seconds : Items → Type 0
      Seconds us = IsLocal After us × ((g : Growth) (q : Place) → After us ≡ found (Some g, q) → size q.tokens < size us)

      lone : (us : Items) → SameHead us us → ((vs : Items) → SameHead us vs → takes (Operation In) vs ≡ stopped vs) → Seconds us
      lone us self_same none = (
        local_near place at_token at_token After stopped us self_same (λ vs h. alone vs (none vs h)) (stop us),
        λ g q h. absurd (stopped_not us (Some g, q) (sym (alone us (none us self_same)) ∙ h)),
      )

      second : (us : Items) → Seconds us
      second (Token u r vs) = by (mark_kind (Operation In) u r) refl
        where
          by : (o : Option Span) → mark_kind (Operation In) u r ≡ o → Seconds (Token u r vs)
          by None is = lone (Token u r vs) (refl, refl) (λ xs h. first_refused (mark_kind (Operation In)) u r vs xs is h)
          by (Some x) is =
              let all : (y : Span) (xs : Items) → r ≡ y → After (Token u y xs) ≡ ((given (Token u y xs) (lowered k) >>= λ j. found (at j xs)) >>= operand w (NotIn p x)) =
              λ y xs same. not_in u y xs x (ap (mark_kind (Operation In) u) (sym same) ∙ is) in (
                counted self local k (operand w (NotIn p x)) (lowered k) u r vs (λ j. operand_local w (NotIn p x) j vs) After all,
                λ g q h. counted_less self local k (operand w (NotIn p x)) (lowered k) u r vs (λ j. operand_local w (NotIn p x) j vs) After all (Some g, q) h,
              )
      second Ended = lone Ended refl (λ vs h. rw h refl)
      second (Failed text there) = lone (Failed text there) refl (λ vs h. rw h refl)

    nots : (t : Tok) (s : Span) (us : Items) (p : Span) → begin_at t s ≡ begins_not p → (b : Bool) → ltb 5 m ≡ b → Turns (Token t s us)
    nots t s us p is true high = still t s us (begins_not p) is (λ ts vs. high_not p ts (takes (Operation In) vs) high)
    nots t s us p is false low =
        let all : (vs : Items) → Turn (Token t s vs) ≡ After low t s p vs = λ vs. turn_is t s (begins_not p) is s vs refl in
        let one = second low t s p us in (
          local_past place at_token at_token Turn (After low t s p) t s us all one.0,
          λ g q h. let less = one.1 g q (sym (all us) ∙ h) in omega (arith, less),
        )

    turn_local : (ts : Items) → Turns ts
    unfolding step
    turn_local (Token t s us) = by (begin_at t s) refl
      where
        by : (b : Begin) → begin_at t s ≡ b → Turns (Token t s us)
        by begins_none is = still t s us begins_none is (λ ts vs. refl)
        by (begins_single o p) is = single t s us o p is (ltb (lead_power (leads_binary (Single o p))) m) refl
        by (begins_if p) is = chooses t s us p is (ltb (lead_power (leads_condition p)) m) refl
        by (begins_close e) is = ends_by t s us e is (keeps_out m e) refl
        by (begins_not p) is = nots t s us p is (ltb 5 m) refl
    turn_local Ended = (
      local_near place at_token at_token Turn (λ vs. over (at k vs)) Ended refl (λ vs h. rw h refl) (here (at k Ended) None),
      λ g q h. absurd (over_not (at k Ended) q g h),
    )
    turn_local (Failed text there) = (
      local_near place at_token at_token Turn (λ vs. over (at k vs)) (Failed text there) refl (λ vs h. rw h refl) (here (at k (Failed text there)) None),
      λ g q h. absurd (over_not (at k (Failed text there)) q g h),
    )

  -- the loop
  module _ {X : Type 0} (extend : X → Growth → X) where
    on_local : (again : X → Place → Reads X) → ((x : X) (k : ℕ) (ts : Items) → IsLocal (λ us. again x (at k us)) ts) → (x : X) (g : Option Growth) (p : Place)
        → IsLocal (λ us. go_on extend again x g (at p.links us)) p.tokens
    on_local again goes x None p = here p x
    on_local again goes x (Some g) p = goes (extend x g) p.links p.tokens

    loop_by_local : (n : ℕ) (w : Room) (m : ℕ) (x : X) (k : ℕ) (ts : Items) → IsLocal (λ us. loop_by extend n self w m x (at k us)) ts
    unfolding loop_by
    loop_by_local zero w m x k ts = stop ts
    loop_by_local (suc n) w m x k ts =
        after (λ us. step self w m k us (front us)) (λ g p. go_on extend (loop_by extend n self w m) x g p) ts (turn_local w m k ts).0
        (λ g p read. on_local (loop_by extend n self w m) (loop_by_local n w m) x g p)

    on_same : (again other : X → Place → Reads X) (x : X) (g : Option Growth) (p : Place) → ((y : Growth) → g ≡ Some y → again (extend x y) p ≡ other (extend x y) p)
        → go_on extend again x g p ≡ go_on extend other x g p
    on_same again other x None p same = refl
    on_same again other x (Some g) p same = same g refl

    loop_stable : (w : Room) (m k : ℕ) (x : X) (n i : ℕ) (ts : Items) → size ts < n → size ts < i → loop_by extend n self w m x (at k ts) ≡ loop_by extend i self w m x (at k ts)
    unfolding loop_by
    loop_stable w m k x zero i ts a b = absurd (omega (arith, a))
    loop_stable w m k x (suc n) zero ts a b = absurd (omega (arith, b))
    loop_stable w m k x (suc n) (suc i) ts a b =
        bind_both (step self w m k ts (front ts)) _ _ (λ g read. on_same (loop_by extend n self w m) (loop_by extend i self w m) x g.0 g.1 (λ y is.
        let less = (turn_local w m k ts).1 y g.1 (read ∙ ap (λ o. found (o, g.1)) is) in
        loop_stable w m g.1.links (extend x y) n i g.1.tokens (omega (arith, a, less)) (omega (arith, b, less))))

    -- the number of turns has no say
    pub loop_turns : (w : Room) (m : ℕ) (x : X) (p : Place) → loop_by extend (suc (size p.tokens)) self w m x p
        ≡ (step self w m p.links p.tokens (front p.tokens) >>= λ g. go_on extend (λ y q. loop_by extend (suc (size q.tokens)) self w m y q) x g.0 g.1)
    unfolding loop_by
    loop_turns w m x p =
        bind_both (step self w m p.links p.tokens (front p.tokens)) _ _ (λ g read.
        on_same (loop_by extend (size p.tokens) self w m) (λ y q. loop_by extend (suc (size q.tokens)) self w m y q) x g.0 g.1 (λ y is.
        let less = (turn_local w m p.links p.tokens).1 y g.1 (read ∙ ap (λ o. found (o, g.1)) is) in
        loop_stable w m g.1.links (extend x y) (size p.tokens) (suc (size g.1.tokens)) g.1.tokens less (omega arith)))

    pub loop_local : (w : Room) (m : ℕ) (x : X) (k : ℕ) (ts : Items) → IsLocal (λ us. loop_by extend (suc (size us)) self w m x (at k us)) ts
    loop_local w m x k ts =
        local_enough place at_token at_token (λ n us. loop_by extend n self w m x (at k us)) (loop_stable w m k x) (λ n us. loop_by_local n w m x k us) ts

-- whole expressions, as deep as they may open
pub expr_local : (d : ℕ) (w : Room) (m k : ℕ) (ts : Items) → IsLocal (λ us. expr d w m (at k us)) ts
unfolding expr
expr_local zero w m k ts = stop ts
expr_local (suc d) w m k ts =
    after (λ us. head_of (expr d) w (at k us)) (λ h q. loop_by grow (suc (size q.tokens)) (expr d) w m h q) ts (head_local (expr d) (expr_local d) w k ts)
    (λ h q read. loop_local (expr d) (expr_local d) grow w m h q.links q.tokens)

pub loop_goes : {X : Type 0} (extend : X → Growth → X) (d : ℕ) (w : Room) (m : ℕ) (x : X) (p : Place) → loop_with extend d w m x p
    ≡ (step (expr d) w m p.links p.tokens (front p.tokens) >>= λ g. go_on extend (loop_with extend d w m) x g.0 g.1)
unfolding loop_with
loop_goes extend d w m x p = loop_turns (expr d) (expr_local d) extend w m x p
