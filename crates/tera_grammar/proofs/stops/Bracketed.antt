-- What is between brackets is read locally, where whole expressions are.
use Rattle.std.proofs.Common.{◌≡◌, ℕ, zero, suc, ◌<◌, ◌≤◌, arith, Bool, true, false, cond, List, [], ◌∷◌, ◌++◌, refl, ap}
use Rattle.tera_base.specs.declared.utils.Span.{Span}
use Rattle.tera_lexer.specs.code.Cursors.{size}
use Rattle.tera_lexer.specs.grammar.Tokens.{Items, Ended}
use Rattle.tera_grammar.specs.expressions.Marks.{Mark, LeftParen, RightParen, RightBracket, Comma, Colon, Dot, Spread, Assign}
use Rattle.tera_grammar.specs.expressions.Concrete.{Name, Kind, of_arguments, of_items, of_entries, closing, Tree, index, slice, Part, absent, present, no_extra, extra, Row, ended, only, then, Element, plain, spread, pair, argument, no_args, args, Dotted, no_dots, dots}
use Rattle.tera_lexer.specs.grammar.Words.{is_one_of}
use Rattle.tera_grammar.specs.expressions.Reading.Front.{Place, at, Reads, skip, name_of, literal_at}
use Rattle.tera_grammar.specs.expressions.Reading.Bracketed.{Reader, extra_at, extra_of, part_at, part_of, slice_of, index_at, sub_at, sub_of, spread_at, item_at, entry_at, argument_at, element_of, comma_at, after_element, row_at, row_by, row_of, new_argument, arguments_at, arguments_by, arguments_of, args_at, args_of, dotted_at, dotted_by, dotted_of}
use Rattle.tera_grammar.specs.expressions.Reading.Rooms.{Room, inside_subscript}
use Rattle.tera_grammar.specs.Reads.{found, stopped, ◌>>=◌}
use Rattle.tera_grammar.proofs.stops.Local.{at_token, local_enough, bind_both}
use Rattle.tera_grammar.proofs.stops.Lowest.{place, IsLocal, here, stop, after, left_size, skip_local, skip_less, name_local, name_less, literal_local, ask_mark, look_mark, local_given, local_cond}

-- the further names of a component
dotted_at_local : (more : Place → Reads Dotted) → ((k : ℕ) (ts : Items) → IsLocal (λ us. more (at k us)) ts) → (k : ℕ) (ts : Items) → IsLocal (λ us. dotted_at more (at k us) (skip Dot (at k us))) ts
dotted_at_local more goes k ts =
    ask_mark Dot k (dotted_at more) (λ s q. name_of q >>= λ n. more n.1 >>= λ ds. found (dots s n.0 ds.0, ds.1)) (λ q. found (no_dots, q)) (λ q x. refl) (λ q z. refl) ts
    (λ t s us x is. after (λ vs. name_of (at k vs)) (λ n r. more r >>= λ ds. found (dots x n ds.0, ds.1)) us (name_local k us)
    (λ n r read. after (λ vs. more (at r.links vs)) (λ ds v. found (dots x n ds, v)) r.tokens (goes r.links r.tokens) (λ ds v last. here v (dots x n ds))))
    (here (at k ts) no_dots)

dotted_by_local : (n k : ℕ) (ts : Items) → IsLocal (λ us. dotted_by n (at k us)) ts
unfolding dotted_by
dotted_by_local zero k ts = stop ts
dotted_by_local (suc n) k ts = dotted_at_local (dotted_by n) (dotted_by_local n) k ts

dotted_stable : (k n m : ℕ) (ts : Items) → size ts < n → size ts < m → dotted_by n (at k ts) ≡ dotted_by m (at k ts)
unfolding dotted_by
dotted_stable k zero m ts a b = absurd (omega (arith, a))
dotted_stable k (suc n) zero ts a b = absurd (omega (arith, b))
dotted_stable k (suc n) (suc m) ts a b = by (skip Dot (at k ts)) refl (λ j us. dotted_stable j n m us)
  where
    by : (o : Reads Span) → skip Dot (at k ts) ≡ o → ((j : ℕ) (us : Items) → size us < n → size us < m → dotted_by n (at j us) ≡ dotted_by m (at j us))
        → dotted_at (dotted_by n) (at k ts) o ≡ dotted_at (dotted_by m) (at k ts) o
    by (stopped z) is again = refl
    by (found x) is again =
        let dot = skip_less Dot (at k ts) x is in
        bind_both (name_of x.1) _ _ (λ r read.
        let fewer = name_less x.1 r read in
        ap (λ o. o >>= λ ds. found (dots x.0 r.0 ds.0, ds.1)) (again r.1.links r.1.tokens (omega (arith, a, dot, fewer)) (omega (arith, b, dot, fewer))))

pub dotted_steps : (p : Place) → dotted_of p ≡ dotted_at dotted_of p (skip Dot p)
unfolding dotted_of dotted_by
dotted_steps p = by (skip Dot p) refl
  where
    by : (o : Reads Span) → skip Dot p ≡ o → dotted_at (dotted_by (size p.tokens)) p o ≡ dotted_at dotted_of p o
    by (stopped z) is = refl
    by (found x) is =
        let dot = skip_less Dot p x is in
        bind_both (name_of x.1) _ _ (λ r read.
        let fewer = name_less x.1 r read in
        ap (λ o. o >>= λ ds. found (dots x.0 r.0 ds.0, ds.1)) (dotted_stable r.1.links (size p.tokens) (suc (size r.1.tokens)) r.1.tokens (omega (arith, dot, fewer)) (omega arith)))

pub dotted_local : (k : ℕ) (ts : Items) → IsLocal (λ us. dotted_of (at k us)) ts
unfolding dotted_of
dotted_local k ts = local_enough place at_token at_token (λ n us. dotted_by n (at k us)) (dotted_stable k) (λ n us. dotted_by_local n k us) ts

module _ (self : Reader) (local : (w : Room) (m k : ℕ) (ts : Items) → IsLocal (λ us. self w m (at k us)) ts) where
  -- an expression, and what is made of it
  made : {A : Type 0} (make : Tree → A) (w : Room) (m k : ℕ) (ts : Items) → IsLocal (λ us. self w m (at k us) >>= λ e. found (make e.0, e.1)) ts
  made make w m k ts = after (λ us. self w m (at k us)) (λ e q. found (make e, q)) ts (local w m k ts) (λ e q read. here q (make e))

  pub extra_local : (w : Room) (c : Mark) (m k : ℕ) (ts : Items) → IsLocal (λ us. extra_of self w c m (at k us)) ts
  unfolding extra_of
  extra_local w c m k ts =
      ask_mark c k (extra_at self w m) (λ s q. self w m q >>= λ e. found (extra s e.0, e.1)) (λ q. found (no_extra, q)) (λ q x. refl) (λ q z. refl) ts
      (λ t s us x is. made (extra x) w m k us) (here (at k ts) no_extra)

  -- what is in a subscript: two questions at one place, a slice and its parts
  alike : (w : Room) (q : Place) (z : Items) (o : Reads Span) → part_at self w q (stopped z) o ≡ part_at self w q (stopped Ended) o
  alike w q z (found x) = refl
  alike w q z (stopped y) = refl

  part_local : (w : Room) (k : ℕ) (ts : Items) → IsLocal (λ us. part_of self w (at k us)) ts
  unfolding part_of
  part_local w k ts =
      look_mark Colon k (λ q o. part_at self w q o (skip RightBracket q)) (λ q. found (absent, q)) (λ q. part_at self w q (stopped Ended) (skip RightBracket q))
      (λ q x. refl) (λ q z. alike w q z (skip RightBracket q)) ts (here (at k ts) absent)
      (look_mark RightBracket k (λ q o. part_at self w q (stopped Ended) o) (λ q. found (absent, q)) (λ q. self w 0 q >>= λ e. found (present e.0, e.1))
      (λ q x. refl) (λ q z. refl) ts (here (at k ts) absent) (made present w 0 k ts))

  slice_local : (w : Room) (a : Part) (s : Span) (k : ℕ) (ts : Items) → IsLocal (λ us. slice_of self w a s (at k us)) ts
  unfolding slice_of
  slice_local w a s k ts =
      after (λ us. part_of self w (at k us)) (λ b q. extra_of self w Colon 0 q >>= λ x. skip RightBracket x.1 >>= λ c. found (slice a s b x.0 c.0, c.1)) ts (part_local w k ts)
      (λ b q at_part. after (λ us. extra_of self w Colon 0 (at q.links us)) (λ x r. skip RightBracket r >>= λ c. found (slice a s b x c.0, c.1)) q.tokens (extra_local w Colon 0 q.links q.tokens)
      (λ x r at_extra. after (λ us. skip RightBracket (at r.links us)) (λ c v. found (slice a s b x c, v)) r.tokens (skip_local RightBracket r.links r.tokens) (λ c v closed. here v (slice a s b x c))))

  index_local : (w : Room) (e : Tree) (k : ℕ) (ts : Items) → IsLocal (λ us. index_at self w e (at k us) (skip Colon (at k us))) ts
  index_local w e k ts =
      ask_mark Colon k (index_at self w e) (λ s q. slice_of self w (present e) s q) (λ q. skip RightBracket q >>= λ c. found (index e c.0, c.1)) (λ q x. refl) (λ q z. refl) ts
      (λ t s us x is. slice_local w (present e) x k us)
      (after (λ us. skip RightBracket (at k us)) (λ c q. found (index e c, q)) ts (skip_local RightBracket k ts) (λ c q closed. here q (index e c)))

  sub_at_local : (w : Room) (k : ℕ) (ts : Items) → IsLocal (λ us. sub_at self w (at k us) (skip Colon (at k us))) ts
  sub_at_local w k ts =
      ask_mark Colon k (sub_at self w) (λ s q. slice_of self w absent s q) (λ q. self w 0 q >>= λ e. index_at self w e.0 e.1 (skip Colon e.1)) (λ q x. refl) (λ q z. refl) ts
      (λ t s us x is. slice_local w absent x k us)
      (after (λ us. self w 0 (at k us)) (λ e q. index_at self w e q (skip Colon q)) ts (local w 0 k ts) (λ e q read. index_local w e q.links q.tokens))

  pub sub_local : (w : Room) (k : ℕ) (ts : Items) → IsLocal (λ us. sub_of self w (at k us)) ts
  unfolding sub_of
  sub_local w k ts = local_given (inside_subscript w) (λ v us. sub_at self v (at k us) (skip Colon (at k us))) ts (λ v is. sub_at_local v k ts)

  -- elements
  argument_local : (w : Room) (n : Name) (k : ℕ) (ts : Items) → IsLocal (λ us. argument_at self w n (at k us)) ts
  argument_local w n k ts =
      after (λ us. skip Assign (at k us)) (λ s q. self w 0 q >>= λ e. found (argument n s e.0, e.1)) ts (skip_local Assign k ts) (λ s q sign. made (argument n s) w 0 q.links q.tokens)

  entry_local : (w : Room) (k : ℕ) (ts : Items) → IsLocal (λ us. literal_at (at k us) >>= λ l. skip Colon l.1 >>= λ s. self w 0 s.1 >>= λ e. found (pair l.0.0 l.0.1 s.0 e.0, e.1)) ts
  entry_local w k ts =
      after (λ us. literal_at (at k us)) (λ l q. skip Colon q >>= λ s. self w 0 s.1 >>= λ e. found (pair l.0 l.1 s.0 e.0, e.1)) ts (literal_local k ts)
      (λ l q key. after (λ us. skip Colon (at q.links us)) (λ s r. self w 0 r >>= λ e. found (pair l.0 l.1 s e.0, e.1)) q.tokens (skip_local Colon q.links q.tokens)
      (λ s r colon. made (pair l.0 l.1 s) w 0 r.links r.tokens))

  pub element_local : (w : Room) (c : Kind) (k : ℕ) (ts : Items) → IsLocal (λ us. element_of self w c (at k us)) ts
  unfolding element_of
  element_local w of_arguments k ts =
      after (λ us. name_of (at k us)) (λ n q. argument_at self w n q) ts (name_local k ts) (λ n q read. argument_local w n q.links q.tokens)
  element_local w of_items k ts =
      ask_mark Spread k (item_at self w) (λ s q. spread_at self w s q) (λ q. self w 0 q >>= λ e. found (plain e.0, e.1)) (λ q x. refl) (λ q z. refl) ts
      (λ t s us x is. made (spread x) w 0 k us) (made plain w 0 k ts)
  element_local w of_entries k ts =
      ask_mark Spread k (entry_at self w) (λ s q. spread_at self w s q)
      (λ q. literal_at q >>= λ l. skip Colon l.1 >>= λ s. self w 0 s.1 >>= λ e. found (pair l.0.0 l.0.1 s.0 e.0, e.1)) (λ q x. refl) (λ q z. refl) ts
      (λ t s us x is. made (spread x) w 0 k us) (entry_local w k ts)

  -- what comes after an element, where the rest of the row is read locally
  pub after_local : (more : Place → Reads Row) → ((k : ℕ) (ts : Items) → IsLocal (λ us. more (at k us)) ts) → (c : Kind) (x : Element) (k : ℕ) (ts : Items)
      → IsLocal (λ us. after_element more c x (at k us)) ts
  unfolding after_element
  after_local more goes c x k ts =
      ask_mark Comma k (comma_at more c x) (λ s q. more q >>= λ r. found (then x s r.0, r.1)) (λ q. skip (closing c) q >>= λ s. found (only x s.0, s.1)) (λ q y. refl) (λ q z. refl) ts
      (λ t s us y is. after (λ vs. more (at k vs)) (λ r q. found (then x y r, q)) us (goes k us) (λ r q read. here q (then x y r)))
      (after (λ us. skip (closing c) (at k us)) (λ s q. found (only x s, q)) ts (skip_local (closing c) k ts) (λ s q closed. here q (only x s)))

  row_by_local : (n : ℕ) (w : Room) (c : Kind) (k : ℕ) (ts : Items) → IsLocal (λ us. row_by n self w c (at k us)) ts
  unfolding row_by
  row_by_local zero w c k ts = stop ts
  row_by_local (suc n) w c k ts =
      ask_mark (closing c) k (row_at (row_by n self w c) self w c) (λ s q. found (ended s, q)) (λ q. element_of self w c q >>= λ x. after_element (row_by n self w c) c x.0 x.1)
      (λ q x. refl) (λ q z. refl) ts (λ t s us x is. here (at k us) (ended x))
      (after (λ us. element_of self w c (at k us)) (λ x q. after_element (row_by n self w c) c x q) ts (element_local w c k ts)
      (λ x q read. after_local (row_by n self w c) (row_by_local n w c) c x q.links q.tokens))

  arguments_by_local : (n : ℕ) (w : Room) (names : List (List ℕ)) (k : ℕ) (ts : Items) → IsLocal (λ us. arguments_by n self w names (at k us)) ts
  unfolding arguments_by
  arguments_by_local zero w names k ts = stop ts
  arguments_by_local (suc n) w names k ts =
      ask_mark RightParen k (arguments_at (arguments_by n self w) self w names) (λ s q. found (ended s, q))
      (λ q. name_of q >>= λ n'. new_argument (arguments_by n self w) self w names n'.0 n'.1 (is_one_of names n'.0.text))
      (λ q x. refl) (λ q z. refl) ts (λ t s us x is. here (at k us) (ended x))
      (after (λ us. name_of (at k us)) (λ m q. new_argument (arguments_by n self w) self w names m q (is_one_of names m.text)) ts (name_local k ts)
      (λ m q read. local_cond (is_one_of names m.text) (λ us. stopped us)
      (λ us. argument_at self w m (at q.links us) >>= λ x. after_element (arguments_by n self w (names ++ m.text ∷ [])) of_arguments x.0 x.1) q.tokens (stop q.tokens)
      (after (λ us. argument_at self w m (at q.links us)) (λ x r. after_element (arguments_by n self w (names ++ m.text ∷ [])) of_arguments x r) q.tokens (argument_local w m q.links q.tokens)
      (λ x r value. after_local (arguments_by n self w (names ++ m.text ∷ [])) (arguments_by_local n w (names ++ m.text ∷ [])) of_arguments x r.links r.tokens))))

  -- more turns than tokens are as good as any other number of them
  element_less : (w : Room) (c : Kind) (k : ℕ) (ts : Items) (x : Element × Place) → element_of self w c (at k ts) ≡ found x → size x.1.tokens ≤ size ts
  element_less w c k ts x h = left_size (λ us. element_of self w c (at k us)) ts x (element_local w c k ts) h

  -- what comes after an element is the same where what is read after a comma is
  after_same : (more other : Place → Reads Row) (c : Kind) (x : Element) (p : Place) → ((q : Place) → size q.tokens < size p.tokens → more q ≡ other q)
      → after_element more c x p ≡ after_element other c x p
  unfolding after_element
  after_same more other c x p same = by (skip Comma p) refl
    where
      by : (o : Reads Span) → skip Comma p ≡ o → comma_at more c x p o ≡ comma_at other c x p o
      by (stopped z) is = refl
      by (found y) is = ap (λ o. o >>= λ r. found (then x y.0 r.0, r.1)) (same y.1 (skip_less Comma p y is))

  row_stable : (w : Room) (c : Kind) (k n m : ℕ) (ts : Items) → size ts < n → size ts < m → row_by n self w c (at k ts) ≡ row_by m self w c (at k ts)
  unfolding row_by
  row_stable w c k zero m ts a b = absurd (omega (arith, a))
  row_stable w c k (suc n) zero ts a b = absurd (omega (arith, b))
  row_stable w c k (suc n) (suc m) ts a b = by (skip (closing c) (at k ts)) (λ j us. row_stable w c j n m us)
    where
      by : (o : Reads Span) → ((j : ℕ) (us : Items) → size us < n → size us < m → row_by n self w c (at j us) ≡ row_by m self w c (at j us))
          → row_at (row_by n self w c) self w c (at k ts) o ≡ row_at (row_by m self w c) self w c (at k ts) o
      by (found x) again = refl
      by (stopped z) again =
          bind_both (element_of self w c (at k ts)) _ _ (λ x read.
          let less = element_less w c k ts x read in
          after_same (row_by n self w c) (row_by m self w c) c x.0 x.1 (λ q lt. again q.links q.tokens (omega (arith, a, less, lt)) (omega (arith, b, less, lt))))

  pub row_steps : (w : Room) (c : Kind) (p : Place) → row_of self w c p ≡ row_at (row_of self w c) self w c p (skip (closing c) p)
  unfolding row_of row_by
  row_steps w c p = by (skip (closing c) p)
    where
      by : (o : Reads Span) → row_at (row_by (size p.tokens) self w c) self w c p o ≡ row_at (row_of self w c) self w c p o
      by (found x) = refl
      by (stopped z) =
          bind_both (element_of self w c p) _ _ (λ x read.
          let less = element_less w c p.links p.tokens x read in
          after_same (row_by (size p.tokens) self w c) (row_of self w c) c x.0 x.1
          (λ q lt. row_stable w c q.links (size p.tokens) (suc (size q.tokens)) q.tokens (omega (arith, less, lt)) (omega arith)))

  pub row_local : (w : Room) (c : Kind) (k : ℕ) (ts : Items) → IsLocal (λ us. row_of self w c (at k us)) ts
  unfolding row_of
  row_local w c k ts = local_enough place at_token at_token (λ n us. row_by n self w c (at k us)) (row_stable w c k) (λ n us. row_by_local n w c k us) ts

  cond_same : {A : Type 0} (b : Bool) (x y z : A) → y ≡ z → cond b x y ≡ cond b x z
  cond_same true x y z h = refl
  cond_same false x y z h = h

  argument_less : (w : Room) (n : Name) (k : ℕ) (ts : Items) (x : Element × Place) → argument_at self w n (at k ts) ≡ found x → size x.1.tokens ≤ size ts
  argument_less w n k ts x h = left_size (λ us. argument_at self w n (at k us)) ts x (argument_local w n k ts) h

  arguments_stable : (w : Room) (names : List (List ℕ)) (k n m : ℕ) (ts : Items) → size ts < n → size ts < m → arguments_by n self w names (at k ts) ≡ arguments_by m self w names (at k ts)
  unfolding arguments_by
  arguments_stable w names k zero m ts a b = absurd (omega (arith, a))
  arguments_stable w names k (suc n) zero ts a b = absurd (omega (arith, b))
  arguments_stable w names k (suc n) (suc m) ts a b = by (skip RightParen (at k ts)) (λ ns j us. arguments_stable w ns j n m us)
    where
      by : (o : Reads Span) → ((ns : List (List ℕ)) (j : ℕ) (us : Items) → size us < n → size us < m → arguments_by n self w ns (at j us) ≡ arguments_by m self w ns (at j us))
          → arguments_at (arguments_by n self w) self w names (at k ts) o ≡ arguments_at (arguments_by m self w) self w names (at k ts) o
      by (found x) again = refl
      by (stopped z) again =
          bind_both (name_of (at k ts)) _ _ (λ x read.
          let one = name_less (at k ts) x read in
          cond_same (is_one_of names x.0.text) (stopped x.1.tokens) _ _
          (bind_both (argument_at self w x.0 x.1) _ _ (λ y value.
          let less = argument_less w x.0 x.1.links x.1.tokens y value in
          after_same (arguments_by n self w (names ++ x.0.text ∷ [])) (arguments_by m self w (names ++ x.0.text ∷ [])) of_arguments y.0 y.1
          (λ q lt. again (names ++ x.0.text ∷ []) q.links q.tokens (omega (arith, a, one, less, lt)) (omega (arith, b, one, less, lt))))))

  -- the arguments from a place on, after those of some names
  abbrev pub arguments_from : Room → List (List ℕ) → Place → Reads Row
  arguments_from w names p = arguments_by (suc (size p.tokens)) self w names p

  pub arguments_steps : (w : Room) (names : List (List ℕ)) (p : Place) → arguments_from w names p ≡ arguments_at (arguments_from w) self w names p (skip RightParen p)
  unfolding arguments_by
  arguments_steps w names p = by (skip RightParen p)
    where
      by : (o : Reads Span) → arguments_at (arguments_by (size p.tokens) self w) self w names p o ≡ arguments_at (arguments_from w) self w names p o
      by (found x) = refl
      by (stopped z) =
          bind_both (name_of p) _ _ (λ x read.
          let one = name_less p x read in
          cond_same (is_one_of names x.0.text) (stopped x.1.tokens) _ _
          (bind_both (argument_at self w x.0 x.1) _ _ (λ y value.
          let less = argument_less w x.0 x.1.links x.1.tokens y value in
          after_same (arguments_by (size p.tokens) self w (names ++ x.0.text ∷ [])) (arguments_from w (names ++ x.0.text ∷ [])) of_arguments y.0 y.1
          (λ q lt. arguments_stable w (names ++ x.0.text ∷ []) q.links (size p.tokens) (suc (size q.tokens)) q.tokens (omega (arith, one, less, lt)) (omega arith)))))

  pub arguments_local : (w : Room) (k : ℕ) (ts : Items) → IsLocal (λ us. arguments_of self w (at k us)) ts
  unfolding arguments_of
  arguments_local w k ts = local_enough place at_token at_token (λ n us. arguments_by n self w [] (at k us)) (arguments_stable w [] k) (λ n us. arguments_by_local n w [] k us) ts

  pub args_local : (w : Room) (k : ℕ) (ts : Items) → IsLocal (λ us. args_of self w (at k us)) ts
  unfolding args_of
  args_local w k ts =
      ask_mark LeftParen k (args_at self w) (λ s q. arguments_of self w q >>= λ r. found (args s r.0, r.1)) (λ q. found (no_args, q)) (λ q x. refl) (λ q z. refl) ts
      (λ t s us x is. after (λ vs. arguments_of self w (at k vs)) (λ r q. found (args x r, q)) us (arguments_local w k us) (λ r q read. here q (args x r)))
      (here (at k ts) no_args)
