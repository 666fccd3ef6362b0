-- What an operand begins with is read locally, where whole expressions are.
use Rattle.std.proofs.Common.{◌≡◌, ℕ, Bool, true, false, cond, Option, Some, None, refl, sym, ap, ◌∙◌}
use Rattle.tera_base.specs.declared.utils.Span.{Span}
use Rattle.tera_lexer.specs.grammar.Tokens.{Tok, Items, Ended, Failed, Token, Ident, Symbol}
use Rattle.tera_grammar.specs.expressions.Operators.{Minus, LessThan, Div, GreaterThan, In}
use Rattle.tera_grammar.specs.expressions.Marks.{Mark, mark_token, LeftParen, RightParen, LeftBracket, RightBracket, LeftBrace, Comma, For, If, Not, Operation}
use Rattle.tera_grammar.specs.expressions.Concrete.{Name, Lit, Sign, Negative, Negates, no_second, second, of_items, of_entries, Tree, Atomic, Prefix, Literal, Null, Chain, Call, Paren, Array, Comprehension, Map, Component, ended, Element, plain}
use Rattle.tera_grammar.specs.expressions.Powers.{sign_power}
use Rattle.tera_grammar.specs.Words.{is_none, is_not, is_reserved}
use Rattle.tera_grammar.specs.expressions.Output.{of_loop}
use Rattle.tera_grammar.specs.expressions.Reading.Front.{at, same_token, literal_of, head_mark, begins_sign, skip, name_of}
use Rattle.tera_grammar.specs.expressions.Reading.Bracketed.{Reader, extra_of, element_of, after_element, row_of, arguments_of, links_of, dotted_of, attributes_of}
use Rattle.tera_grammar.specs.expressions.Reading.Rooms.{Room, inside_array}
use Rattle.tera_grammar.specs.Reads.{found, stopped, ◌>>=◌}
use Rattle.tera_grammar.specs.expressions.Reading.Atoms.{prefix_of, paren_of, second_at, variables_of, comprehension_of, items_from, for_at, array_from, array_at, array_of, map_of, component_of, called_at, chain_of, word_head, mark_head, literal_head, head_token, head_of}
use Rattle.tera_grammar.proofs.stops.Local.{SameHead, at_token, local_near, local_past}
use Rattle.tera_grammar.proofs.stops.Lowest.{place, IsLocal, here, stop, after, skip_local, name_local, ask_mark, local_given, local_cond}
use Rattle.tera_grammar.proofs.stops.Bracketed.{dotted_local, extra_local, element_local, after_local, row_local, arguments_local}
use Rattle.tera_grammar.proofs.stops.Links.{links_local, attributes_local}

-- the variables of a comprehension
pub variables_local : (k : ℕ) (ts : Items) → IsLocal (λ us. variables_of (at k us)) ts
unfolding variables_of
variables_local k ts =
    after (λ us. name_of (at k us)) (λ n q. cond (is_reserved n.text) (stopped q.tokens) (second_at n q (skip Comma q))) ts (name_local k ts)
    (λ n q read. local_cond (is_reserved n.text) (λ us. stopped us) (λ us. second_at n (at q.links us) (skip Comma (at q.links us))) q.tokens (stop q.tokens)
    (ask_mark Comma q.links (second_at n) (λ s p. name_of p >>= λ m. cond (is_reserved m.0.text) (stopped m.1.tokens) (found ((n, second s m.0), m.1))) (λ p. found ((n, no_second), p))
    (λ p x. refl) (λ p z. refl) q.tokens
    (λ t r us x is. after (λ vs. name_of (at q.links vs)) (λ m p. cond (is_reserved m.text) (stopped p.tokens) (found ((n, second x m), p))) us (name_local q.links us)
    (λ m p named. local_cond (is_reserved m.text) (λ vs. stopped vs) (λ vs. found ((n, second x m), at p.links vs)) p.tokens (stop p.tokens) (here p (n, second x m))))
    (here (at q.links q.tokens) (n, no_second))))

-- whether a prefix is there
begins_same : (ts us : Items) → SameHead ts us → begins_sign ts ≡ begins_sign us
unfolding begins_sign
begins_same (Token t s us) (Token u r vs) h = ap (λ w. cond (same_token w (mark_token Not)) true (same_token w (mark_token (Operation Minus)))) h.0
begins_same (Token t s us) Ended h = absurd h
begins_same (Token t s us) (Failed text there) h = absurd h
begins_same Ended us h = rw h refl
begins_same (Failed text there) us h = rw h refl

head_self : (us : Items) → SameHead us us
head_self (Token t s us) = (refl, refl)
head_self (Failed text there) = refl
head_self Ended = refl

module _ (self : Reader) (local : (w : Room) (m k : ℕ) (ts : Items) → IsLocal (λ us. self w m (at k us)) ts) where
  made : {A : Type 0} (make : Tree → A) (w : Room) (m k : ℕ) (ts : Items) → IsLocal (λ us. self w m (at k us) >>= λ e. found (make e.0, e.1)) ts
  made make w m k ts = after (λ us. self w m (at k us)) (λ e q. found (make e, q)) ts (local w m k ts) (λ e q read. here q (make e))

  prefix_local : (w : Room) (s : Sign) (k : ℕ) (ts : Items) → IsLocal (λ us. prefix_of self w s (at k us)) ts
  unfolding prefix_of
  prefix_local w s k ts = by (begins_sign ts) refl
    where
      by : (b : Bool) → begins_sign ts ≡ b → IsLocal (λ us. cond (begins_sign us) (stopped us) (self w (sign_power s) (at k us) >>= λ e. found (Prefix s e.0, e.1))) ts
      by true is =
          local_near place at_token at_token _ stopped ts (head_self ts)
          (λ us h. ap (λ b. cond b (stopped us) (self w (sign_power s) (at k us) >>= λ e. found (Prefix s e.0, e.1))) (sym (begins_same ts us h) ∙ is)) (stop ts)
      by false is =
          local_near place at_token at_token _ (λ us. self w (sign_power s) (at k us) >>= λ e. found (Prefix s e.0, e.1)) ts (head_self ts)
          (λ us h. ap (λ b. cond b (stopped us) (self w (sign_power s) (at k us) >>= λ e. found (Prefix s e.0, e.1))) (sym (begins_same ts us h) ∙ is)) (made (Prefix s) w (sign_power s) k ts)

  paren_local : (w : Room) (s : Span) (k : ℕ) (ts : Items) → IsLocal (λ us. paren_of self w s (at k us)) ts
  unfolding paren_of
  paren_local w s k ts =
      after (λ us. self w 0 (at k us)) (λ e q. skip RightParen q >>= λ c. found (Atomic (Paren s e c.0), c.1)) ts (local w 0 k ts)
      (λ e q read. after (λ us. skip RightParen (at q.links us)) (λ c r. found (Atomic (Paren s e c), r)) q.tokens (skip_local RightParen q.links q.tokens) (λ c r closed. here r (Atomic (Paren s e c))))

  comprehension_local : (w : Room) (s : Span) (e : Tree) (f : Span) (k : ℕ) (ts : Items) → IsLocal (λ us. comprehension_of self w s e f (at k us)) ts
  unfolding comprehension_of
  comprehension_local w s e f k ts =
      after (λ us. variables_of (at k us))
      (λ v q. skip (Operation In) q >>= λ i. self w 1 i.1 >>= λ t. extra_of self w If 1 t.1 >>= λ g. skip RightBracket g.1 >>= λ c. found (Atomic (Comprehension s e f v.0 v.1 i.0 t.0 g.0 c.0), c.1)) ts (variables_local k ts)
      (λ v q named. after (λ us. skip (Operation In) (at q.links us))
      (λ i r. self w 1 r >>= λ t. extra_of self w If 1 t.1 >>= λ g. skip RightBracket g.1 >>= λ c. found (Atomic (Comprehension s e f v.0 v.1 i t.0 g.0 c.0), c.1)) q.tokens (skip_local (Operation In) q.links q.tokens)
      (λ i r inside. after (λ us. self w 1 (at r.links us))
      (λ t p. extra_of self w If 1 p >>= λ g. skip RightBracket g.1 >>= λ c. found (Atomic (Comprehension s e f v.0 v.1 i t g.0 c.0), c.1)) r.tokens (local w 1 r.links r.tokens)
      (λ t p target. after (λ us. extra_of self w If 1 (at p.links us))
      (λ g x. skip RightBracket x >>= λ c. found (Atomic (Comprehension s e f v.0 v.1 i t g c.0), c.1)) p.tokens (extra_local self local w If 1 p.links p.tokens)
      (λ g x condition. after (λ us. skip RightBracket (at x.links us)) (λ c y. found (Atomic (Comprehension s e f v.0 v.1 i t g c), y)) x.tokens (skip_local RightBracket x.links x.tokens)
      (λ c y closed. here y (Atomic (Comprehension s e f v.0 v.1 i t g c)))))))

  items_local : (v : Room) (s : Span) (x : Element) (k : ℕ) (ts : Items) → IsLocal (λ us. items_from self v s x (at k us)) ts
  unfolding items_from
  items_local v s x k ts =
      after (λ us. after_element (row_of self v of_items) of_items x (at k us)) (λ r q. found (Atomic (Array s r), q)) ts
      (after_local self local (row_of self v of_items) (row_local self local v of_items) of_items x k ts) (λ r q read. here q (Atomic (Array s r)))

  from_local : (w v : Room) (s : Span) (x : Element) (k : ℕ) (ts : Items) → IsLocal (λ us. array_from self w v s x (at k us)) ts
  from_local w v s (plain e) k ts =
      ask_mark For k (for_at self w v s e) (λ f q. comprehension_of self w s e f q) (λ q. items_from self v s (plain e) q) (λ q x. refl) (λ q z. refl) ts
      (λ t r us x is. comprehension_local w s e x k us) (items_local v s (plain e) k ts)
  from_local w v s x k ts = items_local v s x k ts

  pub array_local : (w : Room) (s : Span) (k : ℕ) (ts : Items) → IsLocal (λ us. array_of self w s (at k us)) ts
  unfolding array_of
  array_local w s k ts =
      local_given (inside_array w) (λ v us. array_at self w v s (at k us) (skip RightBracket (at k us))) ts
      (λ v is. ask_mark RightBracket k (array_at self w v s) (λ c q. found (Atomic (Array s (ended c)), q)) (λ q. element_of self v of_items q >>= λ x. array_from self w v s x.0 x.1) (λ q x. refl) (λ q z. refl) ts
      (λ t r us x is. here (at k us) (Atomic (Array s (ended x))))
      (after (λ us. element_of self v of_items (at k us)) (λ x q. array_from self w v s x q) ts (element_local self local v of_items k ts) (λ x q read. from_local w v s x q.links q.tokens)))

  pub map_local : (w : Room) (s : Span) (k : ℕ) (ts : Items) → IsLocal (λ us. map_of self w s (at k us)) ts
  unfolding map_of
  map_local w s k ts =
      after (λ us. row_of self w of_entries (at k us)) (λ r q. found (Atomic (Map s r), q)) ts (row_local self local w of_entries k ts) (λ r q read. here q (Atomic (Map s r)))

  component_local : (w : Room) (s : Span) (k : ℕ) (ts : Items) → IsLocal (λ us. component_of self w s (at k us)) ts
  unfolding component_of
  component_local w s k ts =
      after (λ us. name_of (at k us))
      (λ n q. dotted_of q >>= λ ds. attributes_of self w ds.1 >>= λ r. skip (Operation Div) r.1 >>= λ t. skip (Operation GreaterThan) t.1 >>= λ u. found (Atomic (Component s n ds.0 r.0 t.0 u.0), u.1)) ts (name_local k ts)
      (λ n q named. after (λ us. dotted_of (at q.links us))
      (λ ds p. attributes_of self w p >>= λ r. skip (Operation Div) r.1 >>= λ t. skip (Operation GreaterThan) t.1 >>= λ u. found (Atomic (Component s n ds r.0 t.0 u.0), u.1)) q.tokens (dotted_local q.links q.tokens)
      (λ ds p further. after (λ us. attributes_of self w (at p.links us))
      (λ r x. skip (Operation Div) x >>= λ t. skip (Operation GreaterThan) t.1 >>= λ u. found (Atomic (Component s n ds r t.0 u.0), u.1)) p.tokens (attributes_local self local w p.links p.tokens)
      (λ r x values. after (λ us. skip (Operation Div) (at x.links us))
      (λ t y. skip (Operation GreaterThan) y >>= λ u. found (Atomic (Component s n ds r t u.0), u.1)) x.tokens (skip_local (Operation Div) x.links x.tokens)
      (λ t y slash. after (λ us. skip (Operation GreaterThan) (at y.links us)) (λ u z. found (Atomic (Component s n ds r t u), z)) y.tokens (skip_local (Operation GreaterThan) y.links y.tokens)
      (λ u z closed. here z (Atomic (Component s n ds r t u)))))))

  chain_local : (w : Room) (n : Name) (k : ℕ) (ts : Items) → IsLocal (λ us. chain_of self w n (at k us)) ts
  unfolding chain_of
  chain_local w n k ts =
      ask_mark LeftParen k (called_at self w n) (λ s q. arguments_of self w q >>= λ r. found (Atomic (Call n s r.0), r.1))
      (λ q. links_of self w (of_loop w.in_loop n) q >>= λ ls. found (Atomic (Chain n ls.0), ls.1)) (λ q x. refl) (λ q z. refl) ts
      (λ t r us x is. after (λ vs. arguments_of self w (at k vs)) (λ r q. found (Atomic (Call n x r), q)) us (arguments_local self local w k us) (λ r q read. here q (Atomic (Call n x r))))
      (after (λ us. links_of self w (of_loop w.in_loop n) (at k us)) (λ ls q. found (Atomic (Chain n ls), q)) ts (links_local self local w (of_loop w.in_loop n) k ts) (λ ls q read. here q (Atomic (Chain n ls))))

  word_local : (w : Room) (n : Name) (k : ℕ) (ts : Items) → IsLocal (λ us. word_head self w n (at k us)) ts
  unfolding word_head
  word_local w n k ts =
      local_cond (is_none n.text) (λ us. found (Atomic (Null n), at k us)) (λ us. cond (is_not n.text) (prefix_of self w (Negates n.span) (at k us)) (chain_of self w n (at k us))) ts (here (at k ts) (Atomic (Null n)))
      (local_cond (is_not n.text) (λ us. prefix_of self w (Negates n.span) (at k us)) (λ us. chain_of self w n (at k us)) ts (prefix_local w (Negates n.span) k ts) (chain_local w n k ts))

  mark_local : (w : Room) (m : Mark) (s : Span) (k : ℕ) (ts : Items) → IsLocal (λ us. mark_head self w m s (at k us)) ts
  mark_local w (Operation Minus) s k ts = prefix_local w (Negative s) k ts
  mark_local w (Operation LessThan) s k ts = component_local w s k ts
  mark_local w LeftParen s k ts = paren_local w s k ts
  mark_local w LeftBracket s k ts = array_local w s k ts
  mark_local w LeftBrace s k ts = map_local w s k ts
  mark_local w _ s k ts = stop ts

  literal_head_local : (o : Option Lit) (s : Span) (k : ℕ) (ts : Items) → IsLocal (λ us. literal_head o s (at k us)) ts
  literal_head_local None s k ts = stop ts
  literal_head_local (Some l) s k ts = here (at k ts) (Atomic (Literal l s))

  token_local : (w : Room) (t : Tok) (s : Span) (k : ℕ) (ts : Items) → IsLocal (λ us. head_token self w t s (at k us)) ts
  token_local w (Ident n) s k ts = word_local w (record { text = n; span = s }) k ts
  token_local w (Symbol op) s k ts = mark_local w (head_mark (Symbol op)) s k ts
  token_local w t s k ts = literal_head_local (literal_of t) s k ts

  pub head_local : (w : Room) (k : ℕ) (ts : Items) → IsLocal (λ us. head_of self w (at k us)) ts
  head_local w k (Token t s us) =
      local_past place at_token at_token (λ vs. head_of self w (at k vs)) (λ vs. head_token self w t s (at k vs)) t s us (λ vs. refl) (token_local w t s k us)
  head_local w k Ended = local_near place at_token at_token (λ vs. head_of self w (at k vs)) stopped Ended refl (λ vs h. rw h refl) (stop Ended)
  head_local w k (Failed text there) = local_near place at_token at_token (λ vs. head_of self w (at k vs)) stopped (Failed text there) refl (λ vs h. rw h refl) (stop (Failed text there))
