-- The links of a chain, and the attributes of a component.
use Rattle.std.proofs.Common.{◌≡◌, ℕ, zero, suc, ◌<◌, ◌≤◌, arith, le_refl, Bool, cond, List, Option, Some, None, refl, sym, ap, ◌∙◌}
use Rattle.tera_base.specs.declared.utils.Span.{Span}
use Rattle.tera_lexer.specs.code.Cursors.{size}
use Rattle.tera_lexer.specs.grammar.Tokens.{Tok, Items, Ended, Failed, Token}
use Rattle.tera_grammar.specs.expressions.Marks.{Mark, LeftParen, LeftBracket, QuestionBracket, LeftBrace, RightBrace, Dot, QuestionDot, Spread, Assign}
use Rattle.tera_grammar.specs.expressions.Concrete.{Name, Quote, Tree, Links, no_links, field, item, Joint, plain_dot, optional_dot, Bracket, plain_bracket, optional_bracket, Attributes, no_attributes, bare, quoted, valued, spreading}
use Rattle.tera_grammar.specs.expressions.Conditions.{is_field_of}
use Rattle.tera_grammar.specs.expressions.Reading.Front.{Place, at, lowered, among, Link, no_link, jointed, bracketed, called, link_marks, marked_link, link_of, Reads, skip, name_kind, quote_kind, name_of, quote_at}
use Rattle.tera_grammar.specs.expressions.Reading.Bracketed.{Reader, sub_of, links_at, links_by, links_of, value_at, named_at, attribute_at, attributes_by, attributes_of}
use Rattle.tera_grammar.specs.expressions.Reading.Rooms.{Room}
use Rattle.tera_grammar.specs.Reads.{found, stopped, ◌>>=◌, given}
use Rattle.tera_grammar.proofs.stops.Local.{SameHead, at_token, local_near, local_past, past_size, local_enough, bind_both}
use Rattle.tera_grammar.proofs.stops.Lowest.{place, IsLocal, here, stop, after, left_size, ask, one_less, skip_local, skip_less, name_local, name_less, ask_mark, local_cond}
use Rattle.tera_grammar.proofs.stops.Bracketed.{sub_local}

-- what a token begins, without what comes after it
data Hook : Type 0 where
  nowhere : Hook
  calling : Hook
  dotting : Joint → Hook
  bracing : Bracket → Hook

abbrev hook_of : Mark → Span → Hook
hook_of Dot s = dotting (plain_dot s)
hook_of QuestionDot s = dotting (optional_dot s)
hook_of LeftBracket s = bracing (plain_bracket s)
hook_of QuestionBracket s = bracing (optional_bracket s)
hook_of LeftParen s = calling
hook_of _ s = nowhere

abbrev hooked : Hook → Items → Link
hooked nowhere us = no_link
hooked calling us = called
hooked (dotting d) us = jointed d us
hooked (bracing b) us = bracketed b us

hook_is : (m : Mark) (s : Span) (us : Items) → hooked (hook_of m s) us ≡ marked_link m s us
hook_is Dot s us = refl
hook_is QuestionDot s us = refl
hook_is LeftBracket s us = refl
hook_is QuestionBracket s us = refl
hook_is LeftParen s us = refl
hook_is _ s us = refl

abbrev hook_at : Tok → Span → Hook
hook_at t s = hook_of (among link_marks t) s

link_is : (t : Tok) (s : Span) (us : Items) → link_of (Token t s us) ≡ hooked (hook_at t s) us
unfolding link_of
link_is t s us = sym (hook_is (among link_marks t) s us)

no_link_at_end : link_of Ended ≡ no_link
unfolding link_of
no_link_at_end = refl

no_link_at_fault : (text : List ℕ) (there : Span) → link_of (Failed text there) ≡ no_link
unfolding link_of
no_link_at_fault text there = refl

module _ (self : Reader) (local : (w : Room) (m k : ℕ) (ts : Items) → IsLocal (λ us. self w m (at k us)) ts) where
  -- a link that counts: reading stops before its token where none may come
  module _ {A : Type 0} (k : ℕ) (g : Place → Reads A) where
    pub counted : (o : Option ℕ) (t : Tok) (s : Span) (us : Items) → ((j : ℕ) → IsLocal (λ vs. g (at j vs)) us) → (F : Items → Reads A)
        → ((r : Span) (vs : Items) → s ≡ r → F (Token t r vs) ≡ ((given (Token t r vs) o >>= λ j. found (at j vs)) >>= g)) → IsLocal F (Token t s us)
    counted None t s us goes F is =
        local_near place at_token at_token F stopped (Token t s us) (refl, refl) near (stop (Token t s us))
      where
        near : (vs : Items) → SameHead (Token t s us) vs → F vs ≡ stopped vs
        near (Token u r vs) h = ap (λ w. F (Token w r vs)) (sym h.0) ∙ is r vs h.1 ∙ ap (λ w. stopped (Token w r vs)) h.0
        near Ended h = absurd h
        near (Failed text there) h = absurd h
    counted (Some j) t s us goes F is = local_past place at_token at_token F (λ vs. g (at j vs)) t s us (λ vs. is s vs refl) (goes j)

    no_read : {A : Type 0} (z : Items) (x : A × Place) → stopped z ≡ found x → ⊥
    no_read z x h = cc

    pub counted_less : (o : Option ℕ) (t : Tok) (s : Span) (us : Items) → ((j : ℕ) → IsLocal (λ vs. g (at j vs)) us) → (F : Items → Reads A)
        → ((r : Span) (vs : Items) → s ≡ r → F (Token t r vs) ≡ ((given (Token t r vs) o >>= λ j. found (at j vs)) >>= g))
        → (x : A × Place) → F (Token t s us) ≡ found x → size x.1.tokens < size (Token t s us)
    counted_less None t s us goes F is x h = absurd (no_read (Token t s us) x (sym (is s us refl) ∙ h))
    counted_less (Some j) t s us goes F is x h = past_size place at_token at_token F (λ vs. g (at j vs)) t s us (λ vs. is s vs refl) (goes j) x h

  links_turn : (w : Room) (c : Bool) (more : Place → Reads Links) → ((k : ℕ) (ts : Items) → IsLocal (λ us. more (at k us)) ts) → (k : ℕ) (ts : Items)
      → IsLocal (λ us. links_at more self w c (at k us) (link_of us)) ts
  links_turn w c more goes k (Token t s us) = by (hook_at t s) refl
    where
      shape : (h : Hook) → hook_at t s ≡ h → (r : Span) (vs : Items) → s ≡ r → links_at more self w c (at k (Token t r vs)) (link_of (Token t r vs)) ≡ links_at more self w c (at k (Token t r vs)) (hooked h vs)
      shape h is r vs same = ap (links_at more self w c (at k (Token t r vs))) (link_is t r vs ∙ ap (λ x. hooked (hook_at t x) vs) (sym same) ∙ ap (λ x. hooked x vs) is)

      stays : (h : Hook) → hook_at t s ≡ h → (g : Items → Reads Links) → ((vs us : Items) → links_at more self w c (at k vs) (hooked h us) ≡ g vs) → IsLocal g (Token t s us)
          → IsLocal (λ vs. links_at more self w c (at k vs) (link_of vs)) (Token t s us)
      stays h is g same one = local_near place at_token at_token _ g (Token t s us) (refl, refl) near one
        where
          near : (vs : Items) → SameHead (Token t s us) vs → links_at more self w c (at k vs) (link_of vs) ≡ g vs
          near (Token u r vs) e =
              ap (λ x. links_at more self w c (at k (Token x r vs)) (link_of (Token x r vs))) (sym e.0) ∙ shape h is r vs e.1 ∙ same (Token t r vs) vs ∙ ap (λ x. g (Token x r vs)) e.0
          near Ended e = absurd e
          near (Failed text there) e = absurd e

      by : (h : Hook) → hook_at t s ≡ h → IsLocal (λ vs. links_at more self w c (at k vs) (link_of vs)) (Token t s us)
      by nowhere is = stays nowhere is (λ vs. found (no_links, at k vs)) (λ vs us. refl) (here (at k (Token t s us)) no_links)
      by calling is = stays calling is (λ vs. stopped vs) (λ vs us. refl) (stop (Token t s us))
      by (dotting d) is =
          counted k (λ q. name_of q >>= λ n. cond (is_field_of c n.0.text) (more n.1 >>= λ ls. found (field d n.0 ls.0, ls.1)) (stopped n.1.tokens)) (lowered k) t s us
          (λ j. after (λ vs. name_of (at j vs)) (λ n q. cond (is_field_of c n.text) (more q >>= λ ls. found (field d n ls.0, ls.1)) (stopped q.tokens)) us (name_local j us)
          (λ n q read. local_cond (is_field_of c n.text) (λ vs. more (at q.links vs) >>= λ ls. found (field d n ls.0, ls.1)) (λ vs. stopped vs) q.tokens
          (after (λ vs. more (at q.links vs)) (λ ls r. found (field d n ls, r)) q.tokens (goes q.links q.tokens) (λ ls r rest. here r (field d n ls))) (stop q.tokens)))
          (λ vs. links_at more self w c (at k vs) (link_of vs)) (λ r vs same. shape (dotting d) is r vs same)
      by (bracing b) is =
          counted k (λ q. sub_of self w q >>= λ e. more e.1 >>= λ ls. found (item b e.0 ls.0, ls.1)) (lowered k) t s us
          (λ j. after (λ vs. sub_of self w (at j vs)) (λ e q. more q >>= λ ls. found (item b e ls.0, ls.1)) us (sub_local self local w j us)
          (λ e q read. after (λ vs. more (at q.links vs)) (λ ls r. found (item b e ls, r)) q.tokens (goes q.links q.tokens) (λ ls r rest. here r (item b e ls))))
          (λ vs. links_at more self w c (at k vs) (link_of vs)) (λ r vs same. shape (bracing b) is r vs same)
  links_turn w c more goes k Ended =
      local_near place at_token at_token (λ vs. links_at more self w c (at k vs) (link_of vs)) (λ vs. found (no_links, at k vs)) Ended refl
      (λ vs h. rw h (ap (links_at more self w c (at k Ended)) no_link_at_end)) (here (at k Ended) no_links)
  links_turn w c more goes k (Failed text there) =
      local_near place at_token at_token (λ vs. links_at more self w c (at k vs) (link_of vs)) (λ vs. found (no_links, at k vs)) (Failed text there) refl
      (λ vs h. rw h (ap (links_at more self w c (at k (Failed text there))) (no_link_at_fault text there))) (here (at k (Failed text there)) no_links)

  links_by_local : (n : ℕ) (w : Room) (c : Bool) (k : ℕ) (ts : Items) → IsLocal (λ us. links_by n self w c (at k us)) ts
  unfolding links_by
  links_by_local zero w c k ts = stop ts
  links_by_local (suc n) w c k ts = links_turn w c (links_by n self w c) (links_by_local n w c) k ts

  -- after a dot, and after a bracket
  abbrev dotted_on : Bool → Joint → (Place → Reads Links) → Place → Reads Links
  dotted_on c d more q = name_of q >>= λ n. cond (is_field_of c n.0.text) (more n.1 >>= λ ls. found (field d n.0 ls.0, ls.1)) (stopped n.1.tokens)

  abbrev braced_on : Room → Bracket → (Place → Reads Links) → Place → Reads Links
  braced_on w b more q = sub_of self w q >>= λ e. more e.1 >>= λ ls. found (item b e.0 ls.0, ls.1)

  abbrev linked_on : Items → Items → Option ℕ → (Place → Reads Links) → Reads Links
  linked_on before us o g = (given before o >>= λ j. found (at j us)) >>= g

  on_dot : (c : Bool) (d : Joint) (more other : Place → Reads Links) (before us : Items) → ((q : Place) → size q.tokens ≤ size us → more q ≡ other q) → (o : Option ℕ)
      → linked_on before us o (dotted_on c d more) ≡ linked_on before us o (dotted_on c d other)
  on_dot c d more other before us same None = refl
  on_dot c d more other before us same (Some j) =
      bind_both (name_of (at j us)) _ _ (λ n read.
      let less = name_less (at j us) n read in
      ap (λ o. cond (is_field_of c n.0.text) (o >>= λ ls. found (field d n.0 ls.0, ls.1)) (stopped n.1.tokens)) (same n.1 (omega (arith, less))))

  on_brace : (w : Room) (b : Bracket) (more other : Place → Reads Links) (before us : Items) → ((q : Place) → size q.tokens ≤ size us → more q ≡ other q) → (o : Option ℕ)
      → linked_on before us o (braced_on w b more) ≡ linked_on before us o (braced_on w b other)
  on_brace w b more other before us same None = refl
  on_brace w b more other before us same (Some j) =
      bind_both (sub_of self w (at j us)) _ _ (λ e read.
      let less = left_size (λ vs. sub_of self w (at j vs)) us e (sub_local self local w j us) read in
      ap (λ o. o >>= λ ls. found (item b e.0 ls.0, ls.1)) (same e.1 less))

  -- more turns than tokens are as good as any other number of them
  links_same : (w : Room) (c : Bool) (more other : Place → Reads Links) (k : ℕ) (ts : Items) → ((q : Place) → size q.tokens < size ts → more q ≡ other q)
      → links_at more self w c (at k ts) (link_of ts) ≡ links_at other self w c (at k ts) (link_of ts)
  links_same w c more other k (Token t s us) same =
      ap (links_at more self w c (at k (Token t s us))) (link_is t s us) ∙ by (hook_at t s) ∙ sym (ap (links_at other self w c (at k (Token t s us))) (link_is t s us))
    where
      by : (h : Hook) → links_at more self w c (at k (Token t s us)) (hooked h us) ≡ links_at other self w c (at k (Token t s us)) (hooked h us)
      by nowhere = refl
      by calling = refl
      by (dotting d) = on_dot c d more other (Token t s us) us (λ q le. same q (omega (arith, le))) (lowered k)
      by (bracing b) = on_brace w b more other (Token t s us) us (λ q le. same q (omega (arith, le))) (lowered k)
  links_same w c more other k Ended same = ap (links_at more self w c (at k Ended)) no_link_at_end ∙ sym (ap (links_at other self w c (at k Ended)) no_link_at_end)
  links_same w c more other k (Failed text there) same =
      ap (links_at more self w c (at k (Failed text there))) (no_link_at_fault text there) ∙ sym (ap (links_at other self w c (at k (Failed text there))) (no_link_at_fault text there))

  links_stable : (w : Room) (c : Bool) (k n m : ℕ) (ts : Items) → size ts < n → size ts < m → links_by n self w c (at k ts) ≡ links_by m self w c (at k ts)
  unfolding links_by
  links_stable w c k zero m ts a b = absurd (omega (arith, a))
  links_stable w c k (suc n) zero ts a b = absurd (omega (arith, b))
  links_stable w c k (suc n) (suc m) ts a b =
      links_same w c (links_by n self w c) (links_by m self w c) k ts (λ q lt. links_stable w c q.links n m q.tokens (omega (arith, a, lt)) (omega (arith, b, lt)))

  pub links_steps : (w : Room) (c : Bool) (p : Place) → links_of self w c p ≡ links_at (links_of self w c) self w c p (link_of p.tokens)
  unfolding links_of links_by
  links_steps w c p =
      links_same w c (links_by (size p.tokens) self w c) (links_of self w c) p.links p.tokens
      (λ q lt. links_stable w c q.links (size p.tokens) (suc (size q.tokens)) q.tokens lt (omega arith))

  pub links_local : (w : Room) (c : Bool) (k : ℕ) (ts : Items) → IsLocal (λ us. links_of self w c (at k us)) ts
  unfolding links_of
  links_local w c k ts = local_enough place at_token at_token (λ n us. links_by n self w c (at k us)) (links_stable w c k) (λ n us. links_by_local n w c k us) ts

  -- attributes
  module _ (w : Room) (more : Place → Reads Attributes) (goes : (k : ℕ) (ts : Items) → IsLocal (λ us. more (at k us)) ts) where
    -- what is in braces, and further attributes
    braced : (make : Span → Tree → Span → Attributes → Attributes) (s : Span) (k : ℕ) (ts : Items)
        → IsLocal (λ us. self w 0 (at k us) >>= λ e. skip RightBrace e.1 >>= λ c. more c.1 >>= λ r. found (make s e.0 c.0 r.0, r.1)) ts
    braced make s k ts =
        after (λ us. self w 0 (at k us)) (λ e q. skip RightBrace q >>= λ c. more c.1 >>= λ r. found (make s e c.0 r.0, r.1)) ts (local w 0 k ts)
        (λ e q read. after (λ us. skip RightBrace (at q.links us)) (λ c v. more v >>= λ r. found (make s e c r.0, r.1)) q.tokens (skip_local RightBrace q.links q.tokens)
        (λ c v closed. after (λ us. more (at v.links us)) (λ r x. found (make s e c r, x)) v.tokens (goes v.links v.tokens) (λ r x rest. here x (make s e c r))))

    value_local : (n : Name) (s : Span) (k : ℕ) (ts : Items) → IsLocal (λ us. value_at more self w n s (at k us) (quote_at (at k us))) ts
    unfolding quote_at
    value_local n s k ts =
        ask quote_kind k (value_at more self w n s) (λ x q. more q >>= λ r. found (quoted n s x.0 x.1 r.0, r.1))
        (λ q. skip LeftBrace q >>= λ b. self w 0 b.1 >>= λ e. skip RightBrace e.1 >>= λ c. more c.1 >>= λ r. found (valued n s b.0 e.0 c.0 r.0, r.1))
        (λ q x. refl) (λ q z. refl) ts
        (λ t r us x is. after (λ vs. more (at k vs)) (λ a q. found (quoted n s x.0 x.1 a, q)) us (goes k us) (λ a q rest. here q (quoted n s x.0 x.1 a)))
        (after (λ us. skip LeftBrace (at k us)) (λ b q. self w 0 q >>= λ e. skip RightBrace e.1 >>= λ c. more c.1 >>= λ r. found (valued n s b e.0 c.0 r.0, r.1)) ts (skip_local LeftBrace k ts)
        (λ b q begun. braced (valued n s) b q.links q.tokens))

    named_local : (n : Name) (k : ℕ) (ts : Items) → IsLocal (λ us. named_at more self w n (at k us) (skip Assign (at k us))) ts
    named_local n k ts =
        ask_mark Assign k (named_at more self w n) (λ s q. value_at more self w n s q (quote_at q)) (λ q. more q >>= λ r. found (bare n r.0, r.1)) (λ q x. refl) (λ q z. refl) ts
        (λ t s us x is. value_local n x k us)
        (after (λ us. more (at k us)) (λ r q. found (bare n r, q)) ts (goes k ts) (λ r q rest. here q (bare n r)))

    alike : (q : Place) (z : Items) (o : Reads Span) → attribute_at more self w q (stopped z) o ≡ attribute_at more self w q (stopped Ended) o
    alike q z (found x) = refl
    alike q z (stopped y) = refl

    spread_local : (b : Span) (k : ℕ) (ts : Items)
        → IsLocal (λ us. skip Spread (at k us) >>= λ s. self w 0 s.1 >>= λ e. skip RightBrace e.1 >>= λ c. more c.1 >>= λ r. found (spreading b s.0 e.0 c.0 r.0, r.1)) ts
    spread_local b k ts =
        after (λ us. skip Spread (at k us)) (λ s q. self w 0 q >>= λ e. skip RightBrace e.1 >>= λ c. more c.1 >>= λ r. found (spreading b s e.0 c.0 r.0, r.1)) ts (skip_local Spread k ts)
        (λ s q dots. braced (spreading b) s q.links q.tokens)

    attribute_local : (k : ℕ) (ts : Items) → IsLocal (λ us. attribute_at more self w (at k us) (name_of (at k us)) (skip LeftBrace (at k us))) ts
    unfolding name_of
    attribute_local k ts =
        ask name_kind k (λ q o. attribute_at more self w q o (skip LeftBrace q)) (λ n q. named_at more self w n q (skip Assign q))
        (λ q. attribute_at more self w q (stopped Ended) (skip LeftBrace q)) (λ q x. refl) (λ q z. alike q z (skip LeftBrace q)) ts
        (λ t s us x is. named_local x k us)
        (ask_mark LeftBrace k (λ q o. attribute_at more self w q (stopped Ended) o)
        (λ b q. skip Spread q >>= λ s. self w 0 s.1 >>= λ e. skip RightBrace e.1 >>= λ c. more c.1 >>= λ r. found (spreading b s.0 e.0 c.0 r.0, r.1))
        (λ q. found (no_attributes, q)) (λ q x. refl) (λ q z. refl) ts (λ t s us x is. spread_local x k us) (here (at k ts) no_attributes))

  -- what is in braces, further on
  abbrev braced_by : Room → (Span → Tree → Span → Attributes → Attributes) → Span → (Place → Reads Attributes) → Place → Reads Attributes
  braced_by w make s more p = self w 0 p >>= λ e. skip RightBrace e.1 >>= λ c. more c.1 >>= λ r. found (make s e.0 c.0 r.0, r.1)

  braced_same : (w : Room) (make : Span → Tree → Span → Attributes → Attributes) (s : Span) (more other : Place → Reads Attributes) (p : Place)
      → ((q : Place) → size q.tokens < size p.tokens → more q ≡ other q) → braced_by w make s more p ≡ braced_by w make s other p
  braced_same w make s more other p same =
      bind_both (self w 0 p) _ _ (λ e read.
      let one = left_size (λ us. self w 0 (at p.links us)) p.tokens e (local w 0 p.links p.tokens) read in
      bind_both (skip RightBrace e.1) _ _ (λ c closed.
      let two = skip_less RightBrace e.1 c closed in
      ap (λ o. o >>= λ r. found (make s e.0 c.0 r.0, r.1)) (same c.1 (omega (arith, one, two)))))

  quote_less : (p : Place) (x : (Quote × Span) × Place) → quote_at p ≡ found x → size x.1.tokens < size p.tokens
  unfolding quote_at
  quote_less p x h = one_less quote_kind p.links p.tokens x h

  value_same : (w : Room) (n : Name) (s : Span) (more other : Place → Reads Attributes) (p : Place) → ((q : Place) → size q.tokens < size p.tokens → more q ≡ other q)
      → (o : Reads (Quote × Span)) → quote_at p ≡ o → value_at more self w n s p o ≡ value_at other self w n s p o
  value_same w n s more other p same (found x) is = ap (λ o. o >>= λ r. found (quoted n s x.0.0 x.0.1 r.0, r.1)) (same x.1 (quote_less p x is))
  value_same w n s more other p same (stopped z) is =
      bind_both (skip LeftBrace p) _ _ (λ b begun.
      let less = skip_less LeftBrace p b begun in
      braced_same w (valued n s) b.0 more other b.1 (λ q lt. same q (omega (arith, less, lt))))

  named_same : (w : Room) (n : Name) (more other : Place → Reads Attributes) (p : Place) → ((q : Place) → size q.tokens ≤ size p.tokens → more q ≡ other q)
      → (o : Reads Span) → skip Assign p ≡ o → named_at more self w n p o ≡ named_at other self w n p o
  named_same w n more other p same (stopped z) is = ap (λ o. o >>= λ r. found (bare n r.0, r.1)) (same p (le_refl _))
  named_same w n more other p same (found x) is =
      let less = skip_less Assign p x is in
      value_same w n x.0 more other x.1 (λ q lt. same q (omega (arith, less, lt))) (quote_at x.1) refl

  attribute_same : (w : Room) (more other : Place → Reads Attributes) (p : Place) → ((q : Place) → size q.tokens < size p.tokens → more q ≡ other q)
      → (o : Reads Name) → name_of p ≡ o → (b : Reads Span) → skip LeftBrace p ≡ b → attribute_at more self w p o b ≡ attribute_at other self w p o b
  attribute_same w more other p same (found n) is b at_brace =
      let less = name_less p n is in
      named_same w n.0 more other n.1 (λ q le. same q (omega (arith, less, le))) (skip Assign n.1) refl
  attribute_same w more other p same (stopped z) is (found b) at_brace =
      let one = skip_less LeftBrace p b at_brace in
      bind_both (skip Spread b.1) _ _ (λ s dots.
      let two = skip_less Spread b.1 s dots in
      braced_same w (spreading b.0) s.0 more other s.1 (λ q lt. same q (omega (arith, one, two, lt))))
  attribute_same w more other p same (stopped z) is (stopped y) at_brace = refl

  attributes_by_local : (n : ℕ) (w : Room) (k : ℕ) (ts : Items) → IsLocal (λ us. attributes_by n self w (at k us)) ts
  unfolding attributes_by
  attributes_by_local zero w k ts = stop ts
  attributes_by_local (suc n) w k ts = attribute_local w (attributes_by n self w) (attributes_by_local n w) k ts

  attributes_stable : (w : Room) (k n m : ℕ) (ts : Items) → size ts < n → size ts < m → attributes_by n self w (at k ts) ≡ attributes_by m self w (at k ts)
  unfolding attributes_by
  attributes_stable w k zero m ts a b = absurd (omega (arith, a))
  attributes_stable w k (suc n) zero ts a b = absurd (omega (arith, b))
  attributes_stable w k (suc n) (suc m) ts a b =
      attribute_same w (attributes_by n self w) (attributes_by m self w) (at k ts) (λ q lt. attributes_stable w q.links n m q.tokens (omega (arith, a, lt)) (omega (arith, b, lt)))
      (name_of (at k ts)) refl (skip LeftBrace (at k ts)) refl

  pub attributes_steps : (w : Room) (p : Place) → attributes_of self w p ≡ attribute_at (attributes_of self w) self w p (name_of p) (skip LeftBrace p)
  unfolding attributes_of attributes_by
  attributes_steps w p =
      attribute_same w (attributes_by (size p.tokens) self w) (attributes_of self w) p
      (λ q lt. attributes_stable w q.links (size p.tokens) (suc (size q.tokens)) q.tokens lt (omega arith)) (name_of p) refl (skip LeftBrace p) refl

  pub attributes_local : (w : Room) (k : ℕ) (ts : Items) → IsLocal (λ us. attributes_of self w (at k us)) ts
  unfolding attributes_of
  attributes_local w k ts = local_enough place at_token at_token (λ n us. attributes_by n self w (at k us)) (attributes_stable w k) (λ n us. attributes_by_local n w k us) ts
