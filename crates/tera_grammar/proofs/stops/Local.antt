-- Reading depends on the tokens up to where it is, on the one after, and, where a tag starts there, on the token after
-- that; and on no more.
use Rattle.std.proofs.Common.{◌≡◌, ℕ, suc, ◌+◌, ◌<◌, ◌≤◌, arith, Bool, Option, Some, None, List, [], ◌∷◌, ◌++◌, length, refl, sym, ap, subst, ◌∙◌}
use Rattle.tera_base.specs.declared.utils.Span.{Span}
use Rattle.tera_lexer.specs.code.Cursors.{size}
use Rattle.tera_lexer.specs.grammar.Tokens.{Tok, Start, Items, Ended, Failed, Token}
use Rattle.tera_lexer.specs.declared.lexer.delimiters.Kind.TheVariants as kind
use Rattle.tera_grammar.specs.Reads.{Read, found, stopped, ◌>>=◌, given, first_as}
use Rattle.tera_grammar.specs.statements.Reading.TagParts.{wrong_after, wrong_at}

-- tokens in front of others
abbrev pub in_front : List (Tok × Span) → Items → Items
in_front [] r = r
in_front (x ∷ xs) r = Token x.0 x.1 (in_front xs r)

pub front_both : (xs ys : List (Tok × Span)) (r : Items) → in_front (xs ++ ys) r ≡ in_front xs (in_front ys r)
front_both [] ys r = refl
front_both (x ∷ xs) ys r = ap (Token x.0 x.1) (front_both xs ys r)

-- the same is first: a token, the end or the fault
abbrev pub SameHead : Items → Items → Type 0
SameHead (Token t s us) (Token u r vs) = (t ≡ u) × (s ≡ r)
SameHead (Token t s us) others = ⊥
SameHead (Failed text here) others = others ≡ Failed text here
SameHead Ended others = others ≡ Ended

-- after the start of a tag the same is first
abbrev pub SameAfter : Tok → Items → Items → Type 0
SameAfter (Start kind.Block dash) us vs = SameHead us vs
SameAfter t us vs = Unit {0}

-- the same is first, and after it too where it is the start of a tag
abbrev pub SameTag : Items → Items → Type 0
SameTag (Token t s us) (Token u r vs) = (t ≡ u) × (s ≡ r) × SameAfter t us vs
SameTag (Token t s us) others = ⊥
SameTag (Failed text here) others = others ≡ Failed text here
SameTag Ended others = others ≡ Ended

-- how far reading looks: at the next token, or at the first token of a tag too
pub data Look : Type 0 where
  at_token : Look
  at_tag : Look

abbrev pub SameBy : Look → Items → Items → Type 0
SameBy at_token us vs = SameHead us vs
SameBy at_tag us vs = SameTag us vs

after_same : (t : Tok) (us vs : Items) → SameHead us vs → SameAfter t us vs
after_same (Start kind.Block dash) us vs h = h
after_same (Start kind.Variable dash) us vs h = tt
after_same t us vs h = tt

pub tag_head : (us vs : Items) → SameTag us vs → SameHead us vs
tag_head (Token t s us) (Token u r vs) h = (h.0, h.1)
tag_head (Token t s us) Ended h = absurd h
tag_head (Token t s us) (Failed text here) h = absurd h
tag_head (Failed text here) vs h = h
tag_head Ended vs h = h

pub by_head : (l : Look) (us vs : Items) → SameBy l us vs → SameHead us vs
by_head at_token us vs h = h
by_head at_tag us vs h = tag_head us vs h

pub head_front : (ys : List (Tok × Span)) (z us : Items) → SameHead z us → SameHead (in_front ys z) (in_front ys us)
head_front [] z us h = h
head_front (y ∷ ys) z us h = (refl, refl)

-- after one token the next is enough
pub took_same : (l : Look) (y : Tok × Span) (ys : List (Tok × Span)) (z us : Items) → SameHead z us → SameBy l (in_front (y ∷ ys) z) (in_front (y ∷ ys) us)
took_same at_token y ys z us h = (refl, refl)
took_same at_tag y ys z us h = (refl, refl, after_same y.0 (in_front ys z) (in_front ys us) (head_front ys z us h))

-- places: the tokens that are not yet taken, and the same place with others
pub record After (P : Type 0) : Type 0 where
  pub tokens : P → Items
  pub at : P → Items → P
  pub at_tokens : (p : P) → at p (tokens p) ≡ p
  pub tokens_at : (p : P) (us : Items) → tokens (at p us) ≡ us
  pub at_at : (p : P) (us vs : Items) → at (at p us) vs ≡ at p vs

abbrev pub items_after : After Items
items_after = record { tokens = λ ts. ts; at = λ ts us. us; at_tokens = λ ts. refl; tokens_at = λ ts us. refl; at_at = λ ts us vs. refl }

-- the tokens that a reading leaves unread, and the same with other tokens there
abbrev pub unread : {A P : Type 0} → After P → Read (A × P) → Items
unread b (found x) = b.tokens x.1
unread b (stopped z) = z

abbrev pub put : {A P : Type 0} → After P → Read (A × P) → Items → Read (A × P)
put b (found x) us = found (x.0, b.at x.1 us)
put b (stopped z) us = stopped us

-- the same is there, as far as what is found looks; what stops looks at the next token alone
abbrev pub Agrees : {A P : Type 0} → After P → Look → Read (A × P) → Items → Type 0
Agrees b l (found x) us = SameBy l (b.tokens x.1) us
Agrees b l (stopped z) us = SameHead z us

-- From tokens that look so far to those that look so far: a reader takes some tokens, and does the same where others
-- follow that begin as these do.
pub record Local {A P : Type 0} (b : After P) (from to : Look) (f : Items → Read (A × P)) (ts : Items) : Type 0 where
  pub taken : List (Tok × Span)
  pub spelled : ts ≡ in_front taken (unread b (f ts))
  pub same : (us : Items) → Agrees b to (f ts) us → f (in_front taken us) ≡ put b (f ts) us
  pub begins : (us : Items) → Agrees b to (f ts) us → SameBy from ts (in_front taken us)

-- one reader after another
module _ {A B P Q : Type 0} (p : After P) (q : After Q) (from mid to : Look) (f : Items → Read (A × P)) (g : A → P → Read (B × Q)) where
  past : (ts : Items) (x : A × P) → f ts ≡ found x → Local p from mid f ts → Local q mid to (λ us. g x.0 (p.at x.1 us)) (p.tokens x.1)
      → Local q from to (λ us. f us >>= λ x. g x.0 x.1) ts
  past ts x is one two =
      let again : g x.0 (p.at x.1 (p.tokens x.1)) ≡ g x.0 x.1 = ap (g x.0) (p.at_tokens x.1) in
      let whole : (f ts >>= λ x. g x.0 x.1) ≡ g x.0 (p.at x.1 (p.tokens x.1)) = ap (λ o. o >>= λ x. g x.0 x.1) is ∙ sym again in
      let next : (us : Items) → Agrees q to (f ts >>= λ x. g x.0 x.1) us → Agrees p mid (f ts) (in_front two.taken us) =
      λ us h. subst (λ o. Agrees p mid o (in_front two.taken us)) (sym is) (two.begins us (subst (λ o. Agrees q to o us) whole h)) in
      record {
        taken = one.taken ++ two.taken;
        spelled = one.spelled ∙ ap (λ o. in_front one.taken (unread p o)) is ∙ ap (in_front one.taken) two.spelled
            ∙ sym (front_both one.taken two.taken (unread q (g x.0 (p.at x.1 (p.tokens x.1)))))
            ∙ sym (ap (λ o. in_front (one.taken ++ two.taken) (unread q o)) whole);
        same = λ us h.
            ap (λ vs. f vs >>= λ x. g x.0 x.1) (front_both one.taken two.taken us)
            ∙ ap (λ o. o >>= λ x. g x.0 x.1) (one.same (in_front two.taken us) (next us h) ∙ ap (λ o. put p o (in_front two.taken us)) is)
            ∙ two.same us (subst (λ o. Agrees q to o us) whole h)
            ∙ sym (ap (λ o. put q o us) whole);
        begins = λ us h. subst (SameBy from ts) (sym (front_both one.taken two.taken us)) (one.begins (in_front two.taken us) (next us h));
      }

  pub local_bind : (ts : Items) → Local p from mid f ts
      → ((x : A × P) → f ts ≡ found x → Local q mid to (λ us. g x.0 (p.at x.1 us)) (p.tokens x.1))
      → Local q from to (λ us. f us >>= λ x. g x.0 x.1) ts
  local_bind ts one two = goes (f ts) refl
    where
      goes : (o : Read (A × P)) → f ts ≡ o → Local q from to (λ us. f us >>= λ x. g x.0 x.1) ts
      goes (found x) is = past ts x is one (two x is)
      goes (stopped z) is =
          let whole : (f ts >>= λ x. g x.0 x.1) ≡ stopped z = ap (λ o. o >>= λ x. g x.0 x.1) is in
          let next : (us : Items) → Agrees q to (f ts >>= λ x. g x.0 x.1) us → Agrees p mid (f ts) us =
          λ us h. subst (λ o. Agrees p mid o us) (sym is) (subst (λ o. Agrees q to o us) whole h) in
          record {
            taken = one.taken;
            spelled = one.spelled ∙ ap (λ o. in_front one.taken (unread p o)) is ∙ sym (ap (λ o. in_front one.taken (unread q o)) whole);
            same = λ us h.
                ap (λ o. o >>= λ x. g x.0 x.1) (one.same us (next us h) ∙ ap (λ o. put p o us) is) ∙ sym (ap (λ o. put q o us) whole);
            begins = λ us h. one.begins us (next us h);
          }

-- nothing is taken
module _ {A P : Type 0} (b : After P) where
  pub local_here : (l : Look) (p : P) (x : A) → Local b l l (λ us. found (x, b.at p us)) (b.tokens p)
  local_here l p x = record {
    taken = [];
    spelled = sym (ap b.tokens (b.at_tokens p));
    same = λ us h. ap (λ (q : P). found (x, b.at q us)) (sym (b.at_tokens p));
    begins = λ us h. subst (λ z. SameBy l z us) (ap b.tokens (b.at_tokens p)) h;
  }

  pub local_stop : (to : Look) (ts : Items) → Local {A = A} b at_token to (λ us. stopped us) ts
  local_stop to ts = record { taken = []; spelled = refl; same = λ us h. refl; begins = λ us h. h }

  -- a reader under another name
  pub local_as : (from to : Look) (f g : Items → Read (A × P)) (ts : Items) → ((us : Items) → f us ≡ g us) → Local b from to f ts → Local b from to g ts
  local_as from to f g ts is one =
      let back : (us : Items) → Agrees b to (g ts) us → Agrees b to (f ts) us = λ us h. subst (λ o. Agrees b to o us) (sym (is ts)) h in
      record {
        taken = one.taken;
        spelled = one.spelled ∙ ap (λ o. in_front one.taken (unread b o)) (is ts);
        same = λ us h. sym (is _) ∙ one.same us (back us h) ∙ ap (λ o. put b o us) (is ts);
        begins = λ us h. one.begins us (back us h);
      }

  -- what begins the same with more has the same next token
  pub local_less : (from to : Look) (f : Items → Read (A × P)) (ts : Items) → Local b from to f ts → Local b at_token to f ts
  local_less from to f ts one = record {
    taken = one.taken;
    spelled = one.spelled;
    same = one.same;
    begins = λ us h. by_head from ts (in_front one.taken us) (one.begins us h);
  }

  agrees_head : (to : Look) (o : Read (A × P)) (us : Items) → Agrees b to o us → SameHead (unread b o) us
  agrees_head to (found x) us h = by_head to (b.tokens x.1) us h
  agrees_head to (stopped z) us h = h

  -- one token, and what a reader does after it
  pub local_past : (from to : Look) (f g : Items → Read (A × P)) (t : Tok) (s : Span) (ts : Items) → ((us : Items) → f (Token t s us) ≡ g us)
      → Local b at_token to g ts → Local b from to f (Token t s ts)
  local_past from to f g t s ts is one =
      let back : (us : Items) → Agrees b to (f (Token t s ts)) us → Agrees b to (g ts) us = λ us h. subst (λ o. Agrees b to o us) (is ts) h in
      record {
        taken = (t, s) ∷ one.taken;
        spelled = ap (Token t s) (one.spelled ∙ sym (ap (λ o. in_front one.taken (unread b o)) (is ts)));
        same = λ us h. is _ ∙ one.same us (back us h) ∙ sym (ap (λ o. put b o us) (is ts));
        begins = λ us h. subst (λ z. SameBy from (Token t s z) (in_front ((t, s) ∷ one.taken) us)) (sym one.spelled)
            (took_same from (t, s) one.taken (unread b (g ts)) us (agrees_head to (g ts) us (back us h)));
      }

-- how many tokens are left
pub front_size : (xs : List (Tok × Span)) (z : Items) → size z ≤ size (in_front xs z)
front_size [] z = omega arith
front_size (x ∷ xs) z = let more = front_size xs z in omega (arith, more)

module _ {A P : Type 0} (b : After P) where
  pub local_size : (from to : Look) (f : Items → Read (A × P)) (ts : Items) → Local b from to f ts → (x : A × P) → f ts ≡ found x → size (b.tokens x.1) ≤ size ts
  local_size from to f ts one x is =
      let long = front_size one.taken (unread b (f ts)) in
      let whole = ap size one.spelled in
      let left = ap (λ o. size (unread b o)) is in
      omega (arith, long, whole, left)

  pub past_size : (from to : Look) (f g : Items → Read (A × P)) (t : Tok) (s : Span) (ts : Items) → ((us : Items) → f (Token t s us) ≡ g us)
      → Local b from to g ts → (x : A × P) → f (Token t s ts) ≡ found x → size (b.tokens x.1) < size (Token t s ts)
  past_size from to f g t s ts is one x h = let less = local_size from to g ts one x (sym (is ts) ∙ h) in omega (arith, less)

  -- a look that takes nothing
  pub local_look : (x : A) (p : P) (f : Items → Read (A × P)) (ts : Items) → SameTag ts ts → ((us : Items) → SameTag ts us → f us ≡ found (x, b.at p us))
      → Local b at_tag at_tag f ts
  local_look x p f ts self is =
      let whole : f ts ≡ found (x, b.at p ts) = is ts self in
      let here : unread b (f ts) ≡ ts = ap (λ o. unread b o) whole ∙ b.tokens_at p ts in
      let same : (us : Items) → Agrees b at_tag (f ts) us → SameTag ts us =
      λ us h. subst (λ z. SameTag z us) (b.tokens_at p ts) (subst (λ o. Agrees b at_tag o us) whole h) in
      record {
        taken = [];
        spelled = sym here;
        same = λ us h. is us (same us h) ∙ ap (λ (q : P). found (x, q)) (sym (b.at_at p ts us)) ∙ sym (ap (λ o. put b o us) whole);
        begins = same;
      }

-- what is the same as itself
head_self : (us : Items) → SameHead us us
head_self (Token t s us) = (refl, refl)
head_self (Failed text here) = refl
head_self Ended = refl

pub tag_self : (us : Items) → SameTag us us
tag_self (Token t s us) = (refl, refl, after_same t us us (head_self us))
tag_self (Failed text here) = refl
tag_self Ended = refl

-- a reader that does the same as another where the next tokens are the same
module _ {A P : Type 0} (b : After P) where
  pub local_near : (from to : Look) (f g : Items → Read (A × P)) (ts : Items) → SameBy from ts ts → ((us : Items) → SameBy from ts us → f us ≡ g us)
      → Local b from to g ts → Local b from to f ts
  local_near from to f g ts self is one =
      let back : (us : Items) → Agrees b to (f ts) us → Agrees b to (g ts) us = λ us h. subst (λ o. Agrees b to o us) (is ts self) h in
      record {
        taken = one.taken;
        spelled = one.spelled ∙ sym (ap (λ o. in_front one.taken (unread b o)) (is ts self));
        same = λ us h. is (in_front one.taken us) (one.begins us (back us h)) ∙ one.same us (back us h) ∙ sym (ap (λ o. put b o us) (is ts self));
        begins = λ us h. one.begins us (back us h);
      }

-- where nothing is known of what is there
module _ {A P : Type 0} (b : After P) (to : Look) (f : Items → Read (A × P)) where
  wrong_tag : (dash : Bool) (s : Span) (us : Items) → ((vs : Items) → SameTag (Token (Start kind.Block dash) s us) vs → f vs ≡ stopped (wrong_at vs))
      → Local b at_tag to f (Token (Start kind.Block dash) s us)
  wrong_tag dash s us is =
      let whole : f (Token (Start kind.Block dash) s us) ≡ stopped us = is (Token (Start kind.Block dash) s us) (refl, refl, head_self us) in
      let head : (vs : Items) → Agrees b to (f (Token (Start kind.Block dash) s us)) vs → SameHead us vs = λ vs h. subst (λ o. Agrees b to o vs) whole h in
      record {
        taken = (Start kind.Block dash, s) ∷ [];
        spelled = ap (Token (Start kind.Block dash) s) (sym (ap (λ o. unread b o) whole));
        same = λ vs h. is (Token (Start kind.Block dash) s vs) (refl, refl, head vs h) ∙ sym (ap (λ o. put b o vs) whole);
        begins = λ vs h. (refl, refl, head vs h);
      }

  -- at a token that starts no tag, at the end or at the fault, the next token is all that is looked at
  wrong_head : (ts : Items) → ((vs : Items) → SameHead ts vs → SameTag ts vs) → ((vs : Items) → SameHead ts vs → wrong_at vs ≡ vs)
      → ((vs : Items) → SameTag ts vs → f vs ≡ stopped (wrong_at vs)) → Local b at_tag to f ts
  wrong_head ts more keeps is =
      let whole : f ts ≡ stopped ts = is ts (tag_self ts) ∙ ap stopped (keeps ts (head_self ts)) in
      let head : (vs : Items) → Agrees b to (f ts) vs → SameHead ts vs = λ vs h. subst (λ o. Agrees b to o vs) whole h in
      record {
        taken = [];
        spelled = sym (ap (λ o. unread b o) whole);
        same = λ vs h. is vs (more vs (head vs h)) ∙ ap stopped (keeps vs (head vs h)) ∙ sym (ap (λ o. put b o vs) whole);
        begins = λ vs h. more vs (head vs h);
      }

  other_more : (t : Tok) (s : Span) (us vs : Items) → ((x : Items) (y : Items) → SameAfter t x y) → SameHead (Token t s us) vs → SameTag (Token t s us) vs
  other_more t s us (Token u r vs) following h = (h.0, h.1, following us vs)
  other_more t s us Ended following h = absurd h
  other_more t s us (Failed text here) following h = absurd h

  other_keeps : (t : Tok) (s : Span) (us vs : Items) → ((r : Span) (xs : Items) → wrong_after t r xs ≡ Token t r xs) → SameHead (Token t s us) vs → wrong_at vs ≡ vs
  other_keeps t s us (Token u r vs) keeps h = subst (λ w. wrong_after w r vs ≡ Token w r vs) h.0 (keeps r vs)
  other_keeps t s us Ended keeps h = refl
  other_keeps t s us (Failed text here) keeps h = refl

  wrong_other : (t : Tok) (s : Span) (us : Items) → ((x : Items) (y : Items) → SameAfter t x y) → ((r : Span) (xs : Items) → wrong_after t r xs ≡ Token t r xs)
      → ((vs : Items) → SameTag (Token t s us) vs → f vs ≡ stopped (wrong_at vs)) → Local b at_tag to f (Token t s us)
  wrong_other t s us following keeps is =
      wrong_head (Token t s us) (λ vs h. other_more t s us vs following h) (λ vs h. other_keeps t s us vs keeps h) is

  pub local_wrong : (ts : Items) → ((vs : Items) → SameTag ts vs → f vs ≡ stopped (wrong_at vs)) → Local b at_tag to f ts
  local_wrong (Token (Start kind.Block dash) s us) is = wrong_tag dash s us is
  local_wrong (Token (Start kind.Variable dash) s us) is = wrong_other (Start kind.Variable dash) s us (λ x y. tt) (λ r xs. refl) is
  local_wrong (Token t s us) is = wrong_other t s us (λ x y. tt) (λ r xs. refl) is
  local_wrong Ended is = wrong_head Ended (λ vs h. h) (λ vs h. rw h refl) is
  local_wrong (Failed text here) is = wrong_head (Failed text here) (λ vs h. h) (λ vs h. rw h refl) is

-- readers of one token
module _ {A : Type 0} (kind : Tok → Span → Option A) where
  pub first_refused : (t : Tok) (s : Span) (us vs : Items) → kind t s ≡ None → SameHead (Token t s us) vs → first_as kind vs ≡ stopped vs
  first_refused t s us (Token u r vs) is h =
      ap (λ o. given (Token u r vs) o >>= λ x. found (x, vs)) (subst (λ y. kind u y ≡ None) h.1 (subst (λ w. kind w s ≡ None) h.0 is))
  first_refused t s us Ended is h = absurd h
  first_refused t s us (Failed text here) is h = absurd h

  pub first_taken : (t : Tok) (s : Span) (us vs : Items) (x : A) → kind t s ≡ Some x → SameHead (Token t s us) vs → (rest : Items) × (first_as kind vs ≡ found (x, rest))
  first_taken t s us (Token u r vs) x is h =
      (vs, ap (λ o. given (Token u r vs) o >>= λ x. found (x, vs)) (subst (λ y. kind u y ≡ Some x) h.1 (subst (λ w. kind w s ≡ Some x) h.0 is)))
  first_taken t s us Ended x is h = absurd h
  first_taken t s us (Failed text here) x is h = absurd h

  pub first_past : (t : Tok) (s : Span) (x : A) (us : Items) → kind t s ≡ Some x → first_as kind (Token t s us) ≡ found (x, us)
  first_past t s x us is = ap (λ o. given (Token t s us) o >>= λ x. found (x, us)) is

  pub first_local : (ts : Items) → Local items_after at_token at_token (first_as kind) ts
  first_local (Token t s us) = by (kind t s) refl
    where
      by : (o : Option A) → kind t s ≡ o → Local items_after at_token at_token (first_as kind) (Token t s us)
      by None is = local_near items_after at_token at_token (first_as kind) stopped (Token t s us) (refl, refl) (λ vs h. first_refused t s us vs is h) (local_stop items_after at_token (Token t s us))
      by (Some x) is = local_past items_after at_token at_token (first_as kind) (λ vs. found (x, vs)) t s us (λ vs. first_past t s x vs is) (local_here items_after at_token us x)
  first_local Ended = local_near items_after at_token at_token (first_as kind) stopped Ended refl (λ vs h. rw h refl) (local_stop items_after at_token Ended)
  first_local (Failed text here) = local_near items_after at_token at_token (first_as kind) stopped (Failed text here) refl (λ vs h. rw h refl) (local_stop items_after at_token (Failed text here))

  chosen_less : (ts us : Items) (o : Option A) (x : A × Items) → (given ts o >>= λ x. found (x, us)) ≡ found x → us ≡ x.1
  chosen_less ts us None x h = cc
  chosen_less ts us (Some y) x h = ap (λ o. unread items_after o) h

  pub first_less : (ts : Items) (x : A × Items) → first_as kind ts ≡ found x → size x.1 < size ts
  first_less (Token t s us) x h = let left = ap size (chosen_less (Token t s us) us (kind t s) x h) in omega (arith, left)
  first_less Ended x h = cc
  first_less (Failed text here) x h = cc

-- a loop with enough turns, and one that has as many as there are tokens
abbrev rest_of : Items → Items
rest_of (Token t s us) = us
rest_of z = z

abbrev first_of : (Tok × Span) → Items → Tok × Span
first_of other (Token t s us) = (t, s)
first_of other z = other

length_front : (xs : List (Tok × Span)) (z : Items) → size (in_front xs z) ≡ length xs + size z
length_front [] z = omega arith
length_front (x ∷ xs) z = let more = length_front xs z in omega (arith, more)

same_parts : (xs ys : List (Tok × Span)) (z : Items) → length xs ≡ length ys → in_front xs z ≡ in_front ys z → xs ≡ ys
same_parts [] [] z long is = refl
same_parts [] (y ∷ ys) z long is = absurd (omega (arith, long))
same_parts (x ∷ xs) [] z long is = absurd (omega (arith, long))
same_parts (x ∷ xs) (y ∷ ys) z long is =
    ap (λ w. w ∷ xs) (ap (first_of x) is) ∙ ap (λ l. y ∷ l) (same_parts xs ys z (omega (arith, long)) (ap rest_of is))

parts_once : (xs ys : List (Tok × Span)) (ts z : Items) → ts ≡ in_front xs z → ts ≡ in_front ys z → xs ≡ ys
parts_once xs ys ts z a b =
    let one = length_front xs z in
    let two = length_front ys z in
    let same = ap size (sym a ∙ b) in
    same_parts xs ys z (omega (arith, one, two, same)) (sym a ∙ b)

pub local_enough : {A P : Type 0} (b : After P) (from to : Look) (f : ℕ → Items → Read (A × P))
    → ((n m : ℕ) (ts : Items) → size ts < n → size ts < m → f n ts ≡ f m ts) → ((n : ℕ) (ts : Items) → Local b from to (f n) ts)
    → (ts : Items) → Local b from to (λ us. f (suc (size us)) us) ts
local_enough b from to f stable each ts =
    let one = each (suc (size ts)) ts in
    record {
      taken = one.taken;
      spelled = one.spelled;
      same = λ us h.
          let vs : Items = in_front one.taken us in
          let most : ℕ = suc (size ts + size vs) in
          let wide = each most ts in
          let grown : f most ts ≡ f (suc (size ts)) ts = stable most (suc (size ts)) ts (omega arith) (omega arith) in
          let taken : wide.taken ≡ one.taken = parts_once _ _ ts _ (wide.spelled ∙ ap (λ o. in_front wide.taken (unread b o)) grown) one.spelled in
          stable (suc (size vs)) most vs (omega arith) (omega arith)
          ∙ ap (λ xs. f most (in_front xs us)) (sym taken)
          ∙ wide.same us (subst (λ o. Agrees b to o us) (sym grown) h)
          ∙ ap (λ o. put b o us) grown;
      begins = λ us h. one.begins us h;
    }

-- steps that agree on what is read
pub bind_both : {A B : Type 0} (o : Read A) (f g : A → Read B) → ((x : A) → o ≡ found x → f x ≡ g x) → (o >>= f) ≡ (o >>= g)
bind_both (stopped z) f g same = refl
bind_both (found x) f g same = same x refl
