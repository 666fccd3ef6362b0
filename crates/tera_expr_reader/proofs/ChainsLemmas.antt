-- Reading the links of chains.
use Rattle.std.proofs.Common.{◌≡◌, ◌≢◌, ◌⊎◌, ◌<◌, IfOk, inl, inr, ℕ, Bool, true, false, cond, Some, None, Result, Ok, Err, ◌++◌, codes, refl, sym, ap, subst, ◌∙◌}
use Rattle.tera_base.specs.Errors.{IsMemory}
use Rattle.tera_base.specs.declared.errors.Error.{Error}
use Rattle.tera_base.specs.declared.utils.Span.{Span}
use Rattle.tera_lexer.specs.grammar.Tokens as toks
use Rattle.tera_lexer.specs.grammar.Tokens.{Tok, Items, Ended, Failed, Token}
use Rattle.tera_lexer.specs.code.Seen.{seen}
use Rattle.tera_lexer.specs.code.Cursors.{Position, Skips, Sight, SeesTwo, size}
use Rattle.tera_ast.specs.Tree as tree
use Rattle.tera_ast.specs.Tree.{Expr}
use Rattle.tera_grammar.specs.Reads.{Read, found, stopped, ◌>>=◌, Takes, Fails}
use Rattle.tera_grammar.specs.expressions.Marks.{Mark, Dot, QuestionDot, LeftBracket, QuestionBracket, LeftParen}
use Rattle.tera_grammar.specs.expressions.Concrete.{Name, Joint, plain_dot, optional_dot, Bracket, plain_bracket, optional_bracket, Sub, index, slice, Links, no_links, field, item, Row}
use Rattle.tera_grammar.specs.expressions.Conditions.{is_field_of}
use Rattle.tera_grammar.specs.expressions.Spans.{links_end}
use Rattle.tera_grammar.specs.expressions.Output.{of_loop, is_optional_joint, is_optional_bracket, field_output, sub_output, links_output}
use Rattle.tera_grammar.specs.expressions.Reading.Front as reading
use Rattle.tera_grammar.specs.expressions.Reading.Front.{Place, at, Reads, lowered, taken_name, name_of, no_link, jointed, bracketed, link_of, link_marks, marked_link, among}
use Rattle.tera_grammar.specs.expressions.Reading.Rooms.{Room}
use Rattle.tera_grammar.specs.expressions.Reading.Bracketed.{Reader, sub_of, links_at, links_of}
use Rattle.tera_grammar.specs.expressions.Reading.Loop.{expr}
use Rattle.tera_grammar.proofs.stops.Fronts.{bind_ok, holds_ok, found_same}
use Rattle.tera_grammar.proofs.Readings.{stops_as}
use Rattle.tera_grammar.proofs.stops.Loop.{expr_local}
use Rattle.tera_grammar.proofs.stops.Links.{links_steps}
use Rattle.tera_expr_reader.specs.Chains.{link_kind, LinkAt, taken_field, Adds, Lacks, LinkedGives, IsChain, IsCallOf}
use Rattle.tera_expr_parts.specs.Literals.{MayBeNegated}
use Rattle.tera_expr_reader.specs.declared.chains.Linked.TheVariants.{Whole, Longer}
use Rattle.tera_ast.specs.View.{expression_view}
use Rattle.tera_ast.specs.declared.ast.Expression.{Expression}
use Rattle.tera_expect.specs.Taking.{GivesAt, Took}
use Rattle.tera_expr_reader.specs.declared.chains.Link.TheVariants.{Nothing, Field, Item}
use Rattle.tera_expr_parts.proofs.FrontsLemmas.{took_token, unseen}
use Rattle.tera_expect.proofs.Steps.{named, unnamed, counted, uncounted}

pub shrinks : (old new : Position) → Took old new → size new.left < size old.left
unfolding Took
shrinks old new a = a.1

-- no link is where no token is seen
unseen_link : (items : Items) → Sight 2 items 0 → link_of items ≡ no_link
unfolding link_of
unseen_link Ended h = refl
unseen_link (Failed text span) h = refl
unseen_link (Token (toks.Escaped text) span items) h = refl
unseen_link (Token _ span items) h = absurd h

marked_at : (m : Mark) (s : Span) (us : Items) → LinkAt (marked_link m s us) s us
marked_at Dot s us = (refl, refl)
marked_at QuestionDot s us = (refl, refl)
marked_at LeftBracket s us = (refl, refl)
marked_at QuestionBracket s us = (refl, refl)
marked_at LeftParen s us = tt
marked_at _ s us = tt

token_at : (t : Tok) (s : Span) (us : Items) → LinkAt (link_of (Token t s us)) s us
unfolding link_of
token_at t s us = marked_at (among link_marks t) s us

-- the token that was taken where a link begins
pub link_taken : (old new : Position) (b : Bool) → Skips old b new → SeesTwo new → link_kind (link_of old.left) ≢ Nothing → LinkAt (link_of old.left) new.span new.left
link_taken old new false h sees some = absurd (some (ap link_kind (unseen_link old.left (unseen old new h sees))))
link_taken old new true (p, h) sees some =
    subst (λ s. LinkAt (link_of old.left) s new.left) (sym h.5) (subst (λ ts. LinkAt (link_of ts) p.1 new.left) (sym h.1) (token_at (seen p.0) p.1 new.left))

pub link_took : (old new : Position) (b : Bool) → Skips old b new → SeesTwo new → link_kind (link_of old.left) ≢ Nothing → Took old new
link_took old new false h sees some = absurd (some (ap link_kind (unseen_link old.left (unseen old new h sees))))
link_took old new true (p, h) sees some = took_token old new p h

-- a link of a kind
abbrev pub joint_of : Bool → Span → Joint
joint_of false s = plain_dot s
joint_of true s = optional_dot s

abbrev pub bracket_of : Bool → Span → Bracket
bracket_of false s = plain_bracket s
bracket_of true s = optional_bracket s

pub joint_optional : (o : Bool) (s : Span) → is_optional_joint (joint_of o s) ≡ o
joint_optional false s = refl
joint_optional true s = refl

pub bracket_optional : (o : Bool) (s : Span) → is_optional_bracket (bracket_of o s) ≡ o
bracket_optional false s = refl
bracket_optional true s = refl

pub joint_there : (x : reading.Link) (o : Bool) (s : Span) (us : Items) → link_kind x ≡ Field o → LinkAt x s us → x ≡ jointed (joint_of o s) us
joint_there (jointed (plain_dot t) vs) false s us h a = rw (a.0, a.1) refl
joint_there (jointed (optional_dot t) vs) true s us h a = rw (a.0, a.1) refl
joint_there (jointed (plain_dot t) vs) true s us h a = cc
joint_there (jointed (optional_dot t) vs) false s us h a = cc
joint_there no_link o s us h a = cc
joint_there reading.called o s us h a = cc
joint_there (bracketed (plain_bracket t) vs) o s us h a = cc
joint_there (bracketed (optional_bracket t) vs) o s us h a = cc

pub bracket_there : (x : reading.Link) (o : Bool) (s : Span) (us : Items) → link_kind x ≡ Item o → LinkAt x s us → x ≡ bracketed (bracket_of o s) us
bracket_there (bracketed (plain_bracket t) vs) false s us h a = rw (a.0, a.1) refl
bracket_there (bracketed (optional_bracket t) vs) true s us h a = rw (a.0, a.1) refl
bracket_there (bracketed (plain_bracket t) vs) true s us h a = cc
bracket_there (bracketed (optional_bracket t) vs) false s us h a = cc
bracket_there no_link o s us h a = cc
bracket_there reading.called o s us h a = cc
bracket_there (jointed (plain_dot t) vs) o s us h a = cc
bracket_there (jointed (optional_dot t) vs) o s us h a = cc

-- the name of a field
cond_none : {A B : Type 0} (b : Bool) (x : A) (here z : Items) (y : Read B) → cond b (found x) (stopped here) ≡ stopped z → cond b y (stopped here) ≡ stopped z
cond_none true x here z y h = cc
cond_none false x here z y h = let e : here ≡ z = cc in ap stopped e

field_name : (c : Bool) (us vs : Items) (n : Name) → taken_field c us ≡ found (n, vs) → (taken_name us ≡ found (n, vs)) × (is_field_of c n.text ≡ true)
field_name c us vs n h =
    let (x, read, made) = bind_ok (taken_name us) (λ n. cond (is_field_of c n.0.text) (found n) (stopped n.1)) (n, vs) h in
    let (holds, same) = holds_ok (is_field_of c x.0.text) (found x) x.1 (n, vs) made in
    let e = found_same x (n, vs) same in
    (read ∙ same, ap (λ (z : Name × Items). is_field_of c z.0.text) (sym e) ∙ holds)

pub field_read : (c : Bool) (us vs : Items) (n : Name) → taken_name us ≡ found (n, vs) → is_field_of c n.text ≡ true → taken_field c us ≡ found (n, vs)
field_read c us vs n name holds = rw (name, holds) refl

pub plain_field : (c o : Bool) (x : Expr) (n : Name) → c ≡ false → (d : Joint) → is_optional_joint d ≡ o → tree.GetAttr x n.text o n.span ≡ field_output c x d n
plain_field c o x n plain d same = rw (plain, same) refl

pub loop_field : (c : Bool) (x : Expr) (n : Name) → c ≡ true → (d : Joint) → tree.Var (codes "__tera_loop_" ++ n.text) n.span ≡ field_output c x d n
loop_field c x n looping d = rw looping refl

no_field : (c : Bool) (us z : Items) (j : ℕ) (f : Name × Place → Reads Links) → taken_field c us ≡ stopped z → (name_of (at j us) >>= λ n. cond (is_field_of c n.0.text) (f n) (stopped n.1.tokens)) ≡ stopped z
no_field c us z j f h = by (taken_name us) refl h
  where
    by : (o : Takes Name) → taken_name us ≡ o → ◌≡◌ {A = Takes Name} (o >>= λ n. cond (is_field_of c n.0.text) (found n) (stopped n.1)) (stopped z)
        → (name_of (at j us) >>= λ n. cond (is_field_of c n.0.text) (f n) (stopped n.1.tokens)) ≡ stopped z
    by (stopped y) is h = let e : y ≡ z = cc in rw (unnamed j us y is) (ap stopped e)
    by (found n) is h = rw (named j us n.1 n.0 is) (cond_none (is_field_of c n.0.text) n n.1 z (f (n.0, at j n.1)) h)

-- one link more
module _ (f : Reader) (w : Room) (c : Bool) (k : ℕ) (ts : Items) (x : reading.Link) where
  pub field_adds : (d : Joint) (j : ℕ) (us vs : Items) (n : Name) → x ≡ jointed d us → lowered k ≡ Some j → taken_field c us ≡ found (n, vs) → Adds (λ more. links_at more f w c (at k ts) x) (field d n) (at j vs)
  field_adds d j us vs n is low read more = let (name, holds) = field_name c us vs n read in rw (is, counted ts k j us low, named j us vs n name, holds) refl

  pub field_lacks : (d : Joint) (j : ℕ) (us left : Items) (e : Error) → x ≡ jointed d us → lowered k ≡ Some j → Fails (taken_field c us) left e → Lacks (λ more. links_at more f w c (at k ts) x) left e
  field_lacks d j us left e is low (inl memory) = inl memory
  field_lacks d j us left e is low (inr stops) = inr (λ more. stops_as (taken_field c us) (links_at more f w c (at k ts) x) left (λ z none. rw (is, counted ts k j us low) (no_field c us z j _ none)) stops)

  pub item_adds : (b : Bracket) (j : ℕ) (us : Items) (s : Sub) (q : Place) → x ≡ bracketed b us → lowered k ≡ Some j → sub_of f w (at j us) ≡ found (s, q) → Adds (λ more. links_at more f w c (at k ts) x) (item b s) q
  item_adds b j us s q is low read more = rw (is, counted ts k j us low, read) refl

  pub item_lacks : (b : Bracket) (j : ℕ) (us left : Items) (e : Error) → x ≡ bracketed b us → lowered k ≡ Some j → Fails (sub_of f w (at j us)) left e → Lacks (λ more. links_at more f w c (at k ts) x) left e
  item_lacks b j us left e is low (inl memory) = inl memory
  item_lacks b j us left e is low (inr stops) = inr (λ more. stops_as (sub_of f w (at j us)) (links_at more f w c (at k ts) x) left (λ z none. rw (is, counted ts k j us low, none) refl) stops)

  pub field_uncounted : (o : Bool) (e : Error) → link_kind x ≡ Field o → IsMemory e ⊎ (lowered k ≡ None) → Lacks (λ more. links_at more f w c (at k ts) x) ts e
  field_uncounted o e is (inl memory) = inl memory
  field_uncounted o e is (inr none) = inr (λ more. inl (by more x is))
    where
      by : (more : Place → Reads Links) (x : reading.Link) → link_kind x ≡ Field o → links_at more f w c (at k ts) x ≡ stopped ts
      by more (jointed d us) is = rw (uncounted ts k us none) refl
      by more no_link is = cc
      by more reading.called is = refl
      by more (bracketed (plain_bracket s) us) is = cc
      by more (bracketed (optional_bracket s) us) is = cc

  pub item_uncounted : (o : Bool) (e : Error) → link_kind x ≡ Item o → IsMemory e ⊎ (lowered k ≡ None) → Lacks (λ more. links_at more f w c (at k ts) x) ts e
  item_uncounted o e is (inl memory) = inl memory
  item_uncounted o e is (inr none) = inr (λ more. inl (by more x is))
    where
      by : (more : Place → Reads Links) (x : reading.Link) → link_kind x ≡ Item o → links_at more f w c (at k ts) x ≡ stopped ts
      by more (bracketed b us) is = rw (uncounted ts k us none) refl
      by more no_link is = cc
      by more reading.called is = refl
      by more (jointed (plain_dot s) us) is = cc
      by more (jointed (optional_dot s) us) is = cc

-- where links end is given by the span before them
pub ends_alike : (n m : Name) (ls : Links) → n.span ≡ m.span → links_end n ls ≡ links_end m ls
ends_alike n m no_links h = h
ends_alike n m (field d o ls) h = refl
ends_alike n m (item b s ls) h = ends_alike _ _ ls refl

-- what is read of a chain so far, and what is still to be read
pub record Chaining (l c : Bool) (n : Name) (whole : Reads Links) (rest : Place → Reads Links) (e : Expr) (here : Span) (now : Place) : Type 0 where
  pub put : Links → Links
  pub reads : whole ≡ (rest now >>= λ ls. found (put ls.0, ls.1))
  pub shows : (ls : Links) → links_output l c (tree.Var n.text n.span) (put ls) ≡ links_output l c e ls
  pub ends : (m : Name) (ls : Links) → m.span ≡ here → links_end n (put ls) ≡ links_end m ls

bind_same : {A B : Type 0} (o : Read (A × B)) → (o >>= λ x. found (x.0, x.1)) ≡ o
bind_same (stopped z) = refl
bind_same (found x) = refl

bind_assoc : {A B C : Type 0} (o : Read A) (f : A → Read B) (g : B → Read C) → ((o >>= f) >>= g) ≡ (o >>= λ x. f x >>= g)
bind_assoc (stopped z) f g = refl
bind_assoc (found x) f g = refl

module _ (l c : Bool) (n : Name) (d : ℕ) (w : Room) (whole : Reads Links) where
  pub chaining_begins : (e : Expr) (now : Place) → e ≡ tree.Var n.text n.span → whole ≡ links_of (expr d) w c now → Chaining l c n whole (links_of (expr d) w c) e n.span now
  chaining_begins e now is from = record {
    put = λ ls. ls;
    reads = from ∙ sym (bind_same (links_of (expr d) w c now));
    shows = λ ls. ap (λ x. links_output l c x ls) (sym is);
    ends = λ m ls h. ends_alike n m ls (sym h);
  }

  pub chaining_more : (e next : Expr) (here there : Span) (p q : Place) → Chaining l c n whole (links_of (expr d) w c) e here p
      → (put : Links → Links) → Adds (λ more. links_at more (expr d) w c p (link_of p.tokens)) put q
      → ((ls : Links) → links_output l c e (put ls) ≡ links_output l c next ls) → ((m o : Name) (ls : Links) → o.span ≡ there → links_end m (put ls) ≡ links_end o ls)
      → Chaining l c n whole (links_of (expr d) w c) next there q
  chaining_more e next here there p q so put adds shows ends = record {
    put = λ ls. so.put (put ls);
    reads = so.reads ∙ ap (λ o. o >>= λ ls. found (so.put ls.0, ls.1)) (links_steps (expr d) (expr_local d) w c p ∙ adds (links_of (expr d) w c))
        ∙ bind_assoc (links_of (expr d) w c q) (λ ls. found (put ls.0, ls.1)) (λ ls. found (so.put ls.0, ls.1));
    shows = λ ls. so.shows (put ls) ∙ shows ls;
    ends = λ m ls h. so.ends (record { text = n.text; span = here }) (put ls) refl ∙ ends (record { text = n.text; span = here }) m ls h;
  }

  pub chaining_ends : (e : Expr) (here : Span) (p : Place) (so : Chaining l c n whole (links_of (expr d) w c) e here p)
      → ((more : Place → Reads Links) → links_at more (expr d) w c p (link_of p.tokens) ≡ found (no_links, p))
      → (ls : Links) × (whole ≡ found (ls, p)) × (e ≡ links_output l c (tree.Var n.text n.span) ls) × (here ≡ links_end n ls)
  chaining_ends e here p so none = (
    so.put no_links,
    so.reads ∙ ap (λ o. o >>= λ ls. found (so.put ls.0, ls.1)) (links_steps (expr d) (expr_local d) w c p ∙ none (links_of (expr d) w c)),
    sym (so.shows no_links),
    sym (so.ends (record { text = n.text; span = here }) no_links refl),
  )

  pub chaining_fails : (e : Expr) (here : Span) (p : Place) (left : Items) (x : Error) → Chaining l c n whole (links_of (expr d) w c) e here p
      → Lacks (λ more. links_at more (expr d) w c p (link_of p.tokens)) left x → Fails whole left x
  chaining_fails e here p left x so (inl memory) = inl memory
  chaining_fails e here p left x so (inr stops) = inr (stops_as (links_at (links_of (expr d) w c) (expr d) w c p (link_of p.tokens)) whole left (λ z none.
      so.reads ∙ ap (λ o. o >>= λ ls. found (so.put ls.0, ls.1)) (links_steps (expr d) (expr_local d) w c p ∙ none)) (stops (links_of (expr d) w c)))

  -- by what one link is read to
  pub chain_whole : (x e : Expression) (old new : Position) (k j : ℕ) → Chaining l c n whole (links_of (expr d) w c) (expression_view x) old.span (at k old.left)
      → LinkedGives l c x (Ok (Whole e)) new (at k old.left) (at j new.left) (λ more. links_at more (expr d) w c (at k old.left) (link_of old.left)) → new ≡ old → c ≡ of_loop l n → (ls : Links) × (whole ≡ found (ls, at j new.left)) × IsChain l n new.span e ls
  chain_whole x e old new k j so (same, none, stood) went looping =
      let (ls, read, shows, ends) = chaining_ends (expression_view x) old.span (at k old.left) so (λ more. none more ∙ ap (λ q. found (no_links, q)) stood) in
      (ls, read ∙ ap (λ q. found (ls, q)) (sym stood), (ap expression_view same ∙ shows ∙ ap (λ b. links_output l b (tree.Var n.text n.span) ls) looping, ap (λ z. z.span) went ∙ ends))

  pub chain_longer : (x e : Expression) (old new : Position) (k j : ℕ) → Chaining l c n whole (links_of (expr d) w c) (expression_view x) old.span (at k old.left)
      → LinkedGives l c x (Ok (Longer e)) new (at k old.left) (at j new.left) (λ more. links_at more (expr d) w c (at k old.left) (link_of old.left))
      → Chaining l c n whole (links_of (expr d) w c) (expression_view e) new.span (at j new.left)
  chain_longer x e old new k j so (put, adds, shows, ends) = chaining_more (expression_view x) (expression_view e) old.span new.span (at k old.left) (at j new.left) so put adds shows ends

-- no chain and no call is a number
field_negatable : (c : Bool) (e : Expr) (d : Joint) (n : Name) → MayBeNegated (field_output c e d n)
field_negatable true e d n = tt
field_negatable false e d n = tt

links_negatable : (l c : Bool) (e : Expr) (ls : Links) → MayBeNegated e → MayBeNegated (links_output l c e ls)
links_negatable l c e no_links h = h
links_negatable l c e (field d n ls) h = links_negatable l c (field_output c e d n) ls (field_negatable c e d n)
links_negatable l c e (item b (index i s) ls) h = links_negatable l c (sub_output l (is_optional_bracket b) e (index i s)) ls tt
links_negatable l c e (item b (slice i s j k t) ls) h = links_negatable l c (sub_output l (is_optional_bracket b) e (slice i s j k t)) ls tt

pub chain_negatable : (l : Bool) (n : Name) (here : Span) (r : Result Expression Error) (q : Place) (read : Reads Links) → GivesAt (IsChain l n here) r q read → IfOk r (λ e. MayBeNegated (expression_view e))
chain_negatable l n here (Ok e) q read (ls, same, shows) = subst (λ x. MayBeNegated x) (sym shows.0) (links_negatable l (of_loop l n) (tree.Var n.text n.span) ls tt)
chain_negatable l n here (Err e) q read h = tt

pub call_negatable : (l : Bool) (n : Name) (here : Span) (r : Result Expression Error) (q : Place) (read : Reads Row) → GivesAt (IsCallOf l n here) r q read → IfOk r (λ e. MayBeNegated (expression_view e))
call_negatable l n here (Ok e) q read (row, same, shows) = subst (λ x. MayBeNegated x) (sym shows.0) tt
call_negatable l n here (Err e) q read h = tt
