-- Bodies, the top level and whole templates are read locally.
use Rattle.std.proofs.Common.{◌≡◌, ℕ, zero, suc, ◌<◌, ◌≤◌, arith, Bool, true, false, List, [], ◌∷◌, Option, Some, None, refl, sym, ap, subst, ◌∙◌}
use Rattle.tera_base.specs.declared.utils.Span.{Span}
use Rattle.tera_lexer.specs.code.Cursors.{size}
use Rattle.tera_lexer.specs.grammar.Faults.{IsFaultOf}
use Rattle.tera_lexer.specs.grammar.Tokens.{Tok, Content, Start, Items, Ended, Failed, Token}
use Rattle.tera_lexer.specs.declared.lexer.delimiters.Kind.TheVariants as kind
use Rattle.tera_grammar.specs.statements.TagParts.{Edge, Opener, OpensSet, OpensInclude, OpensExtends, OpensBlock, OpensFor, OpensIf, OpensFilter, OpensComponent, OpensBreak, OpensContinue, OpensCall}
use Rattle.tera_grammar.specs.statements.Expressions.{Limits}
use Rattle.tera_grammar.specs.statements.Grammar.{Text, Body, Done, Then, Item, Single, Path}
use Rattle.tera_grammar.specs.statements.Reading.{Place, at, Reads, Reader, tag_of, shown_of, step, go_on, items_by, items, body, extends_at, top_step, top_on, top_by, top, ended, template}
use Rattle.tera_grammar.specs.statements.Reading.Phases.{Phase, Starting, Standalone, Extending, next_phase}
use Rattle.tera_grammar.specs.statements.Reading.TagParts.{Role, Opening, Closing, Neither, role, Front, Ends, Closes, Holds, Shows, Opens, Wrong, front_by, front, wrong_at}
use Rattle.tera_grammar.specs.statements.Reading.Meeting.{Seen, nothing_seen}
use Rattle.tera_grammar.specs.Reads.{Read, found, stopped, ◌>>=◌, given, Takes}
use Rattle.tera_grammar.specs.expressions.Reading.Front.{taken_quote}
use Rattle.tera_grammar.proofs.stops.Local.{SameHead, SameTag, at_token, at_tag, items_after, in_front, unread, put, Agrees, Local, local_bind, local_here, local_stop, local_as, local_less, local_past, local_size, local_look, local_near, local_wrong, tag_self, bind_both}
use Rattle.tera_grammar.proofs.stops.Whole.{IsTaken, done, taken_quote_local}
use Rattle.tera_grammar.proofs.stops.Fronts.{found_same}
use Rattle.tera_grammar.proofs.stops.Statements.{place, Reading, into, within, Sort, ends, closes, opens, wrong, sort_of, sort_same, edge, extends_local, shown_local, tag_local}

abbrev some_item : Item → Place → Reads (Option Item)
some_item i q = found (Some i, q)

abbrev no_more : Place → Reads (Option Item)
no_more q = found (None, q)

abbrev ends_here : Reads (Option Item) → Bool
ends_here (found (None, q)) = true
ends_here (found (Some i, q)) = false
ends_here (stopped z) = false

none_some : (i : Item) (p q : Place) → no_more p ≡ some_item i q → ⊥
none_some i p q e = let clash : true ≡ false = ap ends_here e in cc

stopped_some : (i : Item) (z : Items) (q : Place) → stopped z ≡ some_item i q → ⊥
stopped_some i z q e = cc

-- whether a body ends there, and whether nothing is known of what is there
is_over : Sort → Bool
is_over ends = true
is_over (closes c) = true
is_over s = false

is_wrong : Sort → Bool
is_wrong wrong = true
is_wrong s = false

is_extends : Sort → Bool
is_extends (opens OpensExtends) = true
is_extends s = false

abbrev item_made : Reads Item → Reads (Option Item)
item_made o = o >>= λ x. found (Some x.0, x.1)

abbrev rest_of : (Option Item → Place → Reads Body) → Reads (Option Item) → Reads Body
rest_of k o = o >>= λ x. k x.0 x.1

abbrev some_rest : (Option Item → Place → Reads Body) → Reads Item → Reads Body
some_rest k o = o >>= λ x. k (Some x.0) x.1

made_then : (k : Option Item → Place → Reads Body) (o : Reads Item) → rest_of k (item_made o) ≡ some_rest k o
made_then k (stopped z) = refl
made_then k (found x) = refl

abbrev tokens_of : Reads (Option Item) → Items
tokens_of (found x) = x.1.tokens
tokens_of (stopped z) = z

-- an item leaves no more tokens than its reader
made_size : (f : Items → Reads Item) (us : Items) → Reading at_token at_token f us → (i : Item) (q : Place) → item_made (f us) ≡ some_item i q → size q.tokens ≤ size us
made_size f us one i q = by (f us) refl
  where
    by : (o : Reads Item) → f us ≡ o → item_made o ≡ some_item i q → size q.tokens ≤ size us
    by (stopped z) is e = absurd (stopped_some i z q e)
    by (found x) is e =
        let less = local_size place at_token at_token f us one x is in
        let same = ap (λ o. size (tokens_of o)) e in
        omega (arith, less, same)

-- an item, and what is read after it
item_rest : (f : Items → Reads Item) (k : Option Item → Place → Reads Body) (us : Items) (n : ℕ) → size us < n → Reading at_token at_token f us
    → ((i : Item) (q : Place) → size q.tokens < n → Reading at_token at_tag (λ vs. k (Some i) (at q.seen vs)) q.tokens) → Reading at_token at_tag (λ vs. some_rest k (f vs)) us
item_rest f k us n within_n one goes =
    local_bind place place at_token at_token at_tag f (λ i q. k (Some i) q) us one
    (λ x is. goes x.0 x.1 (let less = local_size place at_token at_token f us one x is in omega (arith, within_n, less)))

-- what is first is an `extends`, or not
data Begins (ts : Items) : Type 0 where
  by_extends : (dash : Bool) (s r : Span) (t : Tok) (us : Items) → role t ≡ Opening OpensExtends → ts ≡ Token (Start kind.Block dash) s (Token t r us) → Begins ts
  by_others : is_extends (sort_of (front ts)) ≡ false → Begins ts

begins : (ts : Items) → Begins ts
unfolding is_extends
begins (Token (Start kind.Block dash) s (Token t r us)) = by (role t) refl
  where
    other : (o : Role) → role t ≡ o → is_extends (sort_of (front_by o (edge dash s) r us)) ≡ false → Begins (Token (Start kind.Block dash) s (Token t r us))
    other o is h = by_others (ap (λ x. is_extends (sort_of (front_by x (edge dash s) r us))) is ∙ h)

    by : (o : Role) → role t ≡ o → Begins (Token (Start kind.Block dash) s (Token t r us))
    by (Opening OpensExtends) is = by_extends dash s r t us is refl
    by (Opening (OpensSet g)) is = other (Opening (OpensSet g)) is refl
    by (Opening OpensInclude) is = other (Opening OpensInclude) is refl
    by (Opening OpensBlock) is = other (Opening OpensBlock) is refl
    by (Opening OpensFor) is = other (Opening OpensFor) is refl
    by (Opening OpensIf) is = other (Opening OpensIf) is refl
    by (Opening OpensFilter) is = other (Opening OpensFilter) is refl
    by (Opening OpensComponent) is = other (Opening OpensComponent) is refl
    by (Opening OpensBreak) is = other (Opening OpensBreak) is refl
    by (Opening OpensContinue) is = other (Opening OpensContinue) is refl
    by (Opening OpensCall) is = other (Opening OpensCall) is refl
    by (Closing c) is = other (Closing c) is refl
    by Neither is = other Neither is refl
begins (Token (Start kind.Block dash) s Ended) = by_others refl
begins (Token (Start kind.Block dash) s (Failed text there)) = by_others refl
begins (Token (Start kind.Variable dash) s us) = by_others refl
begins (Token t s us) = by_others refl
begins Ended = by_others refl
begins (Failed text there) = by_others refl

module _ (l : Limits) (self : Reader) (inner : (path : Path) (seen : Seen) (ts : Items) → Reading at_token at_tag (λ us. self path (at seen us)) ts) where
  abbrev Next : Path → Seen → Items → Reads (Option Item)
  Next path seen us = step l self path seen us (front us)

  over : (path : Path) (seen : Seen) (ts : Items) (fr : Front) → is_over (sort_of fr) ≡ true → step l self path seen ts fr ≡ no_more (at seen ts)
  unfolding step is_over
  over path seen ts Ends h = refl
  over path seen ts (Closes c start first us) h = refl
  over path seen ts (Holds text s us) h = cc
  over path seen ts (Shows start us) h = cc
  over path seen ts (Opens o start first us) h = cc
  over path seen ts Wrong h = cc

  unknown : (path : Path) (seen : Seen) (ts : Items) (fr : Front) → is_wrong (sort_of fr) ≡ true → step l self path seen ts fr ≡ stopped (wrong_at ts)
  unfolding step is_wrong
  unknown path seen ts Ends h = cc
  unknown path seen ts (Closes c start first us) h = cc
  unknown path seen ts (Holds text s us) h = cc
  unknown path seen ts (Shows start us) h = cc
  unknown path seen ts (Opens o start first us) h = cc
  unknown path seen ts Wrong h = refl

  -- how a step goes by what is first
  opened_is : (path : Path) (seen : Seen) (dash : Bool) (s r : Span) (t : Tok) (o : Opener) → role t ≡ Opening o → (vs : Items)
      → Next path seen (Token (Start kind.Block dash) s (Token t r vs)) ≡ item_made (tag_of l self path o (edge dash s) r seen vs)
  unfolding step
  opened_is path seen dash s r t o is vs = ap (λ x. step l self path seen (Token (Start kind.Block dash) s (Token t r vs)) (front_by x (edge dash s) r vs)) is

  shown_is : (path : Path) (seen : Seen) (dash : Bool) (s : Span) (vs : Items) → Next path seen (Token (Start kind.Variable dash) s vs) ≡ item_made (shown_of l path (edge dash s) seen vs)
  unfolding step
  shown_is path seen dash s vs = refl

  text_is : (path : Path) (seen : Seen) (text : List ℕ) (s : Span) (vs : Items) → Next path seen (Token (Content text) s vs) ≡ some_item (Single (Text text s)) (at seen vs)
  unfolding step
  text_is path seen text s vs = refl

  -- an item leaves fewer tokens
  step_less : (path : Path) (seen : Seen) (ts : Items) (i : Item) (q : Place) → Next path seen ts ≡ some_item i q → size q.tokens < size ts
  unfolding is_over is_wrong
  step_less path seen (Token (Start kind.Block dash) s (Token t r us)) i q e = by (role t) refl
    where
      by : (o : Role) → role t ≡ o → size q.tokens < size (Token (Start kind.Block dash) s (Token t r us))
      by (Opening o) is =
          let less = made_size (tag_of l self path o (edge dash s) r seen) us (tag_local l self inner path o (edge dash s) r seen us) i q (sym (opened_is path seen dash s r t o is us) ∙ e) in omega (arith, less)
      by (Closing c) is =
          absurd (none_some i (at seen (Token (Start kind.Block dash) s (Token t r us))) q
          (sym (over path seen (Token (Start kind.Block dash) s (Token t r us)) (front (Token (Start kind.Block dash) s (Token t r us))) (ap (λ x. is_over (sort_of (front_by x (edge dash s) r us))) is)) ∙ e))
      by Neither is =
          absurd (stopped_some i (Token t r us) q
          (sym (unknown path seen (Token (Start kind.Block dash) s (Token t r us)) (front (Token (Start kind.Block dash) s (Token t r us))) (ap (λ x. is_wrong (sort_of (front_by x (edge dash s) r us))) is)) ∙ e))
  step_less path seen (Token (Start kind.Block dash) s Ended) i q e = absurd (stopped_some i Ended q (sym (unknown path seen (Token (Start kind.Block dash) s Ended) Wrong refl) ∙ e))
  step_less path seen (Token (Start kind.Block dash) s (Failed text there)) i q e =
      absurd (stopped_some i (Failed text there) q (sym (unknown path seen (Token (Start kind.Block dash) s (Failed text there)) Wrong refl) ∙ e))
  step_less path seen (Token (Start kind.Variable dash) s us) i q e =
      let less = made_size (shown_of l path (edge dash s) seen) us (shown_local l path (edge dash s) seen us) i q (sym (shown_is path seen dash s us) ∙ e) in omega (arith, less)
  step_less path seen (Token (Content text) s us) i q e = let same = ap (λ o. size (tokens_of o)) (sym (text_is path seen text s us) ∙ e) in omega (arith, same)
  step_less path seen (Token t s us) i q e = absurd (stopped_some i (wrong_at (Token t s us)) q (sym (unknown path seen (Token t s us) Wrong refl) ∙ e))
  step_less path seen Ended i q e = absurd (none_some i (at seen Ended) q (sym (over path seen Ended Ends refl) ∙ e))
  step_less path seen (Failed text there) i q e = absurd (stopped_some i (Failed text there) q (sym (unknown path seen (Failed text there) Wrong refl) ∙ e))

  -- a step, and what is read after it
  module _ (path : Path) (seen : Seen) (k : Option Item → Place → Reads Body) (k_none : (p : Place) → k None p ≡ found (Done, p)) where
    abbrev Walk : Items → Reads Body
    Walk us = rest_of k (Next path seen us)

    abbrev Goes : Items → Type 0
    Goes ts = (i : Item) (q : Place) → size q.tokens < size ts → Reading at_token at_tag (λ us. k (Some i) (at q.seen us)) q.tokens

    walk_over : (ts : Items) → is_over (sort_of (front ts)) ≡ true → Reading at_tag at_tag Walk ts
    walk_over ts h =
        local_look place Done (at seen ts) Walk ts (tag_self ts)
        (λ us same. ap (rest_of k) (over path seen us (front us) (ap is_over (sym (sort_same ts us same)) ∙ h)) ∙ k_none (at seen us))

    walk_wrong : (ts : Items) → is_wrong (sort_of (front ts)) ≡ true → Reading at_tag at_tag Walk ts
    walk_wrong ts h =
        local_wrong place at_tag Walk ts (λ us same. ap (rest_of k) (unknown path seen us (front us) (ap is_wrong (sym (sort_same ts us same)) ∙ h)))

    walk_local : (ts : Items) → Goes ts → Reading at_tag at_tag Walk ts
    unfolding is_over is_wrong
    walk_local (Token (Start kind.Block dash) s (Token t r us)) goes = by (role t) refl
      where
        by : (o : Role) → role t ≡ o → Reading at_tag at_tag Walk (Token (Start kind.Block dash) s (Token t r us))
        by (Opening o) is =
            local_past place at_tag at_tag Walk (λ vs. Walk (Token (Start kind.Block dash) s vs)) (Start kind.Block dash) s (Token t r us) (λ vs. refl)
            (local_past place at_token at_tag (λ vs. Walk (Token (Start kind.Block dash) s vs)) (λ vs. some_rest k (tag_of l self path o (edge dash s) r seen vs)) t r us
            (λ vs. ap (rest_of k) (opened_is path seen dash s r t o is vs) ∙ made_then k (tag_of l self path o (edge dash s) r seen vs))
            (item_rest (tag_of l self path o (edge dash s) r seen) k us (size (Token (Start kind.Block dash) s (Token t r us))) (omega arith) (tag_local l self inner path o (edge dash s) r seen us) goes))
        by (Closing c) is = walk_over (Token (Start kind.Block dash) s (Token t r us)) (ap (λ x. is_over (sort_of (front_by x (edge dash s) r us))) is)
        by Neither is = walk_wrong (Token (Start kind.Block dash) s (Token t r us)) (ap (λ x. is_wrong (sort_of (front_by x (edge dash s) r us))) is)
    walk_local (Token (Start kind.Block dash) s Ended) goes = walk_wrong (Token (Start kind.Block dash) s Ended) refl
    walk_local (Token (Start kind.Block dash) s (Failed text there)) goes = walk_wrong (Token (Start kind.Block dash) s (Failed text there)) refl
    walk_local (Token (Start kind.Variable dash) s us) goes =
        local_past place at_tag at_tag Walk (λ vs. some_rest k (shown_of l path (edge dash s) seen vs)) (Start kind.Variable dash) s us
        (λ vs. ap (rest_of k) (shown_is path seen dash s vs) ∙ made_then k (shown_of l path (edge dash s) seen vs))
        (item_rest (shown_of l path (edge dash s) seen) k us (size (Token (Start kind.Variable dash) s us)) (omega arith) (shown_local l path (edge dash s) seen us) goes)
    walk_local (Token (Content text) s us) goes =
        local_past place at_tag at_tag Walk (λ vs. k (Some (Single (Text text s))) (at seen vs)) (Content text) s us (λ vs. ap (rest_of k) (text_is path seen text s vs))
        (goes (Single (Text text s)) (at seen us) (omega arith))
    walk_local (Token t s us) goes = walk_wrong (Token t s us) refl
    walk_local Ended goes = walk_over Ended refl
    walk_local (Failed text there) goes = walk_wrong (Failed text there) refl

  -- items, one after another
  go_agree : (again other : Place → Reads Body) (ts : Items) → ((q : Place) → size q.tokens < size ts → again q ≡ other q)
      → (path : Path) (seen : Seen) (x : Option Item × Place) → Next path seen ts ≡ found x → go_on again x.0 x.1 ≡ go_on other x.0 x.1
  go_agree again other ts goes path seen (None, q) is = refl
  go_agree again other ts goes path seen (Some i, q) is = ap (λ o. o >>= λ b. found (Then i b.0, b.1)) (goes q (step_less path seen ts i q is))

  items_agree : (n k : ℕ) (path : Path) (p : Place) → size p.tokens < n → size p.tokens < k → items_by n l self path p ≡ items_by k l self path p
  unfolding items_by
  items_agree zero k path p hn hk = absurd (omega (arith, hn))
  items_agree (suc n) zero path p hn hk = absurd (omega (arith, hk))
  items_agree (suc n) (suc k) path p hn hk =
      bind_both (Next path p.seen p.tokens) _ _ (λ x is. go_agree (items_by n l self path) (items_by k l self path) p.tokens
      (λ q lt. items_agree n k path q (omega (arith, hn, lt)) (omega (arith, hk, lt))) path p.seen x is)

  pub items_steps : (path : Path) (p : Place) → items l self path p ≡ rest_of (go_on (items l self path)) (Next path p.seen p.tokens)
  unfolding items items_by
  items_steps path p =
      bind_both (Next path p.seen p.tokens) _ _ (λ x is. go_agree (items_by (size p.tokens) l self path) (items l self path) p.tokens
      (λ q lt. items_agree (size p.tokens) (suc (size q.tokens)) path q lt (omega arith)) path p.seen x is)

  in_front_of : (i : Item) (f : Items → Reads Body) (ts : Items) → Reading at_tag at_tag f ts → Reading at_token at_tag (λ us. f us >>= λ b. found (Then i b.0, b.1)) ts
  in_front_of i f ts one =
      local_less place at_tag at_tag (λ us. f us >>= λ b. found (Then i b.0, b.1)) ts
      (within at_tag at_tag f (λ b q. found (Then i b, q)) ts one (λ b q read. local_here place at_tag q (Then i b)))

  items_within : (n : ℕ) (path : Path) (seen : Seen) (ts : Items) → size ts < n → Reading at_tag at_tag (λ us. items l self path (at seen us)) ts
  items_within zero path seen ts h = absurd (omega (arith, h))
  items_within (suc n) path seen ts h =
      local_as place at_tag at_tag (Walk path seen (go_on (items l self path)) (λ p. refl)) (λ us. items l self path (at seen us)) ts
      (λ us. sym (items_steps path (at seen us)))
      (walk_local path seen (go_on (items l self path)) (λ p. refl) ts
      (λ i q less. in_front_of i (λ us. items l self path (at q.seen us)) q.tokens (items_within n path q.seen q.tokens (omega (arith, h, less)))))

  items_local : (path : Path) (seen : Seen) (ts : Items) → Reading at_tag at_tag (λ us. items l self path (at seen us)) ts
  items_local path seen ts = items_within (suc (size ts)) path seen ts (omega arith)

  -- the top level
  abbrev First : Phase → Seen → Items → Reads (Option Item)
  First phase seen us = top_step l self phase seen us (front us)

  late_local : (ts : Items) → Reading {A = Item} at_token at_token (λ us. taken_quote us >>= λ q. stopped q.1) ts
  late_local ts = into at_token taken_quote (λ q us. stopped us) ts (taken_quote_local ts) (λ q us read. local_stop place at_token us)

  extends_at_local : (phase : Phase) (start : Edge) (first : Span) (seen : Seen) (ts : Items) → Reading at_token at_token (extends_at phase start first seen) ts
  extends_at_local Starting start first seen ts = extends_local [] start first seen ts
  extends_at_local Standalone start first seen ts = late_local ts
  extends_at_local Extending start first seen ts = late_local ts

  top_other : (phase : Phase) (seen : Seen) (ts : Items) (fr : Front) → is_extends (sort_of fr) ≡ false → top_step l self phase seen ts fr ≡ step l self [] seen ts fr
  unfolding top_step is_extends
  top_other phase seen ts (Opens OpensExtends start first us) h = cc
  top_other phase seen ts fr h = refl

  extends_is : (phase : Phase) (seen : Seen) (dash : Bool) (s r : Span) (t : Tok) → role t ≡ Opening OpensExtends → (vs : Items)
      → First phase seen (Token (Start kind.Block dash) s (Token t r vs)) ≡ item_made (extends_at phase (edge dash s) r seen vs)
  unfolding top_step
  extends_is phase seen dash s r t is vs = ap (λ x. top_step l self phase seen (Token (Start kind.Block dash) s (Token t r vs)) (front_by x (edge dash s) r vs)) is

  first_less : (phase : Phase) (seen : Seen) (ts : Items) (i : Item) (q : Place) → First phase seen ts ≡ some_item i q → size q.tokens < size ts
  first_less phase seen ts i q e = by (begins ts)
    where
      by : Begins ts → size q.tokens < size ts
      by (by_extends dash s r t us is same) =
          let less = made_size (extends_at phase (edge dash s) r seen) us (extends_at_local phase (edge dash s) r seen us) i q
          (sym (extends_is phase seen dash s r t is us) ∙ sym (ap (First phase seen) same) ∙ e) in
          let long = ap size same in
          omega (arith, less, long)
      by (by_others h) = step_less [] seen ts i q (sym (top_other phase seen ts (front ts) h) ∙ e)

  first_local : (phase : Phase) (seen : Seen) (k : Option Item → Place → Reads Body) (k_none : (p : Place) → k None p ≡ found (Done, p)) (ts : Items)
      → ((i : Item) (q : Place) → size q.tokens < size ts → Reading at_token at_tag (λ us. k (Some i) (at q.seen us)) q.tokens) → Reading at_tag at_tag (λ us. rest_of k (First phase seen us)) ts
  first_local phase seen k k_none ts goes = by (begins ts)
    where
      extended : (dash : Bool) (s r : Span) (t : Tok) (us : Items) → role t ≡ Opening OpensExtends
          → ((i : Item) (q : Place) → size q.tokens < size (Token (Start kind.Block dash) s (Token t r us)) → Reading at_token at_tag (λ us. k (Some i) (at q.seen us)) q.tokens)
          → Reading at_tag at_tag (λ us. rest_of k (First phase seen us)) (Token (Start kind.Block dash) s (Token t r us))
      extended dash s r t us is goes =
          local_past place at_tag at_tag (λ us. rest_of k (First phase seen us)) (λ vs. rest_of k (First phase seen (Token (Start kind.Block dash) s vs))) (Start kind.Block dash) s (Token t r us) (λ vs. refl)
          (local_past place at_token at_tag (λ vs. rest_of k (First phase seen (Token (Start kind.Block dash) s vs))) (λ vs. some_rest k (extends_at phase (edge dash s) r seen vs)) t r us
          (λ vs. ap (rest_of k) (extends_is phase seen dash s r t is vs) ∙ made_then k (extends_at phase (edge dash s) r seen vs))
          (item_rest (extends_at phase (edge dash s) r seen) k us (size (Token (Start kind.Block dash) s (Token t r us))) (omega arith) (extends_at_local phase (edge dash s) r seen us) goes))

      by : Begins ts → Reading at_tag at_tag (λ us. rest_of k (First phase seen us)) ts
      by (by_extends dash s r t us is same) =
          subst (λ z. Reading at_tag at_tag (λ us. rest_of k (First phase seen us)) z) (sym same)
          (extended dash s r t us is (subst (λ z. (i : Item) (q : Place) → size q.tokens < size z → Reading at_token at_tag (λ us. k (Some i) (at q.seen us)) q.tokens) same goes))
      by (by_others h) =
          local_near place at_tag at_tag (λ us. rest_of k (First phase seen us)) (Walk [] seen k k_none) ts (tag_self ts)
          (λ us same. ap (rest_of k) (top_other phase seen us (front us) (ap is_extends (sym (sort_same ts us same)) ∙ h)))
          (walk_local [] seen k k_none ts goes)

  abbrev letting : (Phase → Place → Reads Body) → Item → Place → Option Phase → Reads Body
  letting again i p o = given p.tokens o >>= λ q. again q p >>= λ b. found (Then i b.0, b.1)

  let_agree : (again other : Phase → Place → Reads Body) (i : Item) (p : Place) → ((q : Phase) → again q p ≡ other q p) → (o : Option Phase) → letting again i p o ≡ letting other i p o
  let_agree again other i p same None = refl
  let_agree again other i p same (Some q) = ap (λ o. o >>= λ b. found (Then i b.0, b.1)) (same q)

  top_agree : (again other : Phase → Place → Reads Body) (ts : Items) → ((r : Phase) (q : Place) → size q.tokens < size ts → again r q ≡ other r q)
      → (phase : Phase) (seen : Seen) (x : Option Item × Place) → First phase seen ts ≡ found x → top_on again phase x.0 x.1 ≡ top_on other phase x.0 x.1
  top_agree again other ts goes phase seen (None, q) is = refl
  top_agree again other ts goes phase seen (Some i, q) is = let_agree again other i q (λ r. goes r q (first_less phase seen ts i q is)) (next_phase phase i)

  top_by_agree : (n k : ℕ) (phase : Phase) (p : Place) → size p.tokens < n → size p.tokens < k → top_by n l self phase p ≡ top_by k l self phase p
  unfolding top_by
  top_by_agree zero k phase p hn hk = absurd (omega (arith, hn))
  top_by_agree (suc n) zero phase p hn hk = absurd (omega (arith, hk))
  top_by_agree (suc n) (suc k) phase p hn hk =
      bind_both (First phase p.seen p.tokens) _ _ (λ x is. top_agree (top_by n l self) (top_by k l self) p.tokens
      (λ r q lt. top_by_agree n k r q (omega (arith, hn, lt)) (omega (arith, hk, lt))) phase p.seen x is)

  abbrev all_by : Phase → Place → Reads Body
  all_by phase p = top_by (suc (size p.tokens)) l self phase p

  pub top_steps : (phase : Phase) (p : Place) → all_by phase p ≡ rest_of (top_on all_by phase) (First phase p.seen p.tokens)
  unfolding top_by
  top_steps phase p =
      bind_both (First phase p.seen p.tokens) _ _ (λ x is. top_agree (top_by (size p.tokens) l self) all_by p.tokens
      (λ r q lt. top_by_agree (size p.tokens) (suc (size q.tokens)) r q lt (omega arith)) phase p.seen x is)

  let_local : (i : Item) (q : Place) → ((r : Phase) → Reading at_tag at_tag (λ us. all_by r (at q.seen us)) q.tokens) → (o : Option Phase)
      → Reading at_token at_tag (λ us. letting all_by i (at q.seen us) o) q.tokens
  let_local i q goes None = local_stop place at_tag q.tokens
  let_local i q goes (Some r) = in_front_of i (λ us. all_by r (at q.seen us)) q.tokens (goes r)

  top_within : (n : ℕ) (phase : Phase) (seen : Seen) (ts : Items) → size ts < n → Reading at_tag at_tag (λ us. all_by phase (at seen us)) ts
  top_within zero phase seen ts h = absurd (omega (arith, h))
  top_within (suc n) phase seen ts h =
      local_as place at_tag at_tag (λ us. rest_of (top_on all_by phase) (First phase seen us)) (λ us. all_by phase (at seen us)) ts
      (λ us. sym (top_steps phase (at seen us)))
      (first_local phase seen (top_on all_by phase) (λ p. refl) ts
      (λ i q less. let_local i q (λ r. top_within n r q.seen q.tokens (omega (arith, h, less))) (next_phase phase i)))

  pub top_level : (phase : Phase) (seen : Seen) (ts : Items) → Reading at_tag at_tag (λ us. all_by phase (at seen us)) ts
  top_level phase seen ts = top_within (suc (size ts)) phase seen ts (omega arith)

  pub items_read : (path : Path) (seen : Seen) (ts : Items) → Reading at_tag at_tag (λ us. items l self path (at seen us)) ts
  items_read path seen ts = items_local path seen ts

-- bodies, as deep as they may be
pub body_local : (l : Limits) (d : ℕ) (path : Path) (seen : Seen) (ts : Items) → Reading at_token at_tag (λ us. body d l path (at seen us)) ts
unfolding body
body_local l zero path seen ts = local_stop place at_tag ts
body_local l (suc d) path seen ts = local_less place at_tag at_tag (λ us. items l (body d l) path (at seen us)) ts (items_read l (body d l) (body_local l d) path seen ts)

pub top_local : (l : Limits) (d : ℕ) (seen : Seen) (ts : Items) → Reading at_token at_tag (λ us. top d l (at seen us)) ts
unfolding top
top_local l zero seen ts = local_stop place at_tag ts
top_local l (suc d) seen ts =
    local_less place at_tag at_tag (λ us. top_by (suc (size us)) l (body d l) Starting (at seen us)) ts (top_level l (body d l) (body_local l d) Starting seen ts)

-- the end of a template
not_ended : (t : Tok) (s : Span) (us vs : Items) → SameTag (Token t s us) vs → ended vs ≡ stopped (wrong_at vs)
not_ended t s us (Token u r vs) h = refl
not_ended t s us (Failed text there) h = refl
not_ended t s us Ended h = absurd h

end_local : (ts : Items) → Local items_after at_tag at_token ended ts
end_local Ended = record { taken = []; spelled = refl; same = λ us h. rw h refl; begins = λ us h. h }
end_local (Failed text there) = local_wrong items_after at_token ended (Failed text there) (λ us h. rw h refl)
end_local (Token t s us) = local_wrong items_after at_token ended (Token t s us) (λ vs h. not_ended t s us vs h)

-- a whole template, with the tokens after it, which are none
abbrev whole : Limits → Items → Takes Body
whole l ts = top l.bodies l (at nothing_seen ts) >>= λ b. ended b.1.tokens >>= λ u. found (b.0, u.1)

whole_local : (l : Limits) (ts : Items) → IsTaken (whole l) ts
whole_local l ts =
    local_bind place items_after at_token at_tag at_token (λ us. top l.bodies l (at nothing_seen us)) (λ b q. ended q.tokens >>= λ u. found (b, u.1)) ts (top_local l l.bodies nothing_seen ts)
    (λ b read. local_bind items_after items_after at_tag at_token at_token ended (λ u us. found (b.0, us)) b.1.tokens (end_local b.1.tokens) (λ u e. done u.1 b.0))

abbrev alone : Takes Body → Read Body
alone (stopped z) = stopped z
alone (found x) = found x.0

whole_is : (l : Limits) (ts : Items) → template l ts ≡ alone (whole l ts)
unfolding template
whole_is l ts = by (top l.bodies l (at nothing_seen ts))
  where
    at_end : (b : Body) (o : Takes (Unit {0})) → (o >>= λ u. found b) ≡ alone (o >>= λ u. found (b, u.1))
    at_end b (stopped z) = refl
    at_end b (found u) = refl

    by : (o : Reads Body) → (o >>= λ b. ended b.1.tokens >>= λ u. found b.0) ≡ alone (o >>= λ b. ended b.1.tokens >>= λ u. found (b.0, u.1))
    by (stopped z) = refl
    by (found b) = at_end b.0 (ended b.1.tokens)

-- The tokens of a template that is read end in no fault.
no_fault : (xs : List (Tok × Span)) (text : List ℕ) (span : Span) → IsFaultOf (in_front xs Ended) text span → ⊥
no_fault [] text span h = h
no_fault (x ∷ xs) text span h = no_fault xs text span h

never : {A : Type 0} (z : Items) (x : A) → stopped z ≡ found x → ⊥
never z x e = cc

all_ended : (ts : Items) (u : Unit {0} × Items) → ended ts ≡ found u → u.1 ≡ Ended
all_ended Ended u h = sym (ap (λ (y : Unit {0} × Items). y.1) (found_same (tt, Ended) u h))
all_ended (Failed text there) u h = absurd (never _ u h)
all_ended (Token t s us) u h = absurd (never _ u h)

all_read : (l : Limits) (ts : Items) (x : Body × Items) → whole l ts ≡ found x → x.1 ≡ Ended
all_read l ts x h = by (top l.bodies l (at nothing_seen ts)) h
  where
    at_end : (b : Body) (us : Items) (o : Takes (Unit {0})) → ended us ≡ o → (o >>= λ u. found (b, u.1)) ≡ found x → x.1 ≡ Ended
    at_end b us (stopped z) is e = absurd (never z x e)
    at_end b us (found u) is e = sym (ap (λ (y : Body × Items). y.1) (found_same (b, u.1) x e)) ∙ all_ended us u is

    by : (o : Reads Body) → (o >>= λ b. ended b.1.tokens >>= λ u. found (b.0, u.1)) ≡ found x → x.1 ≡ Ended
    by (stopped z) e = absurd (never z x e)
    by (found b) e = at_end b.0 b.1.tokens (ended b.1.tokens) refl e

pub template_faultless : (l : Limits) (ts : Items) (b : Body) → template l ts ≡ found b → (text : List ℕ) (span : Span) → IsFaultOf ts text span → ⊥
template_faultless l ts b h text span fault = by (whole l ts) refl (sym (whole_is l ts) ∙ h)
  where
    by : (o : Takes Body) → whole l ts ≡ o → alone o ≡ found b → ⊥
    by (stopped z) is e = never z b e
    by (found x) is e =
        let one = whole_local l ts in
        let spelled : ts ≡ in_front one.taken Ended = one.spelled ∙ ap (λ o. in_front one.taken (unread items_after o)) is ∙ ap (in_front one.taken) (all_read l ts x is) in
        no_fault one.taken text span (subst (λ us. IsFaultOf us text span) spelled fault)

-- Where the reading of a template stops, it stops whatever follows that begins as what is there.
pub record Stops (l : Limits) (ts z : Items) : Type 0 where
  pub taken : List (Tok × Span)
  pub spelled : ts ≡ in_front taken z
  pub same : (us : Items) → SameHead z us → template l (in_front taken us) ≡ stopped us

abbrev place_of : {A : Type 0} → Items → Read A → Items
place_of other (stopped z) = z
place_of other (found x) = other

stops_at : (l : Limits) (ts z : Items) → whole l ts ≡ stopped z → Stops l ts z
stops_at l ts z here =
    let one = whole_local l ts in
    record {
      taken = one.taken;
      spelled = one.spelled ∙ ap (λ o. in_front one.taken (unread items_after o)) here;
      same = λ us head.
          whole_is l (in_front one.taken us)
          ∙ ap alone (one.same us (subst (λ o. Agrees items_after at_token o us) (sym here) head) ∙ ap (λ o. put items_after o us) here);
    }

pub template_stops : (l : Limits) (ts z : Items) → template l ts ≡ stopped z → Stops l ts z
template_stops l ts z h = by (whole l ts) refl (sym (whole_is l ts) ∙ h)
  where
    apart : (b : Body) → found b ≡ stopped z → ⊥
    apart b e = cc

    by : (o : Takes Body) → whole l ts ≡ o → alone o ≡ stopped z → Stops l ts z
    by (found x) is e = absurd (apart x.0 e)
    by (stopped a) is e = subst (Stops l ts) (ap (place_of z) e) (stops_at l ts a is)

-- a body, by what comes next in it
pub body_steps : (l : Limits) (d : ℕ) (path : Path) (p : Place) → body (suc d) l path p
    ≡ (step l (body d l) path p.seen p.tokens (front p.tokens) >>= λ x. go_on (body (suc d) l path) x.0 x.1)
unfolding body
body_steps l d path p = items_steps l (body d l) (body_local l d) path p
