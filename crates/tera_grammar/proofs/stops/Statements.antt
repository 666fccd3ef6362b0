-- Bodies and whole templates are read locally: reading looks at the token after what is read, and at the first token of
-- a tag that starts there.
use Rattle.std.proofs.Common.{◌≡◌, ℕ, zero, suc, ◌<◌, ◌≤◌, arith, Bool, true, false, not, cond, ◌∷◌, refl, sym, ap, ◌∙◌}
use Rattle.std.specs.Str.{bytes_eq}
use Rattle.tera_base.specs.declared.utils.Span.{Span}
use Rattle.tera_lexer.specs.code.Cursors.{size}
use Rattle.tera_lexer.specs.grammar.Tokens.{Tok, Start, Items, Ended, Failed, Token}
use Rattle.tera_lexer.specs.declared.lexer.delimiters.Kind.TheVariants as kind
use Rattle.tera_grammar.specs.expressions.Operators.{GreaterThan}
use Rattle.tera_grammar.specs.expressions.Marks.{Assign, Operation}
use Rattle.tera_grammar.specs.expressions.Reading.Front.{same_token, mark_kind, takes, taken_name, taken_quote}
use Rattle.tera_grammar.specs.expressions.Concrete as concrete
use Rattle.tera_grammar.specs.statements.Names.{agrees}
use Rattle.tera_grammar.specs.statements.Places.{block_placed, component_placed}
use Rattle.tera_grammar.specs.statements.TagParts.{Edge, Name, Tag, Opener, OpensSet, OpensInclude, OpensExtends, OpensBlock, OpensFor, OpensIf, OpensFilter, OpensComponent, OpensBreak, OpensContinue, OpensCall, Closer, closer_token, AtElif, AtElse, AtEndSet, AtEndBlock, AtEndFor, AtEndIf, AtEndFilter, AtEndComponent, AtEndCall}
use Rattle.tera_grammar.specs.statements.Expressions.{Limits, ComponentName, component_text}
use Rattle.tera_grammar.specs.statements.Components.{component_texts}
use Rattle.tera_grammar.specs.statements.Heads.{SetBody, Section, CallBody}
use Rattle.tera_grammar.specs.statements.Grammar.{Plain, Shown, Set, Include, Extends, Break, Continue, Body, Item, Single, Block, Define, Capturing, For, If, Branches, Elif, Last, Else, NoElse, Otherwise, InFor, InForElse, InBlock, InIf, InComponent, InCapture, Path, may_block, may_break, in_loop, is_outermost, text_if_any}
use Rattle.tera_grammar.specs.statements.Reading.{Place, at, Reads, Reader, else_in, else_of, branch_in, branches_by, branches, set_after, set_of, include_of, extends_of, break_of, block_end, block_of, component_def_of, section_of, call_end, call_of, for_of, if_of, tag_of, shown_of, ended}
use Rattle.tera_grammar.specs.statements.Reading.TagParts.{Role, Opening, Closing, Neither, role, Front, Ends, Closes, Holds, Shows, Opens, Wrong, front_by, front_tag, front_at, front, tag, wrong_at, name_if_any, finish_of, variable_end_kind, variable_end_of, closed_at, closed, closed_tag}
use Rattle.tera_grammar.specs.statements.Reading.Components.{Opened, is_name, head, opened_of, end_name_in, ending_of}
use Rattle.tera_grammar.specs.statements.Reading.Meeting.{Seen, met, ◌having◌}
use Rattle.tera_grammar.specs.Reads.{found, stopped, ◌>>=◌, holds, Takes}
use Rattle.tera_grammar.specs.expressions.Reading.Whole.{expression_of, filter_of, all_attributes, path_of}
use Rattle.tera_grammar.specs.statements.Reading.Heads.{free_name, loop_of, filters_of}
use Rattle.tera_grammar.proofs.stops.Local.{SameHead, SameTag, SameAfter, Look, at_token, at_tag, After, items_after, Local, local_bind, local_here, local_as, local_past, local_size, local_look, local_near, local_wrong, tag_self, first_local, bind_both}
use Rattle.tera_grammar.proofs.stops.Whole.{IsTaken, done, follow, taken_size, local_holds, ask_first, expression_local, filter_local, all_attributes_local, path_local, takes_local, taken_name_local, taken_quote_local}
use Rattle.tera_grammar.proofs.stops.Parts.{finish_local, name_if_any_local, free_name_local, loop_head_local, filters_local, end_name_local, opened_local}

abbrev pub place : After Place
place = record { tokens = λ p. p.tokens; at = λ p us. at p.seen us; at_tokens = λ p. refl; tokens_at = λ p us. refl; at_at = λ p us vs. refl }

-- readers at places, by how far the tokens have to be the same where they begin and where they are
abbrev pub Reading : {A : Type 0} → Look → Look → (Items → Reads A) → Items → Type 0
Reading from to f ts = Local place from to f ts

-- what is made of what was read
pub made : {A : Type 0} (p : Place) (x : A) → Reading at_token at_token (λ us. found (x, at p.seen us)) p.tokens
made p x = local_here place at_token p x

-- a reader of tokens, and then one of places
pub into : {A B : Type 0} (to : Look) (f : Items → Takes A) (g : A → Items → Reads B) (ts : Items) → IsTaken f ts
    → ((x : A) (us : Items) → f ts ≡ found (x, us) → Reading at_token to (g x) us) → Reading at_token to (λ us. f us >>= λ x. g x.0 x.1) ts
into to f g ts one two = local_bind items_after place at_token at_token to f g ts one (λ x is. two x.0 x.1 is)

-- a body, and what comes after it
pub within : {A B : Type 0} (from to : Look) (f : Items → Reads A) (g : A → Place → Reads B) (ts : Items) → Reading from at_tag f ts
    → ((x : A) (q : Place) → f ts ≡ found (x, q) → Reading at_tag to (λ us. g x (at q.seen us)) q.tokens) → Reading from to (λ us. f us >>= λ x. g x.0 x.1) ts
within from to f g ts one two = local_bind place place from at_tag to f g ts one (λ x is. two x.0 x.1 is)

-- a closing tag, and what is made
closing : {A B : Type 0} (f : Items → Takes A) (g : A → Items → Reads B) (ts : Items) → Local items_after at_tag at_token f ts
    → ((x : A) (us : Items) → f ts ≡ found (x, us) → Reading at_token at_token (g x) us) → Reading at_tag at_token (λ us. f us >>= λ x. g x.0 x.1) ts
closing f g ts one two = local_bind items_after place at_tag at_token at_token f g ts one (λ x is. two x.0 x.1 is)

-- what is first, without what comes after
pub data Sort : Type 0 where
  ends : Sort
  closes : Closer → Sort
  holds_text : Sort
  shows : Sort
  opens : Opener → Sort
  wrong : Sort

abbrev pub sort_of : Front → Sort
sort_of Ends = ends
sort_of (Closes c start first us) = closes c
sort_of (Holds text s us) = holds_text
sort_of (Shows start us) = shows
sort_of (Opens o start first us) = opens o
sort_of Wrong = wrong

by_role : (r : Role) (start other : Edge) (first second : Span) (us vs : Items) → sort_of (front_by r start first us) ≡ sort_of (front_by r other second vs)
by_role (Opening o) start other first second us vs = refl
by_role (Closing c) start other first second us vs = refl
by_role Neither start other first second us vs = refl

tag_sort : (start other : Edge) (us vs : Items) → SameHead us vs → sort_of (front_tag start us) ≡ sort_of (front_tag other vs)
tag_sort start other (Token t s us) (Token u r vs) h =
    by_role (role t) start other s r us vs ∙ ap (λ w. sort_of (front_by (role w) other r vs)) h.0
tag_sort start other (Token t s us) Ended h = absurd h
tag_sort start other (Token t s us) (Failed text there) h = absurd h
tag_sort start other (Failed text there) vs h = rw h refl
tag_sort start other Ended vs h = rw h refl

at_sort : (t : Tok) (s r : Span) (us vs : Items) → SameAfter t us vs → sort_of (front_at t s us) ≡ sort_of (front_at t r vs)
at_sort (Start kind.Block dash) s r us vs h = tag_sort (record { dash = dash; span = s }) (record { dash = dash; span = r }) us vs h
at_sort (Start kind.Variable dash) s r us vs h = refl
at_sort t s r us vs h = refl

pub sort_same : (ts us : Items) → SameTag ts us → sort_of (front ts) ≡ sort_of (front us)
sort_same (Token t s us) (Token u r vs) h = at_sort t s r us vs h.2 ∙ ap (λ w. sort_of (front_at w r vs)) h.0
sort_same (Token t s us) Ended h = absurd h
sort_same (Token t s us) (Failed text there) h = absurd h
sort_same (Failed text there) vs h = rw h refl
sort_same Ended vs h = rw h refl

-- a closing token
closes_with : Closer → Sort → Bool
closes_with c (closes x) = same_token (closer_token x) (closer_token c)
closes_with c s = false

unclosed : (c : Closer) (ts : Items) (fr : Front) → closes_with c (sort_of fr) ≡ false → closed_at c ts fr ≡ stopped (wrong_at ts)
unfolding closed_at closes_with
unclosed c ts Ends h = refl
unclosed c ts (Closes x start first us) h = ap (λ b. cond b (found ((start, first), us)) (stopped (wrong_at ts))) h
unclosed c ts (Holds text s us) h = refl
unclosed c ts (Shows start us) h = refl
unclosed c ts (Opens o start first us) h = refl
unclosed c ts Wrong h = refl

not_closed : (c : Closer) (ts : Items) → closes_with c (sort_of (front ts)) ≡ false → Local items_after at_tag at_token (closed c) ts
not_closed c ts h = local_wrong items_after at_token (closed c) ts (λ us same. unclosed c us (front us) (ap (closes_with c) (sym (sort_same ts us same)) ∙ h))

abbrev pub edge : Bool → Span → Edge
edge dash s = record { dash = dash; span = s }

closed_local : (c : Closer) (ts : Items) → Local items_after at_tag at_token (closed c) ts
unfolding closed_at closes_with
closed_local c (Token (Start kind.Block dash) s (Token t r us)) = by (role t) refl
  where
    sort_is : (o : Role) → role t ≡ o → sort_of (front (Token (Start kind.Block dash) s (Token t r us))) ≡ sort_of (front_by o (edge dash s) r us)
    sort_is o is = ap (λ x. sort_of (front_by x (edge dash s) r us)) is

    same : (x : Closer) → role t ≡ Closing x → (b : Bool) → same_token (closer_token x) (closer_token c) ≡ b → Local items_after at_tag at_token (closed c) (Token (Start kind.Block dash) s (Token t r us))
    same x is true held =
        local_past items_after at_tag at_token (closed c) (λ vs. closed c (Token (Start kind.Block dash) s vs)) (Start kind.Block dash) s (Token t r us) (λ vs. refl)
        (local_past items_after at_token at_token (λ vs. closed c (Token (Start kind.Block dash) s vs)) (λ vs. found ((edge dash s, r), vs)) t r us
        (λ vs. ap (λ o. closed_at c (Token (Start kind.Block dash) s (Token t r vs)) (front_by o (edge dash s) r vs)) is
        ∙ ap (λ b. cond b (found ((edge dash s, r), vs)) (stopped (wrong_at (Token (Start kind.Block dash) s (Token t r vs))))) held) (local_here items_after at_token us (edge dash s, r)))
    same x is false other = not_closed c (Token (Start kind.Block dash) s (Token t r us)) (ap (closes_with c) (sort_is (Closing x) is) ∙ other)

    by : (o : Role) → role t ≡ o → Local items_after at_tag at_token (closed c) (Token (Start kind.Block dash) s (Token t r us))
    by (Closing x) is = same x is (same_token (closer_token x) (closer_token c)) refl
    by (Opening o) is = not_closed c (Token (Start kind.Block dash) s (Token t r us)) (ap (closes_with c) (sort_is (Opening o) is))
    by Neither is = not_closed c (Token (Start kind.Block dash) s (Token t r us)) (ap (closes_with c) (sort_is Neither is))
closed_local c (Token (Start kind.Block dash) s Ended) = not_closed c (Token (Start kind.Block dash) s Ended) refl
closed_local c (Token (Start kind.Block dash) s (Failed text there)) = not_closed c (Token (Start kind.Block dash) s (Failed text there)) refl
closed_local c (Token (Start kind.Variable dash) s us) = not_closed c (Token (Start kind.Variable dash) s us) refl
closed_local c (Token t s us) = not_closed c (Token t s us) refl
closed_local c Ended = not_closed c Ended refl
closed_local c (Failed text there) = not_closed c (Failed text there) refl

-- the tags that go on with a statement
is_else : Sort → Bool
is_else (closes AtElse) = true
is_else s = false

is_elif : Sort → Bool
is_elif (closes AtElif) = true
is_elif s = false

-- a closing tag, and what is in it
closed_into : {A : Type 0} (c : Closer) (g : Edge × Span → Items → Takes A) (ts : Items) → ((x : Edge × Span) (us : Items) → closed c ts ≡ found (x, us) → IsTaken (g x) us)
    → Local items_after at_tag at_token (λ us. closed c us >>= λ x. g x.0 x.1) ts
closed_into c g ts goes = local_bind items_after items_after at_tag at_token at_token (closed c) g ts (closed_local c ts) (λ x is. goes x.0 x.1 is)

closed_tag_local : (c : Closer) (ts : Items) → Local items_after at_tag at_token (closed_tag c) ts
closed_tag_local c ts =
    closed_into c (λ x us. finish_of us >>= λ f. found (tag x.0 x.1 f.0, f.1)) ts
    (λ x us read. follow finish_of (λ f vs. found (tag x.0 x.1 f, vs)) us (finish_local us) (λ f vs is. done vs (tag x.0 x.1 f)))

block_end_local : (n : Name) (ts : Items) → Local items_after at_tag at_token (block_end n) ts
unfolding block_end
block_end_local n ts =
    closed_into AtEndBlock (λ x us. name_if_any us >>= λ m. holds m.1 (agrees n.text (text_if_any m.0)) >>= λ u. finish_of m.1 >>= λ f. found ((tag x.0 x.1 f.0, m.0), f.1)) ts
    (λ x us read. follow name_if_any (λ m vs. holds vs (agrees n.text (text_if_any m)) >>= λ u. finish_of vs >>= λ f. found ((tag x.0 x.1 f.0, m), f.1)) us (name_if_any_local us)
    (λ m vs named. local_holds items_after at_token (agrees n.text (text_if_any m)) (λ ys. finish_of ys >>= λ f. found ((tag x.0 x.1 f.0, m), f.1)) vs
    (follow finish_of (λ f ys. found ((tag x.0 x.1 f, m), ys)) vs (finish_local vs) (λ f ys is. done ys (tag x.0 x.1 f, m)))))

call_end_local : (n : ComponentName) (ts : Items) → Local items_after at_tag at_token (call_end n) ts
unfolding call_end
call_end_local n ts =
    closed_into AtEndCall
    (λ x us. path_of us >>= λ m. holds m.1 (bytes_eq (component_text m.0) (component_text n)) >>= λ u. takes (Operation GreaterThan) m.1 >>= λ e. finish_of e.1 >>= λ f. found ((tag x.0 x.1 f.0, m.0, e.0), f.1)) ts
    (λ x us read. follow path_of
    (λ m vs. holds vs (bytes_eq (component_text m) (component_text n)) >>= λ u. takes (Operation GreaterThan) vs >>= λ e. finish_of e.1 >>= λ f. found ((tag x.0 x.1 f.0, m, e.0), f.1)) us (path_local us)
    (λ m vs named. local_holds items_after at_token (bytes_eq (component_text m) (component_text n)) (λ ys. takes (Operation GreaterThan) ys >>= λ e. finish_of e.1 >>= λ f. found ((tag x.0 x.1 f.0, m, e.0), f.1)) vs
    (follow (takes (Operation GreaterThan)) (λ e ys. finish_of ys >>= λ f. found ((tag x.0 x.1 f.0, m, e), f.1)) vs (takes_local (Operation GreaterThan) vs)
    (λ e ys last. follow finish_of (λ f zs. found ((tag x.0 x.1 f, m, e), zs)) ys (finish_local ys) (λ f zs is. done zs (tag x.0 x.1 f, m, e))))))

ending_local : (start : Edge) (first : Span) (o : Opened) (ts : Items) → Local items_after at_tag at_token (ending_of start first o) ts
unfolding ending_of
ending_local start first o ts =
    closed_into AtEndComponent
    (λ x us. end_name_in us (is_name us) >>= λ n. holds n.1 (agrees (component_text o.name) (component_texts n.0)) >>= λ u. finish_of n.1 >>= λ f. found (head start first o x.0 x.1 n.0 f.0, f.1)) ts
    (λ x us read. follow (λ vs. end_name_in vs (is_name vs))
    (λ n vs. holds vs (agrees (component_text o.name) (component_texts n)) >>= λ u. finish_of vs >>= λ f. found (head start first o x.0 x.1 n f.0, f.1)) us (end_name_local us)
    (λ n vs named. local_holds items_after at_token (agrees (component_text o.name) (component_texts n)) (λ ys. finish_of ys >>= λ f. found (head start first o x.0 x.1 n f.0, f.1)) vs
    (follow finish_of (λ f ys. found (head start first o x.0 x.1 n f, ys)) vs (finish_local vs) (λ f ys is. done ys (head start first o x.0 x.1 n f)))))

-- a test where a statement begins
tested : {A : Type 0} (c : Bool) (g : Items → Reads A) (ts : Items) → Reading at_token at_token g ts → Reading at_token at_token (λ us. holds us c >>= λ u. g us) ts
tested c g ts one = local_holds place at_token c g ts one

include_local : (start : Edge) (first : Span) (seen : Seen) (ts : Items) → Reading at_token at_token (include_of start first seen) ts
unfolding include_of
include_local start first seen ts =
    into at_token taken_quote (λ q us. finish_of us >>= λ f. found (Single (Include (tag start first f.0) q.0 q.1), at seen f.1)) ts (taken_quote_local ts)
    (λ q us read. into at_token finish_of (λ f vs. found (Single (Include (tag start first f) q.0 q.1), at seen vs)) us (finish_local us) (λ f vs is. made (at seen vs) (Single (Include (tag start first f) q.0 q.1))))

pub extends_local : (path : Path) (start : Edge) (first : Span) (seen : Seen) (ts : Items) → Reading at_token at_token (extends_of path start first seen) ts
unfolding extends_of
extends_local path start first seen ts =
    into at_token taken_quote (λ q us. holds us (is_outermost path) >>= λ u. finish_of us >>= λ f. found (Single (Extends (tag start first f.0) q.0 q.1), at seen f.1)) ts (taken_quote_local ts)
    (λ q us read. tested (is_outermost path) (λ vs. finish_of vs >>= λ f. found (Single (Extends (tag start first f.0) q.0 q.1), at seen f.1)) us
    (into at_token finish_of (λ f vs. found (Single (Extends (tag start first f) q.0 q.1), at seen vs)) us (finish_local us) (λ f vs is. made (at seen vs) (Single (Extends (tag start first f) q.0 q.1)))))

break_local : (path : Path) (make : Tag → Plain) (start : Edge) (first : Span) (seen : Seen) (ts : Items) → Reading at_token at_token (break_of path make start first seen) ts
unfolding break_of
break_local path make start first seen ts =
    tested (may_break path) (λ us. finish_of us >>= λ f. found (Single (make (tag start first f.0)), at seen f.1)) ts
    (into at_token finish_of (λ f us. found (Single (make (tag start first f)), at seen us)) ts (finish_local ts) (λ f us is. made (at seen us) (Single (make (tag start first f)))))

pub shown_local : (l : Limits) (path : Path) (start : Edge) (seen : Seen) (ts : Items) → Reading at_token at_token (shown_of l path start seen) ts
unfolding shown_of
shown_local l path start seen ts =
    into at_token (expression_of l (in_loop path)) (λ e us. variable_end_of us >>= λ f. found (Single (Shown start e f.0), at seen f.1)) ts (expression_local l (in_loop path) ts)
    (λ e us read. into at_token variable_end_of (λ f vs. found (Single (Shown start e f), at seen vs)) us (first_local variable_end_kind us) (λ f vs is. made (at seen vs) (Single (Shown start e f))))

module _ (l : Limits) (self : Reader) (inner : (path : Path) (seen : Seen) (ts : Items) → Reading at_token at_tag (λ us. self path (at seen us)) ts) where
  -- an `else`
  no_else : (path : Path) (seen : Seen) (ts : Items) (fr : Front) → is_else (sort_of fr) ≡ false → else_in self path seen ts fr ≡ found (NoElse, at seen ts)
  unfolding else_in is_else
  no_else path seen ts Ends h = refl
  no_else path seen ts (Closes AtElse start first us) h = cc
  no_else path seen ts (Closes x start first us) h = refl
  no_else path seen ts (Holds text s us) h = refl
  no_else path seen ts (Shows start us) h = refl
  no_else path seen ts (Opens o start first us) h = refl
  no_else path seen ts Wrong h = refl

  without : (path : Path) (seen : Seen) (ts : Items) → is_else (sort_of (front ts)) ≡ false → Reading at_tag at_tag (λ us. else_of self path (at seen us)) ts
  without path seen ts h =
      local_look place NoElse (at seen ts) (λ us. else_of self path (at seen us)) ts (tag_self ts)
      (λ us same. no_else path seen us (front us) (ap (is_else) (sym (sort_same ts us same)) ∙ h))

  abbrev otherwise : Path → Edge → Span → Seen → Items → Reads Else
  otherwise path start first seen us = finish_of us >>= λ f. self path (at seen f.1) >>= λ b. found (Otherwise (tag start first f.0) b.0, b.1)

  otherwise_local : (path : Path) (start : Edge) (first : Span) (seen : Seen) (ts : Items) → Reading at_token at_tag (otherwise path start first seen) ts
  otherwise_local path start first seen ts =
      into at_tag finish_of (λ f us. self path (at seen us) >>= λ b. found (Otherwise (tag start first f) b.0, b.1)) ts (finish_local ts)
      (λ f us is. within at_token at_tag (λ vs. self path (at seen vs)) (λ b q. found (Otherwise (tag start first f) b, q)) us (inner path seen us)
      (λ b q inside. local_here place at_tag q (Otherwise (tag start first f) b)))

  else_local : (path : Path) (seen : Seen) (ts : Items) → Reading at_tag at_tag (λ us. else_of self path (at seen us)) ts
  unfolding else_in is_else
  else_local path seen (Token (Start kind.Block dash) s (Token t r us)) = by (role t) refl
    where
      all : (o : Role) → role t ≡ o → is_else (sort_of (front_by o (edge dash s) r us)) ≡ false → Reading at_tag at_tag (λ us. else_of self path (at seen us)) (Token (Start kind.Block dash) s (Token t r us))
      all o is h = without path seen (Token (Start kind.Block dash) s (Token t r us)) (ap (λ x. is_else (sort_of (front_by x (edge dash s) r us))) is ∙ h)

      by : (o : Role) → role t ≡ o → Reading at_tag at_tag (λ us. else_of self path (at seen us)) (Token (Start kind.Block dash) s (Token t r us))
      by (Closing AtElse) is =
          local_past place at_tag at_tag (λ vs. else_of self path (at seen vs)) (λ vs. else_of self path (at seen (Token (Start kind.Block dash) s vs))) (Start kind.Block dash) s (Token t r us) (λ vs. refl)
          (local_past place at_token at_tag (λ vs. else_of self path (at seen (Token (Start kind.Block dash) s vs))) (otherwise path (edge dash s) r seen) t r us
          (λ vs. ap (λ o. else_in self path seen (Token (Start kind.Block dash) s (Token t r vs)) (front_by o (edge dash s) r vs)) is) (otherwise_local path (edge dash s) r seen us))
      by (Closing AtElif) is = all (Closing AtElif) is refl
      by (Closing AtEndSet) is = all (Closing AtEndSet) is refl
      by (Closing AtEndBlock) is = all (Closing AtEndBlock) is refl
      by (Closing AtEndFor) is = all (Closing AtEndFor) is refl
      by (Closing AtEndIf) is = all (Closing AtEndIf) is refl
      by (Closing AtEndFilter) is = all (Closing AtEndFilter) is refl
      by (Closing AtEndComponent) is = all (Closing AtEndComponent) is refl
      by (Closing AtEndCall) is = all (Closing AtEndCall) is refl
      by (Opening o) is = all (Opening o) is refl
      by Neither is = all Neither is refl
  else_local path seen (Token (Start kind.Block dash) s Ended) = without path seen (Token (Start kind.Block dash) s Ended) refl
  else_local path seen (Token (Start kind.Block dash) s (Failed text there)) = without path seen (Token (Start kind.Block dash) s (Failed text there)) refl
  else_local path seen (Token (Start kind.Variable dash) s us) = without path seen (Token (Start kind.Variable dash) s us) refl
  else_local path seen (Token t s us) = without path seen (Token t s us) refl
  else_local path seen Ended = without path seen Ended refl
  else_local path seen (Failed text there) = without path seen (Failed text there) refl

  inner_size : (path : Path) (seen : Seen) (ts : Items) (x : Body × Place) → self path (at seen ts) ≡ found x → size x.1.tokens ≤ size ts
  inner_size path seen ts x h = local_size place at_token at_tag (λ us. self path (at seen us)) ts (inner path seen ts) x h

  -- an `elif`, with what comes after it
  abbrev elif : Path → (Place → Reads Branches) → Edge → Span → Seen → Items → Reads Branches
  elif path again start first seen us =
      expression_of l (in_loop path) us >>= λ c. finish_of c.1 >>= λ f. self path (at seen f.1) >>= λ b. again b.1 >>= λ bs. found (Elif (tag start first f.0) c.0 b.0 bs.0, bs.1)

  before_body : (b : Bool) (ts : Items) (c : concrete.Tree × Items) (f : Edge × Items) → expression_of l b ts ≡ found c → finish_of c.1 ≡ found f → size f.1 ≤ size ts
  before_body b ts c f read ended =
      let one = taken_size (expression_of l b) ts c (expression_local l b ts) read in
      let two = taken_size finish_of c.1 f (finish_local c.1) ended in
      omega (arith, one, two)

  elif_local : (path : Path) (again : Place → Reads Branches) (start : Edge) (first : Span) (seen : Seen) (ts : Items)
      → ((q : Place) → size q.tokens ≤ size ts → Reading at_tag at_tag (λ us. again (at q.seen us)) q.tokens) → Reading at_token at_tag (elif path again start first seen) ts
  elif_local path again start first seen ts goes =
      into at_tag (expression_of l (in_loop path)) (λ c us. finish_of us >>= λ f. self path (at seen f.1) >>= λ b. again b.1 >>= λ bs. found (Elif (tag start first f.0) c b.0 bs.0, bs.1)) ts (expression_local l (in_loop path) ts)
      (λ c us read. into at_tag finish_of (λ f vs. self path (at seen vs) >>= λ b. again b.1 >>= λ bs. found (Elif (tag start first f) c b.0 bs.0, bs.1)) us (finish_local us)
      (λ f vs ended. within at_token at_tag (λ xs. self path (at seen xs)) (λ b q. again q >>= λ bs. found (Elif (tag start first f) c b bs.0, bs.1)) vs (inner path seen vs)
      (λ b q inside. within at_tag at_tag (λ xs. again (at q.seen xs)) (λ bs p. found (Elif (tag start first f) c b bs, p)) q.tokens
      (goes q (let one = before_body (in_loop path) ts (c, us) (f, vs) read ended in let two = inner_size path seen vs (b, q) inside in omega (arith, one, two)))
      (λ bs p others. local_here place at_tag p (Elif (tag start first f) c b bs)))))

  last : (path : Path) (again : Place → Reads Branches) (seen : Seen) (ts : Items) (fr : Front) → is_elif (sort_of fr) ≡ false
      → branch_in l self path again seen ts fr ≡ (else_in self path seen ts fr >>= λ o. found (Last o.0, o.1))
  unfolding branch_in is_elif
  last path again seen ts Ends h = refl
  last path again seen ts (Closes AtElif start first us) h = cc
  last path again seen ts (Closes x start first us) h = refl
  last path again seen ts (Holds text s us) h = refl
  last path again seen ts (Shows start us) h = refl
  last path again seen ts (Opens o start first us) h = refl
  last path again seen ts Wrong h = refl

  last_local : (path : Path) (again : Place → Reads Branches) (seen : Seen) (ts : Items) → is_elif (sort_of (front ts)) ≡ false
      → Reading at_tag at_tag (λ us. branch_in l self path again seen us (front us)) ts
  last_local path again seen ts h =
      local_near place at_tag at_tag (λ us. branch_in l self path again seen us (front us)) (λ us. else_of self path (at seen us) >>= λ o. found (Last o.0, o.1)) ts (tag_self ts)
      (λ us same. last path again seen us (front us) (ap (is_elif) (sym (sort_same ts us same)) ∙ h))
      (within at_tag at_tag (λ us. else_of self path (at seen us)) (λ o q. found (Last o, q)) ts (else_local path seen ts) (λ o q read. local_here place at_tag q (Last o)))

  turn_local : (path : Path) (again : Place → Reads Branches) (seen : Seen) (ts : Items)
      → ((q : Place) → size q.tokens < size ts → Reading at_tag at_tag (λ us. again (at q.seen us)) q.tokens) → Reading at_tag at_tag (λ us. branch_in l self path again seen us (front us)) ts
  unfolding branch_in is_elif
  turn_local path again seen (Token (Start kind.Block dash) s (Token t r us)) goes = by (role t) refl
    where
      all : (o : Role) → role t ≡ o → is_elif (sort_of (front_by o (edge dash s) r us)) ≡ false → Reading at_tag at_tag (λ us. branch_in l self path again seen us (front us)) (Token (Start kind.Block dash) s (Token t r us))
      all o is h = last_local path again seen (Token (Start kind.Block dash) s (Token t r us)) (ap (λ x. is_elif (sort_of (front_by x (edge dash s) r us))) is ∙ h)

      by : (o : Role) → role t ≡ o → Reading at_tag at_tag (λ us. branch_in l self path again seen us (front us)) (Token (Start kind.Block dash) s (Token t r us))
      by (Closing AtElif) is =
          local_past place at_tag at_tag (λ vs. branch_in l self path again seen vs (front vs)) (λ vs. branch_in l self path again seen (Token (Start kind.Block dash) s vs) (front (Token (Start kind.Block dash) s vs)))
          (Start kind.Block dash) s (Token t r us) (λ vs. refl)
          (local_past place at_token at_tag (λ vs. branch_in l self path again seen (Token (Start kind.Block dash) s vs) (front (Token (Start kind.Block dash) s vs))) (elif path again (edge dash s) r seen) t r us
          (λ vs. ap (λ o. branch_in l self path again seen (Token (Start kind.Block dash) s (Token t r vs)) (front_by o (edge dash s) r vs)) is)
          (elif_local path again (edge dash s) r seen us (λ q le. goes q (omega (arith, le)))))
      by (Closing AtElse) is = all (Closing AtElse) is refl
      by (Closing AtEndSet) is = all (Closing AtEndSet) is refl
      by (Closing AtEndBlock) is = all (Closing AtEndBlock) is refl
      by (Closing AtEndFor) is = all (Closing AtEndFor) is refl
      by (Closing AtEndIf) is = all (Closing AtEndIf) is refl
      by (Closing AtEndFilter) is = all (Closing AtEndFilter) is refl
      by (Closing AtEndComponent) is = all (Closing AtEndComponent) is refl
      by (Closing AtEndCall) is = all (Closing AtEndCall) is refl
      by (Opening o) is = all (Opening o) is refl
      by Neither is = all Neither is refl
  turn_local path again seen (Token (Start kind.Block dash) s Ended) goes = last_local path again seen (Token (Start kind.Block dash) s Ended) refl
  turn_local path again seen (Token (Start kind.Block dash) s (Failed text there)) goes = last_local path again seen (Token (Start kind.Block dash) s (Failed text there)) refl
  turn_local path again seen (Token (Start kind.Variable dash) s us) goes = last_local path again seen (Token (Start kind.Variable dash) s us) refl
  turn_local path again seen (Token t s us) goes = last_local path again seen (Token t s us) refl
  turn_local path again seen Ended goes = last_local path again seen Ended refl
  turn_local path again seen (Failed text there) goes = last_local path again seen (Failed text there) refl

  -- the number of turns has no say
  elif_agree : (path : Path) (again other : Place → Reads Branches) (start : Edge) (first : Span) (seen : Seen) (ts : Items)
      → ((q : Place) → size q.tokens ≤ size ts → again q ≡ other q) → elif path again start first seen ts ≡ elif path other start first seen ts
  elif_agree path again other start first seen ts goes =
      bind_both (expression_of l (in_loop path) ts) _ _ (λ c read. bind_both (finish_of c.1) _ _ (λ f ended. bind_both (self path (at seen f.1)) _ _ (λ b inside.
      ap (λ o. o >>= λ bs. found (Elif (tag start first f.0) c.0 b.0 bs.0, bs.1))
      (goes b.1 (let one = before_body (in_loop path) ts c f read ended in let two = inner_size path seen f.1 b inside in omega (arith, one, two))))))

  front_agree : (path : Path) (again other : Place → Reads Branches) (seen : Seen) (ts us : Items) (start : Edge) (first : Span) → ((q : Place) → size q.tokens ≤ size us → again q ≡ other q)
      → (o : Role) → branch_in l self path again seen ts (front_by o start first us) ≡ branch_in l self path other seen ts (front_by o start first us)
  unfolding branch_in
  front_agree path again other seen ts us start first goes (Closing AtElif) = elif_agree path again other start first seen us goes
  front_agree path again other seen ts us start first goes (Closing x) = refl
  front_agree path again other seen ts us start first goes (Opening o) = refl
  front_agree path again other seen ts us start first goes Neither = refl

  turn_agree : (path : Path) (again other : Place → Reads Branches) (seen : Seen) (ts : Items)
      → ((q : Place) → size q.tokens < size ts → again q ≡ other q) → branch_in l self path again seen ts (front ts) ≡ branch_in l self path other seen ts (front ts)
  unfolding branch_in
  turn_agree path again other seen (Token (Start kind.Block dash) s (Token t r us)) goes =
      front_agree path again other seen (Token (Start kind.Block dash) s (Token t r us)) us (edge dash s) r (λ q le. goes q (omega (arith, le))) (role t)
  turn_agree path again other seen (Token (Start kind.Block dash) s Ended) goes = refl
  turn_agree path again other seen (Token (Start kind.Block dash) s (Failed text there)) goes = refl
  turn_agree path again other seen (Token (Start kind.Variable dash) s us) goes = refl
  turn_agree path again other seen (Token t s us) goes = refl
  turn_agree path again other seen Ended goes = refl
  turn_agree path again other seen (Failed text there) goes = refl

  branches_agree : (n k : ℕ) (path : Path) (p : Place) → size p.tokens < n → size p.tokens < k → branches_by n l self path p ≡ branches_by k l self path p
  unfolding branches_by
  branches_agree zero k path p hn hk = absurd (omega (arith, hn))
  branches_agree (suc n) zero path p hn hk = absurd (omega (arith, hk))
  branches_agree (suc n) (suc k) path p hn hk =
      turn_agree path (branches_by n l self path) (branches_by k l self path) p.seen p.tokens (λ q lt. branches_agree n k path q (omega (arith, hn, lt)) (omega (arith, hk, lt)))

  pub branches_steps : (path : Path) (p : Place) → branches l self path p ≡ branch_in l self path (branches l self path) p.seen p.tokens (front p.tokens)
  unfolding branches branches_by
  branches_steps path p =
      turn_agree path (branches_by (size p.tokens) l self path) (branches l self path) p.seen p.tokens (λ q lt. branches_agree (size p.tokens) (suc (size q.tokens)) path q lt (omega arith))

  branches_within : (n : ℕ) (path : Path) (seen : Seen) (ts : Items) → size ts < n → Reading at_tag at_tag (λ us. branches l self path (at seen us)) ts
  branches_within zero path seen ts h = absurd (omega (arith, h))
  branches_within (suc n) path seen ts h =
      local_as place at_tag at_tag (λ us. branch_in l self path (branches l self path) seen us (front us)) (λ us. branches l self path (at seen us)) ts
      (λ us. sym (branches_steps path (at seen us)))
      (turn_local path (branches l self path) seen ts (λ q lt. branches_within n path q.seen q.tokens (omega (arith, h, lt))))

  branches_local : (path : Path) (seen : Seen) (ts : Items) → Reading at_tag at_tag (λ us. branches l self path (at seen us)) ts
  branches_local path seen ts = branches_within (suc (size ts)) path seen ts (omega arith)

  -- the statements with a body
  set_value : (path : Path) (global : Bool) (start : Edge) (first : Span) (seen : Seen) (n : Name) (s : Span) (ts : Items)
      → Reading at_token at_token (λ us. expression_of l (in_loop path) us >>= λ e. finish_of e.1 >>= λ f. found (Single (Set global (tag start first f.0) n s e.0), at seen f.1)) ts
  set_value path global start first seen n s ts =
      into at_token (expression_of l (in_loop path)) (λ e us. finish_of us >>= λ f. found (Single (Set global (tag start first f.0) n s e), at seen f.1)) ts (expression_local l (in_loop path) ts)
      (λ e us read. into at_token finish_of (λ f vs. found (Single (Set global (tag start first f) n s e), at seen vs)) us (finish_local us) (λ f vs is. made (at seen vs) (Single (Set global (tag start first f) n s e))))

  -- a body that is taken as a value
  captured : (path : Path) (seen : Seen) (c : Closer) (make : Body → Tag → Item) (ts : Items)
      → Reading at_token at_token (λ us. self path (at seen us) >>= λ b. closed_tag c b.1.tokens >>= λ e. found (make b.0 e.0, at b.1.seen e.1)) ts
  captured path seen c make ts =
      within at_token at_token (λ us. self path (at seen us)) (λ b q. closed_tag c q.tokens >>= λ e. found (make b e.0, at q.seen e.1)) ts (inner path seen ts)
      (λ b q inside. closing (closed_tag c) (λ e us. found (make b e, at q.seen us)) q.tokens (closed_tag_local c q.tokens) (λ e us is. made (at q.seen us) (make b e)))

  set_body : (path : Path) (global : Bool) (start : Edge) (first : Span) (seen : Seen) (n : Name) (ts : Items)
      → Reading at_token at_token (λ us. filters_of l (in_loop path) us >>= λ fs. finish_of fs.1 >>= λ f. self (InCapture ∷ path) (at seen f.1) >>= λ b. closed_tag AtEndSet b.1.tokens >>= λ e.
      found (Capturing (SetBody global (tag start first f.0) n fs.0 e.0) b.0, at b.1.seen e.1)) ts
  set_body path global start first seen n ts =
      into at_token (filters_of l (in_loop path))
      (λ fs us. finish_of us >>= λ f. self (InCapture ∷ path) (at seen f.1) >>= λ b. closed_tag AtEndSet b.1.tokens >>= λ e. found (Capturing (SetBody global (tag start first f.0) n fs e.0) b.0, at b.1.seen e.1)) ts
      (filters_local l (in_loop path) ts)
      (λ fs us read. into at_token finish_of
      (λ f vs. self (InCapture ∷ path) (at seen vs) >>= λ b. closed_tag AtEndSet b.1.tokens >>= λ e. found (Capturing (SetBody global (tag start first f) n fs e.0) b.0, at b.1.seen e.1)) us (finish_local us)
      (λ f vs is. captured (InCapture ∷ path) seen AtEndSet (λ b e. Capturing (SetBody global (tag start first f) n fs e) b) vs))

  set_local : (path : Path) (global : Bool) (start : Edge) (first : Span) (seen : Seen) (ts : Items) → Reading at_token at_token (set_of l self path global start first seen) ts
  unfolding set_of set_after
  set_local path global start first seen ts =
      into at_token free_name (λ n us. set_after l self path global start first seen n us (takes Assign us)) ts (free_name_local ts)
      (λ n us named. ask_first place at_token (mark_kind Assign) (set_after l self path global start first seen n)
      (λ s vs. expression_of l (in_loop path) vs >>= λ e. finish_of e.1 >>= λ f. found (Single (Set global (tag start first f.0) n s e.0), at seen f.1))
      (λ vs. filters_of l (in_loop path) vs >>= λ fs. finish_of fs.1 >>= λ f. self (InCapture ∷ path) (at seen f.1) >>= λ b. closed_tag AtEndSet b.1.tokens >>= λ e.
      found (Capturing (SetBody global (tag start first f.0) n fs.0 e.0) b.0, at b.1.seen e.1))
      (λ vs x. refl) (λ vs z. refl) us
      (λ t r vs s is. set_value path global start first seen n s vs) (set_body path global start first seen n us))

  block_local : (path : Path) (start : Edge) (first : Span) (seen : Seen) (ts : Items) → Reading at_token at_token (block_of self path start first seen) ts
  unfolding block_of
  block_local path start first seen ts =
      tested (may_block path)
      (λ us. taken_name us >>= λ n. holds n.1 (not (met seen.blocks n.0.text)) >>= λ v. finish_of n.1 >>= λ f. self (InBlock ∷ path) (at (seen having block_placed n.0) f.1) >>= λ b. block_end n.0 b.1.tokens >>= λ e.
      found (Block (tag start first f.0) n.0 b.0 e.0.0 e.0.1, at b.1.seen e.1)) ts
      (into at_token taken_name
      (λ n us. holds us (not (met seen.blocks n.text)) >>= λ v. finish_of us >>= λ f. self (InBlock ∷ path) (at (seen having block_placed n) f.1) >>= λ b. block_end n b.1.tokens >>= λ e.
      found (Block (tag start first f.0) n b.0 e.0.0 e.0.1, at b.1.seen e.1)) ts (taken_name_local ts)
      (λ n us named. tested (not (met seen.blocks n.text))
      (λ vs. finish_of vs >>= λ f. self (InBlock ∷ path) (at (seen having block_placed n) f.1) >>= λ b. block_end n b.1.tokens >>= λ e. found (Block (tag start first f.0) n b.0 e.0.0 e.0.1, at b.1.seen e.1)) us
      (into at_token finish_of
      (λ f vs. self (InBlock ∷ path) (at (seen having block_placed n) vs) >>= λ b. block_end n b.1.tokens >>= λ e. found (Block (tag start first f) n b.0 e.0.0 e.0.1, at b.1.seen e.1)) us (finish_local us)
      (λ f vs is. within at_token at_token (λ xs. self (InBlock ∷ path) (at (seen having block_placed n) xs)) (λ b q. block_end n q.tokens >>= λ e. found (Block (tag start first f) n b e.0.0 e.0.1, at q.seen e.1)) vs
      (inner (InBlock ∷ path) (seen having block_placed n) vs)
      (λ b q inside. closing (block_end n) (λ e xs. found (Block (tag start first f) n b e.0 e.1, at q.seen xs)) q.tokens (block_end_local n q.tokens)
      (λ e xs closed. made (at q.seen xs) (Block (tag start first f) n b e.0 e.1)))))))

  definition_local : (path : Path) (start : Edge) (first : Span) (seen : Seen) (ts : Items) → Reading at_token at_token (component_def_of l self path start first seen) ts
  unfolding component_def_of
  definition_local path start first seen ts =
      tested (is_outermost path)
      (λ us. opened_of l (met seen.components) us >>= λ o. self (InComponent ∷ path) (at (seen having component_placed o.0.name o.0.parameters) o.1) >>= λ b. ending_of start first o.0 b.1.tokens >>= λ h. found (Define h.0 b.0, at b.1.seen h.1)) ts
      (into at_token (opened_of l (met seen.components))
      (λ o us. self (InComponent ∷ path) (at (seen having component_placed o.name o.parameters) us) >>= λ b. ending_of start first o b.1.tokens >>= λ h. found (Define h.0 b.0, at b.1.seen h.1)) ts (opened_local l (met seen.components) ts)
      (λ o us read. within at_token at_token (λ vs. self (InComponent ∷ path) (at (seen having component_placed o.name o.parameters) vs)) (λ b q. ending_of start first o q.tokens >>= λ h. found (Define h.0 b, at q.seen h.1)) us
      (inner (InComponent ∷ path) (seen having component_placed o.name o.parameters) us)
      (λ b q inside. closing (ending_of start first o) (λ h vs. found (Define h b, at q.seen vs)) q.tokens (ending_local start first o q.tokens) (λ h vs closed. made (at q.seen vs) (Define h b)))))

  section_local : (path : Path) (start : Edge) (first : Span) (seen : Seen) (ts : Items) → Reading at_token at_token (section_of l self path start first seen) ts
  unfolding section_of
  section_local path start first seen ts =
      into at_token (filter_of l (in_loop path))
      (λ g us. filters_of l (in_loop path) us >>= λ fs. finish_of fs.1 >>= λ f. self (InCapture ∷ path) (at seen f.1) >>= λ b. closed_tag AtEndFilter b.1.tokens >>= λ e.
      found (Capturing (Section (tag start first f.0) g fs.0 e.0) b.0, at b.1.seen e.1)) ts (filter_local l (in_loop path) ts)
      (λ g us read. into at_token (filters_of l (in_loop path))
      (λ fs vs. finish_of vs >>= λ f. self (InCapture ∷ path) (at seen f.1) >>= λ b. closed_tag AtEndFilter b.1.tokens >>= λ e. found (Capturing (Section (tag start first f.0) g fs e.0) b.0, at b.1.seen e.1)) us (filters_local l (in_loop path) us)
      (λ fs vs more. into at_token finish_of
      (λ f xs. self (InCapture ∷ path) (at seen xs) >>= λ b. closed_tag AtEndFilter b.1.tokens >>= λ e. found (Capturing (Section (tag start first f) g fs e.0) b.0, at b.1.seen e.1)) vs (finish_local vs)
      (λ f xs is. captured (InCapture ∷ path) seen AtEndFilter (λ b e. Capturing (Section (tag start first f) g fs e) b) xs)))

  call_local : (path : Path) (start : Edge) (first : Span) (seen : Seen) (ts : Items) → Reading at_token at_token (call_of l self path start first seen) ts
  unfolding call_of
  call_local path start first seen ts =
      into at_token path_of
      (λ n us. all_attributes l (in_loop path) us >>= λ a. takes (Operation GreaterThan) a.1 >>= λ last. finish_of last.1 >>= λ f. self (InCapture ∷ path) (at seen f.1) >>= λ b. call_end n b.1.tokens >>= λ e.
      found (Capturing (CallBody (tag start first f.0) n a.0 last.0 e.0.0 e.0.1 e.0.2) b.0, at b.1.seen e.1)) ts (path_local ts)
      (λ n us named. into at_token (all_attributes l (in_loop path))
      (λ a vs. takes (Operation GreaterThan) vs >>= λ last. finish_of last.1 >>= λ f. self (InCapture ∷ path) (at seen f.1) >>= λ b. call_end n b.1.tokens >>= λ e.
      found (Capturing (CallBody (tag start first f.0) n a last.0 e.0.0 e.0.1 e.0.2) b.0, at b.1.seen e.1)) us (all_attributes_local l (in_loop path) us)
      (λ a vs values. into at_token (takes (Operation GreaterThan))
      (λ last xs. finish_of xs >>= λ f. self (InCapture ∷ path) (at seen f.1) >>= λ b. call_end n b.1.tokens >>= λ e. found (Capturing (CallBody (tag start first f.0) n a last e.0.0 e.0.1 e.0.2) b.0, at b.1.seen e.1)) vs
      (takes_local (Operation GreaterThan) vs)
      (λ last xs at_end. into at_token finish_of
      (λ f ys. self (InCapture ∷ path) (at seen ys) >>= λ b. call_end n b.1.tokens >>= λ e. found (Capturing (CallBody (tag start first f) n a last e.0.0 e.0.1 e.0.2) b.0, at b.1.seen e.1)) xs (finish_local xs)
      (λ f ys is. within at_token at_token (λ zs. self (InCapture ∷ path) (at seen zs)) (λ b q. call_end n q.tokens >>= λ e. found (Capturing (CallBody (tag start first f) n a last e.0.0 e.0.1 e.0.2) b, at q.seen e.1)) ys (inner (InCapture ∷ path) seen ys)
      (λ b q inside. closing (call_end n) (λ e zs. found (Capturing (CallBody (tag start first f) n a last e.0 e.1 e.2) b, at q.seen zs)) q.tokens (call_end_local n q.tokens)
      (λ e zs closed. made (at q.seen zs) (Capturing (CallBody (tag start first f) n a last e.0 e.1 e.2) b)))))))

  for_local : (path : Path) (start : Edge) (first : Span) (seen : Seen) (ts : Items) → Reading at_token at_token (for_of l self path start first seen) ts
  unfolding for_of
  for_local path start first seen ts =
      into at_token (loop_of l)
      (λ lp us. finish_of us >>= λ f. self (InFor ∷ path) (at seen f.1) >>= λ b. else_of self (InForElse ∷ path) b.1 >>= λ o. closed_tag AtEndFor o.1.tokens >>= λ e. found (For (tag start first f.0) lp b.0 o.0 e.0, at o.1.seen e.1)) ts
      (loop_head_local l ts)
      (λ lp us read. into at_token finish_of
      (λ f vs. self (InFor ∷ path) (at seen vs) >>= λ b. else_of self (InForElse ∷ path) b.1 >>= λ o. closed_tag AtEndFor o.1.tokens >>= λ e. found (For (tag start first f) lp b.0 o.0 e.0, at o.1.seen e.1)) us (finish_local us)
      (λ f vs is. within at_token at_token (λ xs. self (InFor ∷ path) (at seen xs))
      (λ b q. else_of self (InForElse ∷ path) q >>= λ o. closed_tag AtEndFor o.1.tokens >>= λ e. found (For (tag start first f) lp b o.0 e.0, at o.1.seen e.1)) vs (inner (InFor ∷ path) seen vs)
      (λ b q inside. within at_tag at_token (λ xs. else_of self (InForElse ∷ path) (at q.seen xs)) (λ o p. closed_tag AtEndFor p.tokens >>= λ e. found (For (tag start first f) lp b o e.0, at p.seen e.1)) q.tokens
      (else_local (InForElse ∷ path) q.seen q.tokens)
      (λ o p other. closing (closed_tag AtEndFor) (λ e xs. found (For (tag start first f) lp b o e, at p.seen xs)) p.tokens (closed_tag_local AtEndFor p.tokens)
      (λ e xs closed. made (at p.seen xs) (For (tag start first f) lp b o e))))))

  if_local : (path : Path) (start : Edge) (first : Span) (seen : Seen) (ts : Items) → Reading at_token at_token (if_of l self path start first seen) ts
  unfolding if_of
  if_local path start first seen ts =
      into at_token (expression_of l (in_loop path))
      (λ c us. finish_of us >>= λ f. self (InIf ∷ path) (at seen f.1) >>= λ b. branches l self (InIf ∷ path) b.1 >>= λ bs. closed_tag AtEndIf bs.1.tokens >>= λ e. found (If (tag start first f.0) c b.0 bs.0 e.0, at bs.1.seen e.1)) ts
      (expression_local l (in_loop path) ts)
      (λ c us read. into at_token finish_of
      (λ f vs. self (InIf ∷ path) (at seen vs) >>= λ b. branches l self (InIf ∷ path) b.1 >>= λ bs. closed_tag AtEndIf bs.1.tokens >>= λ e. found (If (tag start first f) c b.0 bs.0 e.0, at bs.1.seen e.1)) us (finish_local us)
      (λ f vs is. within at_token at_token (λ xs. self (InIf ∷ path) (at seen xs))
      (λ b q. branches l self (InIf ∷ path) q >>= λ bs. closed_tag AtEndIf bs.1.tokens >>= λ e. found (If (tag start first f) c b bs.0 e.0, at bs.1.seen e.1)) vs (inner (InIf ∷ path) seen vs)
      (λ b q inside. within at_tag at_token (λ xs. branches l self (InIf ∷ path) (at q.seen xs)) (λ bs p. closed_tag AtEndIf p.tokens >>= λ e. found (If (tag start first f) c b bs e.0, at p.seen e.1)) q.tokens
      (branches_local (InIf ∷ path) q.seen q.tokens)
      (λ bs p others. closing (closed_tag AtEndIf) (λ e xs. found (If (tag start first f) c b bs e, at p.seen xs)) p.tokens (closed_tag_local AtEndIf p.tokens)
      (λ e xs closed. made (at p.seen xs) (If (tag start first f) c b bs e))))))

  pub tag_local : (path : Path) (o : Opener) (start : Edge) (first : Span) (seen : Seen) (ts : Items) → Reading at_token at_token (tag_of l self path o start first seen) ts
  tag_local path (OpensSet global) start first seen ts = set_local path global start first seen ts
  tag_local path OpensInclude start first seen ts = include_local start first seen ts
  tag_local path OpensExtends start first seen ts = extends_local path start first seen ts
  tag_local path OpensBlock start first seen ts = block_local path start first seen ts
  tag_local path OpensFor start first seen ts = for_local path start first seen ts
  tag_local path OpensIf start first seen ts = if_local path start first seen ts
  tag_local path OpensFilter start first seen ts = section_local path start first seen ts
  tag_local path OpensComponent start first seen ts = definition_local path start first seen ts
  tag_local path OpensBreak start first seen ts = break_local path Break start first seen ts
  tag_local path OpensContinue start first seen ts = break_local path Continue start first seen ts
  tag_local path OpensCall start first seen ts = call_local path start first seen ts
