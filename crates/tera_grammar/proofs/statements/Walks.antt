-- The top level is a body whose phases follow: that an item may not be where it does is seen at it, and the template as
-- a whole is none.
use Rattle.std.proofs.lemmas.Option.{same_Some}
use Rattle.std.proofs.Common.{◌≡◌, ℕ, zero, suc, Bool, true, false, [], Option, Some, None, refl, sym, ap, ◌∙◌}
use Rattle.tera_base.specs.declared.utils.Span.{Span}
use Rattle.tera_lexer.specs.code.Cursors.{size, is_end}
use Rattle.tera_lexer.specs.grammar.Tokens.{Items}
use Rattle.tera_grammar.specs.Options.{◌>>=◌, guard}
use Rattle.tera_grammar.specs.expressions.Concrete.{Quote}
use Rattle.tera_grammar.proofs.plain.expressions.Reading.Front.{Takes, taken_quote}
use Rattle.tera_grammar.specs.statements.TagParts.{Edge, Tag, OpensExtends}
use Rattle.tera_grammar.specs.statements.Expressions.{Limits}
use Rattle.tera_grammar.specs.statements.Grammar.{Extends, Body, Then, Item, Single, is_outermost}
use Rattle.tera_grammar.specs.statements.Reading.{Place, at}
use Rattle.tera_grammar.specs.statements.Reading.Phases.{Phase, Starting, Standalone, Extending, next_phase}
use Rattle.tera_grammar.proofs.plain.statements.Reading.{Reads, Reader, extends_of, step, go_on, items_by, items, body, phases, extends_at, top_step, top_on, top_by, top, template}
use Rattle.tera_grammar.specs.statements.Reading.TagParts.{Front, Opens, front, tag}
use Rattle.tera_grammar.proofs.plain.statements.Reading.TagParts.{finish_of}
use Rattle.tera_grammar.specs.statements.Reading.Meeting.{nothing_seen, ◌having◌}
use Rattle.tera_grammar.specs.statements.Places.{places}
use Rattle.tera_grammar.proofs.statements.Found.{body_sound}
use Rattle.tera_grammar.proofs.Options.{bind_both}

-- a body whose phases follow from this one
abbrev phased : Phase → Reads Body → Reads Body
phased phase o = o >>= λ b. phases phase b.0 >>= λ q. Some b

-- an item in front of what is read after it, and a body where a phase follows
abbrev led : Item → Reads Body → Reads Body
led i o = o >>= λ b. Some (Then i b.0, b.1)

abbrev kept : Body × Place → Option Phase → Reads Body
kept b o = o >>= λ q. Some b

module _ (again : Phase → Place → Reads Body) (more : Place → Reads Body) (same : (q : Phase) (p : Place) → again q p ≡ phased q (more p)) where
  last : (i : Item) (b : Body × Place) (o : Option Phase) → led i (kept b o) ≡ kept (Then i b.0, b.1) o
  last i b None = refl
  last i b (Some r) = refl

  by_phase : (phase : Phase) (i : Item) (o : Option Phase) (m : Reads Body) → next_phase phase i ≡ o → (o >>= λ q. led i (phased q m)) ≡ phased phase (led i m)
  by_phase phase i None None is = refl
  by_phase phase i None (Some b) is = sym (ap (λ o. kept (Then i b.0, b.1) (o >>= λ q. phases q b.0)) is)
  by_phase phase i (Some q) None is = refl
  by_phase phase i (Some q) (Some b) is = last i b (phases q b.0) ∙ sym (ap (λ o. kept (Then i b.0, b.1) (o >>= λ q. phases q b.0)) is)

  -- after an item
  following : (phase : Phase) (i : Item) (p : Place) → (next_phase phase i >>= λ q. led i (again q p)) ≡ phased phase (led i (more p))
  following phase i p =
      bind_both (next_phase phase i) (λ q. led i (again q p)) (λ q. led i (phased q (more p))) (λ q is. ap (led i) (same q p)) ∙ by_phase phase i (next_phase phase i) (more p) refl

  walk : (phase : Phase) (p : Place) (o : Option (Option (Item × Place))) → (o >>= top_on again phase p) ≡ phased phase (o >>= go_on more p)
  walk phase p None = refl
  walk phase p (Some None) = refl
  walk phase p (Some (Some x)) = following phase x.0 x.1

  -- an `extends` that comes too late
  module _ (l : Limits) (f : Reader) (phase : Phase) (late : (t : Tag) (q : Quote) (span : Span) → next_phase phase (Single (Extends t q span)) ≡ None) (start : Edge) (first : Span) where
    never : (q : Quote × Span) (e : Edge) (o : Reads Body) → None ≡ phased phase (led (Single (Extends (tag start first e) q.0 q.1)) o)
    never q e None = refl
    never q e (Some b) =
        sym (ap (λ o. kept (Then (Single (Extends (tag start first e) q.0 q.1)) b.0, b.1) (o >>= λ r. phases r b.0)) (late (tag start first e) q.0 q.1))

    abbrev extended : Place → Quote × Span → Takes Edge → Reads Item
    extended p q o = o >>= λ e. Some (Single (Extends (tag start first e.0) q.0 q.1), at p.seen e.1)

    unfinished : (p : Place) (q : Quote × Span) (o : Takes Edge) → None ≡ phased phase ((extended p q o >>= λ x. Some (Some x)) >>= go_on more p)
    unfinished p q None = refl
    unfinished p q (Some e) = never q e.0 (more (at p.seen e.1))

    abbrev too_late : Takes (Quote × Span) → Reads Item
    too_late o = o >>= λ q. None

    refused : (p : Place) (us : Items) → ((too_late (taken_quote us) >>= λ x. Some (Some x)) >>= top_on again phase p)
        ≡ phased phase (step l f [] p.seen (Opens OpensExtends start first us) >>= go_on more p)
    unfolding step extends_of
    refused p us = by (taken_quote us)
      where
        by : (o : Takes (Quote × Span)) → ((too_late o >>= λ x. Some (Some x)) >>= top_on again phase p)
            ≡ phased phase (((o >>= λ q. guard (is_outermost []) >>= λ u. extended p q.0 (finish_of q.1)) >>= λ x. Some (Some x)) >>= go_on more p)
        by None = refl
        by (Some q) = unfinished p q.0 (finish_of q.1)

  module _ (l : Limits) (f : Reader) where
    extends_walk : (phase : Phase) (p : Place) (start : Edge) (first : Span) (us : Items) → ((extends_at phase start first p.seen us >>= λ x. Some (Some x)) >>= top_on again phase p)
        ≡ phased phase (step l f [] p.seen (Opens OpensExtends start first us) >>= go_on more p)
    unfolding step
    extends_walk Starting p start first us = walk Starting p (extends_of [] start first p.seen us >>= λ x. Some (Some x))
    extends_walk Standalone p start first us = refused l f Standalone (λ t q span. refl) start first p us
    extends_walk Extending p start first us = refused l f Extending (λ t q span. refl) start first p us

    step_walk : (phase : Phase) (p : Place) (fr : Front) → (top_step l f phase p.seen fr >>= top_on again phase p) ≡ phased phase (step l f [] p.seen fr >>= go_on more p)
    unfolding top_step
    step_walk phase p (Opens OpensExtends start first us) = extends_walk phase p start first us
    step_walk phase p fr = walk phase p (step l f [] p.seen fr)

top_by_are : (n : ℕ) (l : Limits) (f : Reader) (phase : Phase) (p : Place) → top_by n l f phase p ≡ phased phase (items_by n l f [] p)
unfolding top_by items_by
top_by_are zero l f phase p = refl
top_by_are (suc n) l f phase p = step_walk (top_by n l f) (items_by n l f []) (top_by_are n l f) l f phase p (front p.tokens)

abbrev whole_of : Body → Bool → Option Body
whole_of b e = guard e >>= λ u. Some b

ended : (b : Body) (o : Option Phase) (e : Bool) → (o >>= λ q. whole_of b e) ≡ (guard e >>= λ u. o >>= λ q. Some b)
ended b None true = refl
ended b None false = refl
ended b (Some q) true = refl
ended b (Some q) false = refl

abbrev left_none : Reads Body → Option Body
left_none o = o >>= λ b. guard (is_end b.1.tokens) >>= λ u. Some b.0

first_phase : (b : Body × Place) (o : Option Phase) → left_none (kept b o) ≡ (o >>= λ q. whole_of b.0 (is_end b.1.tokens))
first_phase b None = refl
first_phase b (Some q) = refl

both_ends : (o : Reads Body) → left_none (phased Starting o) ≡ (o >>= λ b. guard (is_end b.1.tokens) >>= λ u. phases Starting b.0 >>= λ q. Some b.0)
both_ends None = refl
both_ends (Some b) = first_phase b (phases Starting b.0) ∙ ended b.0 (phases Starting b.0) (is_end b.1.tokens)

-- a template is a body of all tokens whose phases follow
pub template_reads : (l : Limits) (ts : Items) → template l ts ≡ (body l.bodies l [] (at nothing_seen ts) >>= λ b. guard (is_end b.1.tokens) >>= λ u. phases Starting b.0 >>= λ q. Some b.0)
unfolding template top body items
template_reads l ts = by l.bodies
  where
    by : (d : ℕ) → (top d l (at nothing_seen ts) >>= λ b. guard (is_end b.1.tokens) >>= λ u. Some b.0)
        ≡ (body d l [] (at nothing_seen ts) >>= λ b. guard (is_end b.1.tokens) >>= λ u. phases Starting b.0 >>= λ q. Some b.0)
    by zero = refl
    by (suc d) =
        ap left_none (top_by_are (suc (size ts)) l (body d l) Starting (at nothing_seen ts))
        ∙ both_ends (items_by (suc (size ts)) l (body d l) [] (at nothing_seen ts))

-- the top level has met the names of its body
kept_ok : (b : Body × Place) (o : Option Phase) (x : Body × Place) → kept b o ≡ Some x → b ≡ x
kept_ok b None x h = cc
kept_ok b (Some q) x h = same_Some _ _ h

phased_ok : (ph : Phase) (o : Reads Body) (x : Body × Place) → phased ph o ≡ Some x → o ≡ Some x
phased_ok ph None x h = cc
phased_ok ph (Some b) x h = ap Some (kept_ok b (phases ph b.0) x h)

pub top_named : (l : Limits) (d : ℕ) (ts : Items) (x : Body × Place) → top d l (at nothing_seen ts) ≡ Some x → x.1.seen ≡ nothing_seen having places x.0
unfolding top body items
top_named l zero ts x h = cc
top_named l (suc d) ts x h =
    (body_sound l (suc d) [] (at nothing_seen ts) x
    (phased_ok Starting (items_by (suc (size ts)) l (body d l) [] (at nothing_seen ts)) x (sym (top_by_are (suc (size ts)) l (body d l) Starting (at nothing_seen ts)) ∙ h))).named.grown
