-- How the top level of a template is read.
use Rattle.std.proofs.Common.{◌≡◌, ◌⊎◌, ℕ, zero, suc, ◌+◌, ◌<◌, ◌≤◌, Bool, true, false, List, [], ◌∷◌, ◌++◌, append-nil, length, ◌==◌, Option, Some, None, Result, Ok, Err, IfErr, inl, inr, ⊎_elim, refl, sym, ap, subst, ◌∙◌, arith, is_some}
use Rattle.std.proofs.Math.Dec.{eqb-suc-zero}
use Rattle.std.specs.Str.{chars, trim_start}
use Rattle.tera_base.proofs.Tellings.{reports_weaker}
use Rattle.tera_base.specs.Errors.{HasNoNotes, IsMemory, Reports}
use Rattle.tera_base.specs.declared.errors.Error.{Error}
use Rattle.tera_base.specs.declared.utils.Span.{Span}
use Rattle.tera_lexer.specs.code.Cursors.{Passes, Position, size}
use Rattle.tera_lexer.specs.grammar.Faults.{BeginsWith, Covers, EndsIn, EndsWith, Faults}
use Rattle.tera_lexer.specs.grammar.Place.{IsWithin}
use Rattle.tera_lexer.specs.grammar.Tokens.{Tok, Items, Ended, Failed, Token}
use Rattle.tera_ast.specs.Tree.{Stmt}
use Rattle.tera_tree.specs.Tree.{Output}
use Rattle.tera_grammar.specs.statements.Expressions.{Limits}
use Rattle.tera_grammar.specs.statements.Grammar.{Body, Item, Single, Text}
use Rattle.tera_grammar.specs.statements.Output.{added_by, added_nodes, text_adds}
use Rattle.tera_grammar.specs.statements.Reading.Phases as reading
use Rattle.tera_grammar.specs.statements.Reading.{Place, Reader, Reads, at, body, step, template, top_step}
use Rattle.tera_grammar.specs.statements.Reading.Loops as loops
use Rattle.tera_grammar.specs.statements.Reading.Loops.{text_weight, turn, weight, with_added}
use Rattle.tera_grammar.specs.statements.Reading.TagParts.{Front, Holds, Opens, front, front_at}
use Rattle.tera_grammar.specs.statements.TagParts.{Edge, Opener, OpensExtends}
use Rattle.tera_grammar.specs.expressions.Concrete.{Quote}
use Rattle.tera_grammar.specs.expressions.Reading.Front.{taken_quote}
use Rattle.tera_grammar.proofs.Readings.{stops_as, template_complete, template_sound}
use Rattle.tera_grammar.proofs.statements.Loops.{begins_extends, first_step, other_step, topping_extends, topping_refused, topping_stops}
use Rattle.tera_grammar.specs.statements.Top.{is_blank, is_empty}
use Rattle.tera_grammar.specs.statements.Reading.Meeting.{Seen}
use Rattle.tera_statements.specs.Items.{AreEmptyTexts, Enters, GoesByItem}
use Rattle.tera_tags.specs.Kinds.{kind_of, opens_extends}
use Rattle.tera_tags.specs.declared.fronts.Front as fronts
use Rattle.tera_tags.specs.declared.fronts.Front.TheVariants as kinds
use Rattle.tera_tags.specs.declared.fronts.Opener.TheVariants as openers
use Rattle.tera_expr_parts.specs.Allowed.{AreValid}
use Rattle.tera_expect.specs.Taking.{RefusesIn, Took}
use Rattle.tera_expect.proofs.NotesLemmas.{notes_none}
use Rattle.tera_statements.specs.Templates.{Excludes, GivesPhase, GivesTemplate, GivesTextPhase, IsStep, ReadsTemplate, RefusesTemplate, ComesNext, StopsLate, TopOf, late, top_depth, phase_if_any, phase_of}
use Rattle.tera_statements.specs.declared.templates.Phase.{Phase}
use Rattle.tera_tags.specs.declared.names.Names.{Names}
use Rattle.tera_tree.specs.declared.outputs.ParserOutput.{ParserOutput}
use Rattle.tera_grammar.specs.Reads.{Read, found, stopped, StopsAt, Fails}
use Rattle.tera_statements.proofs.ItemsLemmas.{step_holds}

-- a body may open
pub opens : (l : Limits) → AreValid l → l.bodies ≡ suc (top_depth l)
opens l valid = let some : 1 ≤ l.bodies = valid.bodies.0 in omega arith

-- an `extends` that comes next
pub extends_kind : (k : fronts.Front) → opens_extends k ≡ true → kinds.Opens openers.Extends ≡ k
extends_kind (kinds.Opens openers.Extends) h = refl
extends_kind k h = cc

pub extends_front : (fr : Front) → opens_extends (kind_of fr) ≡ true → (start : Edge) × (first : Span) × (us : Items) × (fr ≡ Opens OpensExtends start first us)
extends_front (Opens OpensExtends start first us) h = (start, first, us, refl)
extends_front fr h = cc

no_extends : (fr : Front) → opens_extends (kind_of fr) ≡ false → begins_extends fr ≡ false
no_extends (Opens OpensExtends start first us) h = cc
no_extends fr h = refl

-- where none comes next, where one may be, and of empty texts the next item of the top level is read as that of a body
pub other_steps : (l : Limits) (ph : reading.Phase) (p : Place) → opens_extends (kind_of (front p.tokens)) ≡ false → IsStep l ph p
other_steps l ph p none = other_step l (body (top_depth l) l) ph p.seen p.tokens (front p.tokens) (no_extends (front p.tokens) none)

starts_only : (o : Option Phase) (ph : reading.Phase) → phase_if_any o ≡ turn ph loops.Parent → is_some o ≡ true → ph ≡ reading.Starting
starts_only o reading.Starting h some = refl
starts_only None reading.Standalone h some = cc
starts_only None reading.Extending h some = cc
starts_only (Some q) reading.Standalone h some = cc
starts_only (Some q) reading.Extending h some = cc

pub first_steps : (l : Limits) (o : Option Phase) (ph : reading.Phase) (p : Place) → phase_if_any o ≡ turn ph loops.Parent → is_some o ≡ true → IsStep l ph p
first_steps l o ph p h some =
    subst (λ ph. IsStep l ph p) (sym (starts_only o ph h some)) (first_step l (body (top_depth l) l) p.seen p.tokens (front p.tokens))

empty_front : (ts : Items) → AreEmptyTexts ts → begins_extends (front ts) ≡ false
empty_front Ended empty = refl
empty_front (Failed text here) empty = refl
empty_front (Token t span items) empty = ap (λ u. begins_extends (front_at u span items)) empty.0

pub empty_steps : (l : Limits) (ph : reading.Phase) (p : Place) → AreEmptyTexts p.tokens → IsStep l ph p
empty_steps l ph p empty = other_step l (body (top_depth l) l) ph p.seen p.tokens (front p.tokens) (empty_front p.tokens empty)

-- an `extends` is taken up to its string
same_rest : (o : Opener) (start edge : Edge) (first span : Span) (us vs : Items) → Opens o start first us ≡ Opens o edge span vs → us ≡ vs
same_rest o start edge first span us vs h = cc

late_at : (old mid left : Items) (edge : Edge) (span : Span) → front old ≡ Opens OpensExtends edge span mid → StopsAt (late (taken_quote mid)) left → StopsLate old left
late_at old mid left edge span entered stops = λ start first us is.
    subst (λ ts. StopsAt (late (taken_quote ts)) left) (same_rest OpensExtends edge start span first mid us (sym entered ∙ is)) stops

pub quoted_late : (old left : Items) (mid : Position) (q : Quote × Span) → Enters OpensExtends old mid → taken_quote mid.left ≡ found (q, left) → StopsLate old left
quoted_late old left mid q (edge, entered) quoted = late_at old mid.left left edge mid.span entered (inl (ap late quoted))

pub unquoted_late : (old left : Items) (mid : Position) (e : Error) → Enters OpensExtends old mid → Fails (taken_quote mid.left) left e → IsMemory e ⊎ StopsLate old left
unquoted_late old left mid e entered (inl memory) = inl memory
unquoted_late old left mid e (edge, entered) (inr stops) =
    inr (late_at old mid.left left edge mid.span entered (stops_as (taken_quote mid.left) (late (taken_quote mid.left)) left (λ z none. ap late none) stops))

-- what keeps tokens from being those of a template
module _ (l : Limits) (valid : AreValid l) (here : Place) (ph : reading.Phase) where
  abbrev Next : Reads (Option Item)
  Next = top_step l (body (top_depth l) l) ph here.seen here.tokens (front here.tokens)

  pub late_excluded : turn ph loops.Parent ≡ None → (start : Edge) (first : Span) (us : Items) → front here.tokens ≡ Opens OpensExtends start first us
      → (left : Items) → StopsAt (late (taken_quote us)) left → Excludes l here ph left
  late_excluded none start first us is left h = λ ts out g.
      stops_as (late (taken_quote us)) (template l ts) left (λ z there. topping_extends l (top_depth l) (opens l valid) ts here out ph g none start first us is z there) h

  pub step_excluded : (left : Items) → StopsAt Next left → Excludes l here ph left
  step_excluded left h = λ ts out g. stops_as Next (template l ts) left (λ z there. topping_refused l (top_depth l) (opens l valid) ts here out ph g z there) h

  pub turn_excluded : (i : Item) (new : Place) → Next ≡ found (Some i, new) → turn ph (weight (added_by false i)) ≡ None → Excludes l here ph new.tokens
  turn_excluded i new read none = λ ts out g. inl (topping_stops l (top_depth l) (opens l valid) ts here out ph i new (with_added out (added_by false i)) g read refl none)

-- no phase is after
pub no_phase : (p : Option Phase) (q : Option reading.Phase) → phase_if_any p ≡ q → is_some p ≡ false → q ≡ None
no_phase None q is h = sym is
no_phase (Some p) q is h = cc

-- a text of white space
blank_nothing : (rest : List ℕ) → rest ≡ trim_start [] → (length rest == 0) ≡ true
unfolding trim_start chars
blank_nothing rest h = ap (λ r. length r == 0) h

none_left : (rest : List ℕ) → (length rest == 0) ≡ is_empty rest
none_left [] = refl
none_left (b ∷ bs) = eqb-suc-zero (length bs)

pub blank_by : (text rest : List ℕ) → rest ≡ trim_start text → (length rest == 0) ≡ is_blank text
blank_by [] rest h = blank_nothing rest h
blank_by (b ∷ bs) rest h = none_left rest ∙ ap is_empty h

-- where the last of some tokens ends, one of them ends
passed : (n : ℕ) (items : Items) (last : Span) (left : Items) (here : Span) → Passes n items last left here → (span : Span) → EndsWith here span → EndsWith last span ⊎ EndsIn items span
passed zero items last left here (left_is, span_is) span ends = inl (subst (λ s. EndsWith s span) span_is ends)
passed (suc n) Ended last left here passes span ends = absurd passes
passed (suc n) (Failed text at) last left here passes span ends = absurd passes
passed (suc n) (Token t at items) last left here passes span ends = inr (passed n items at left here passes span ends)

some_passed : (n : ℕ) (t : Tok) (first : Span) (items : Items) (last : Span) (left : Items) (here : Span) → Passes n (Token t first items) last left here
    → size left < size items + 1 → (span : Span) → EndsWith here span → EndsIn (Token t first items) span
some_passed zero t first items last left here (left_is, span_is) fewer span ends = let same : size left ≡ size items + 1 = ap size left_is in absurd (omega arith)
some_passed (suc n) t first items last left here passes fewer span ends = passed n items first left here passes span ends

-- a fault from the next token on
pub covered : (old new : Position) (first span : Span) (text : List ℕ) (e : Error) → Took old new → ComesNext (Some first) old
    → (IsWithin new.source first → IsWithin new.source span) → BeginsWith first span → EndsWith first span ⊎ EndsWith new.span span → new.span.range.end ≤ span.range.end → Reports text span e
    → HasNoNotes e → RefusesIn old new e
unfolding Took RefusesIn
covered old new first span text e took ((t, following, is), there) within starts ends reaches reported none =
    let inside : IsWithin old.source span = subst (λ source. IsWithin source span) took.0.source (within (subst (λ source. IsWithin source first) (sym took.0.source) there)) in
    let passes = subst (λ ts. Passes took.0.count ts old.span new.left new.span) is took.0.passes in
    let fewer = subst (λ ts. size new.left < size ts) is took.1 in
    let covers : Covers (Token t first following) span = inl (starts, ⊎_elim (λ here. inl here) (λ there. some_passed took.0.count t first following old.span new.left new.span passes fewer span there) ends) in (
      reports_weaker (λ words s. (words ≡ text) × (s ≡ span)) (λ words s. IsWithin old.source s × Faults old.left words s) e
          (λ words s same. subst (λ v. IsWithin old.source v × Faults old.left words v) (sym same.1) (inside, inr (inr (subst (λ ts. Covers ts span) (sym is) covers)))) reported,
      inl (
        took.0,
        reports_weaker (λ words s. (words ≡ text) × (s ≡ span)) (λ words s. new.span.range.end ≤ s.range.end) e
            (λ words s same. subst (λ (v : Span). new.span.range.end ≤ v.range.end) (sym same.1) reaches) reported,
      ),
      notes_none old.left e none,
    )

-- what is refused of a template of which so much has been read
pub excluded_fails : (l : Limits) (ts left : Items) (here : Place) (out : Output) (ph : reading.Phase) (e : Error) → TopOf l ts here out ph → IsMemory e ⊎ Excludes l here ph left → Fails (template l ts) left e
excluded_fails l ts left here out ph e top (inl memory) = inl memory
excluded_fails l ts left here out ph e top (inr excludes) = inr (excludes ts out top)

pub fails_excluded : (l : Limits) (here : Place) (ph : reading.Phase) (left : Items) (e : Error) → AreValid l
    → Fails (top_step l (body (top_depth l) l) ph here.seen here.tokens (front here.tokens)) left e → IsMemory e ⊎ Excludes l here ph left
fails_excluded l here ph left e valid (inl memory) = inl memory
fails_excluded l here ph left e valid (inr h) = inr (step_excluded l valid here ph left h)

-- what fails on the top level as in a body
pub step_fails : (l : Limits) (ph : reading.Phase) (p : Place) (left : Items) (e : Error) → IsStep l ph p
    → Fails (step l (body (top_depth l) l) [] p.seen p.tokens (front p.tokens)) left e → Fails (top_step l (body (top_depth l) l) ph p.seen p.tokens (front p.tokens)) left e
step_fails l ph p left e same h = subst (λ (o : Reads (Option Item)). Fails o left e) (sym same) h

-- what is read of the tokens is what they are
apart : (b : Body) (z : Items) (o : Read Body) → o ≡ found b → o ≡ stopped z → ⊥
apart b z (found c) is h = cc
apart b z (stopped y) is h = cc

pub template_refused : (l : Limits) (r : Result (ParserOutput × Names) Error) (old new : Position) → ReadsTemplate l r old.left new.left → IfErr r (RefusesIn old new)
    → IfErr r (RefusesTemplate l old)
template_refused l (Ok t) old new read refused = tt
template_refused l (Err e) old new read refused = (new, read, refused)

pub template_given : (l : Limits) (r : Result (ParserOutput × Names) Error) (ts left : Items) → ReadsTemplate l r ts left → GivesTemplate l r ts
template_given l (Ok t) ts left (b, read, shows, named) = (b, template_sound l ts b read, shows, named)
template_given l (Err e) ts left (inl memory) = inl memory
template_given l (Err e) ts left (inr (inl h)) = inr (λ b is. apart b left (template l ts) (template_complete l ts b is) h)
template_given l (Err e) ts left (inr (inr (inl (t, s, h)))) = inr (λ b is. apart b (Token t s left) (template l ts) (template_complete l ts b is) h)
template_given l (Err e) ts left (inr (inr (inr (text, s, h, ended)))) = inr (λ b is. apart b (Failed text s) (template l ts) (template_complete l ts b is) h)

-- what a text weighs
pub weight_text : (text : List ℕ) → weight (text_adds text) ≡ text_weight (is_blank text)
weight_text [] = refl
weight_text (b ∷ bs) = refl

standalone_by : (blank : Bool) → turn reading.Standalone (text_weight blank) ≡ Some reading.Standalone
standalone_by true = refl
standalone_by false = refl

pub standalone_text : (text : List ℕ) → turn reading.Standalone (weight (text_adds text)) ≡ Some reading.Standalone
standalone_text text = ap (turn reading.Standalone) (weight_text text) ∙ standalone_by (is_blank text)

-- a text is put after the nodes
pub with_text : (out : Output) (text : List ℕ) (nodes : List Stmt) → nodes ≡ out.nodes ++ added_nodes (text_adds text) → (record out { nodes = nodes }) ≡ with_added out (text_adds text)
with_text out [] nodes h = λ i. record { parent = out.parent; nodes = h i; definitions = sym (append-nil out.definitions) i }
with_text out (b ∷ bs) nodes h = λ i. record { parent = out.parent; nodes = h i; definitions = sym (append-nil out.definitions) i }

-- a text that comes next is an item of the template
top_holds : (l : Limits) (self : Reader) (ph : reading.Phase) (seen : Seen) (ts us : Items) (text : List ℕ) (span : Span) → front ts ≡ Holds text span us
    → top_step l self ph seen ts (front ts) ≡ found (Some (Single (Text text span)), at seen us)
unfolding top_step
top_holds l self ph seen ts us text span is = ap (top_step l self ph seen ts) is ∙ step_holds l self [] seen ts (Holds text span us) text span us refl

pub text_gives : (l : Limits) → AreValid l → (ph : Phase) (r : Result (Option Phase) Error) (out before : Output) (seen : Seen) (ts us : Items) (text : List ℕ) (span : Span)
    → front ts ≡ Holds text span us → GivesTextPhase text ph r out before → GivesPhase l ph r out before (at seen us) (at seen ts)
text_gives l valid ph (Ok None) out before seen ts us text span is gives = absurd gives
text_gives l valid ph (Ok (Some q)) out before seen ts us text span is (shows, turned) =
    (Single (Text text span), top_holds l (body (top_depth l) l) (phase_of ph) seen ts us text span is, shows, turned)
text_gives l valid ph (Err e) out before seen ts us text span is (inl memory) = inl memory
text_gives l valid ph (Err e) out before seen ts us text span is (inr none) =
    inr (turn_excluded l valid (at seen ts) (phase_of ph) (Single (Text text span)) (at seen us) (top_holds l (body (top_depth l) l) (phase_of ph) seen ts us text span is) none)

pub text_goes : (ph : Phase) (r : Result (Option Phase) Error) (out before : Output) (text : List ℕ) (old new : Position) → GivesTextPhase text ph r out before → Took old new → GoesByItem r old new
text_goes ph (Ok None) out before text old new gives took = absurd gives
text_goes ph (Ok (Some q)) out before text old new gives took = took
text_goes ph (Err e) out before text old new gives took = tt

held_empty : (ts us : Items) (text : List ℕ) (span : Span) → front ts ≡ Holds text span us → AreEmptyTexts ts → text ≡ []
held_empty Ended us text span is empty = cc
held_empty (Failed reported here) us text span is empty = absurd empty
held_empty (Token t here items) us text span is empty = same (sym (ap (λ u. front_at u here items) empty.0) ∙ is)
  where
    same : Holds [] here items ≡ Holds text span us → text ≡ []
    same h = cc

pub text_empty : (r : Result (Option Phase) Error) (ts us : Items) (text : List ℕ) (span : Span) → front ts ≡ Holds text span us
    → IfErr r (λ e. text ≡ [] → ⊥) → IfErr r (λ e. AreEmptyTexts ts → ⊥)
text_empty (Ok x) ts us text span is h = tt
text_empty (Err e) ts us text span is h = λ empty. h (held_empty ts us text span is empty)
