-- The items of bodies, by what their tokens begin with.
use Rattle.std.proofs.Common.{◌≡◌, ℕ, List, Option, Some, None, refl, sym, ap, subst, ◌∙◌}
use Rattle.tera_base.specs.declared.utils.Span.{Span}
use Rattle.tera_lexer.specs.grammar.Tokens as toks
use Rattle.tera_lexer.specs.grammar.Tokens.{Tok, Items, Token}
use Rattle.tera_lexer.specs.declared.lexer.delimiters.Kind.TheVariants as kind
use Rattle.tera_grammar.specs.Reads.{found, stopped, ◌>>=◌}
use Rattle.tera_grammar.specs.statements.Expressions.{Limits, Expression}
use Rattle.tera_grammar.specs.statements.Reading.Expressions.{expression_of}
use Rattle.tera_grammar.specs.statements.Grammar.{Item, Path, Shown, Single, Text, in_loop}
use Rattle.tera_grammar.specs.statements.Reading.Meeting.{Seen}
use Rattle.tera_grammar.specs.statements.TagParts as parts
use Rattle.tera_grammar.specs.statements.TagParts.{Edge, opener_token, start_yield}
use Rattle.tera_grammar.specs.statements.Reading.{Place, Reader, Reads, at, shown_of, step, tag_of}
use Rattle.tera_grammar.specs.statements.Reading.TagParts as reading
use Rattle.tera_grammar.specs.statements.Reading.TagParts.{front, variable_end_of, wrong_at}
use Rattle.tera_grammar.proofs.statements.TagParts.{FrontOf, front_is}
use Rattle.tera_tags.specs.Kinds.{kind_of, opener_kind, opener_of}
use Rattle.tera_tags.specs.declared.fronts.Front.TheVariants as fronts
use Rattle.tera_tags.specs.declared.fronts.Opener.{Opener}
use Rattle.tera_tags.specs.declared.fronts.Closer.{Closer}

-- a variable tag comes next
pub record ShowsTag (ts : Items) : Type 0 where
  pub start : Edge
  pub following : Items
  pub tokens : ts ≡ Token (toks.Start kind.Variable start.dash) start.span following
  pub is : front ts ≡ reading.Shows start following

shows_by : (ts : Items) (fr : reading.Front) → front ts ≡ fr → FrontOf ts fr → fronts.Shows ≡ kind_of fr → ShowsTag ts
shows_by ts (reading.Shows start us) is tokens h = record { start = start; following = us; tokens = tokens; is = is }
shows_by ts reading.Ends is tokens h = cc
shows_by ts (reading.Closes c start first us) is tokens h = cc
shows_by ts (reading.Holds text span us) is tokens h = cc
shows_by ts (reading.Opens o start first us) is tokens h = cc
shows_by ts reading.Wrong is tokens h = cc

pub shows_tag : (ts : Items) → fronts.Shows ≡ kind_of (front ts) → ShowsTag ts
shows_tag ts h = shows_by ts (front ts) refl (front_is ts) h

-- a tag that opens a statement comes next
opener_back : (o : parts.Opener) → opener_of (opener_kind o) ≡ o
opener_back (parts.OpensSet global) = refl
opener_back parts.OpensInclude = refl
opener_back parts.OpensExtends = refl
opener_back parts.OpensBlock = refl
opener_back parts.OpensFor = refl
opener_back parts.OpensIf = refl
opener_back parts.OpensFilter = refl
opener_back parts.OpensComponent = refl
opener_back parts.OpensBreak = refl
opener_back parts.OpensContinue = refl
opener_back parts.OpensCall = refl

pub record OpensTag (o : parts.Opener) (ts : Items) : Type 0 where
  pub start : Edge
  pub first : Span
  pub following : Items
  pub tokens : ts ≡ start_yield start (Token (opener_token o) first following)
  pub is : front ts ≡ reading.Opens o start first following

same_opener : (o : Opener) (p : parts.Opener) → fronts.Opens o ≡ fronts.Opens (opener_kind p) → p ≡ opener_of o
same_opener o p h = let same : o ≡ opener_kind p = cc in sym (opener_back p) ∙ ap opener_of (sym same)

opens_by : (o : Opener) (ts : Items) (fr : reading.Front) → front ts ≡ fr → FrontOf ts fr → fronts.Opens o ≡ kind_of fr → OpensTag (opener_of o) ts
opens_by o ts (reading.Opens p start first us) is tokens h =
    subst (λ q. OpensTag q ts) (same_opener o p h) (record { start = start; first = first; following = us; tokens = tokens; is = is })
opens_by o ts reading.Ends is tokens h = cc
opens_by o ts (reading.Closes c start first us) is tokens h = cc
opens_by o ts (reading.Holds text span us) is tokens h = cc
opens_by o ts (reading.Shows start us) is tokens h = cc
opens_by o ts reading.Wrong is tokens h = cc

pub opens_tag : (o : Opener) (ts : Items) → fronts.Opens o ≡ kind_of (front ts) → OpensTag (opener_of o) ts
opens_tag o ts h = opens_by o ts (front ts) refl (front_is ts) h

-- both tokens of it were taken
pub entered : (o : parts.Opener) (ts us vs : Items) (t u : Tok) (s r : Span) → OpensTag o ts → ts ≡ Token t s us → us ≡ Token u r vs
    → (start : Edge) × (front ts ≡ reading.Opens o start r vs)
entered o ts us vs t u s r there one two =
    let following : us ≡ Token (opener_token o) there.first there.following = after_first _ _ _ _ _ _ (sym one ∙ there.tokens) in
    let ends = sym two ∙ following in
    (there.start, there.is ∙ (λ i. reading.Opens o there.start (span_first _ _ _ _ _ _ (sym ends) i) (after_first _ _ _ _ _ _ (sym ends) i)))
  where
    after_first : (t u : Tok) (s r : Span) (us vs : Items) → Token t s us ≡ Token u r vs → us ≡ vs
    after_first t u s r us vs h = cc

    span_first : (t u : Tok) (s r : Span) (us vs : Items) → Token t s us ≡ Token u r vs → s ≡ r
    span_first t u s r us vs h = cc

-- what the next step comes to
module _ (l : Limits) (self : Reader) (path : Path) (seen : Seen) (ts : Items) where
  step_ended_by : (fr : reading.Front) → fronts.Ends ≡ kind_of fr → step l self path seen ts fr ≡ found (None, at seen ts)
  unfolding step
  step_ended_by reading.Ends h = refl
  step_ended_by (reading.Closes c start first us) h = refl
  step_ended_by (reading.Holds text span us) h = cc
  step_ended_by (reading.Shows start us) h = cc
  step_ended_by (reading.Opens o start first us) h = cc
  step_ended_by reading.Wrong h = cc

  pub step_ended : fronts.Ends ≡ kind_of (front ts) → step l self path seen ts (front ts) ≡ found (None, at seen ts)
  step_ended h = step_ended_by (front ts) h

  step_closed_by : (c : Closer) (fr : reading.Front) → fronts.Closes c ≡ kind_of fr → step l self path seen ts fr ≡ found (None, at seen ts)
  unfolding step
  step_closed_by c (reading.Closes d start first us) h = refl
  step_closed_by c reading.Ends h = refl
  step_closed_by c (reading.Holds text span us) h = cc
  step_closed_by c (reading.Shows start us) h = cc
  step_closed_by c (reading.Opens o start first us) h = cc
  step_closed_by c reading.Wrong h = cc

  pub step_closed : (c : Closer) → fronts.Closes c ≡ kind_of (front ts) → step l self path seen ts (front ts) ≡ found (None, at seen ts)
  step_closed c h = step_closed_by c (front ts) h

  step_wrong_by : (fr : reading.Front) → fronts.Wrong ≡ kind_of fr → step l self path seen ts fr ≡ stopped (wrong_at ts)
  unfolding step
  step_wrong_by reading.Wrong h = refl
  step_wrong_by reading.Ends h = cc
  step_wrong_by (reading.Closes d start first us) h = cc
  step_wrong_by (reading.Holds text span us) h = cc
  step_wrong_by (reading.Shows start us) h = cc
  step_wrong_by (reading.Opens o start first us) h = cc

  pub step_wrong : fronts.Wrong ≡ kind_of (front ts) → step l self path seen ts (front ts) ≡ stopped (wrong_at ts)
  step_wrong h = step_wrong_by (front ts) h

  pub step_holds : (fr : reading.Front) (text : List ℕ) (span : Span) (us : Items) → fr ≡ reading.Holds text span us → step l self path seen ts fr ≡ found (Some (Single (Text text span)), at seen us)
  unfolding step
  step_holds fr text span us h = ap (step l self path seen ts) h

  module _ (fr : reading.Front) (start : Edge) (us : Items) (is : fr ≡ reading.Shows start us) where
    abbrev shown : Reads Item → Reads (Option Item)
    shown r = r >>= λ x. found (Some x.0, x.1)

    shows_so : step l self path seen ts fr ≡ shown (shown_of l path start seen us)
    unfolding step
    shows_so = ap (step l self path seen ts) is

    pub shows_nothing : (z : Items) → expression_of l (in_loop path) us ≡ stopped z → step l self path seen ts fr ≡ stopped z
    unfolding shown_of
    shows_nothing z h = shows_so ∙ rw h refl

    module _ (e : Expression) (vs : Items) (read : expression_of l (in_loop path) us ≡ found (e, vs)) where
      pub shows_unended : (z : Items) → variable_end_of vs ≡ stopped z → step l self path seen ts fr ≡ stopped z
      unfolding shown_of
      shows_unended z h = shows_so ∙ rw (read, h) refl

      pub shows_given : (f : Edge) (ws : Items) → variable_end_of vs ≡ found (f, ws) → step l self path seen ts fr ≡ found (Some (Single (Shown start e f)), at seen ws)
      unfolding shown_of
      shows_given f ws h = shows_so ∙ rw (read, h) refl

  module _ (fr : reading.Front) (o : parts.Opener) (start : Edge) (first : Span) (us : Items) (is : fr ≡ reading.Opens o start first us) where
    pub opens_nothing : (z : Items) → tag_of l self path o start first seen us ≡ stopped z → step l self path seen ts fr ≡ stopped z
    unfolding step
    opens_nothing z h = ap (step l self path seen ts) is ∙ ap (λ (r : Reads Item). r >>= λ x. found (Some x.0, x.1)) h

    pub opens_item : (i : Item) (p : Place) → tag_of l self path o start first seen us ≡ found (i, p) → step l self path seen ts fr ≡ found (Some i, p)
    unfolding step
    opens_item i p h = ap (step l self path seen ts) is ∙ ap (λ (r : Reads Item). r >>= λ x. found (Some x.0, x.1)) h

-- the start of a variable tag was taken
pub shown_taken : (ts us : Items) (t : Tok) (s : Span) → ShowsTag ts → ts ≡ Token t s us → (start : Edge) × (front ts ≡ reading.Shows start us)
shown_taken ts us t s there took = (there.start, there.is ∙ ap (reading.Shows there.start) (same_after _ _ _ _ _ _ (sym there.tokens ∙ took)))
  where
    same_after : (t u : Tok) (s r : Span) (us vs : Items) → Token t s us ≡ Token u r vs → us ≡ vs
    same_after t u s r us vs h = cc
