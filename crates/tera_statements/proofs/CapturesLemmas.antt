-- Reading the statements that take their body as a value.
use Rattle.std.proofs.Common.{◌≡◌, Bool, true, false, ◌∷◌, refl, sym, ap, ◌∙◌}
use Rattle.std.specs.Str.{bytes_eq}
use Rattle.tera_base.specs.declared.utils.Span.{Span}
use Rattle.tera_lexer.specs.grammar.Tokens.{Items, Ended, Failed, Token, Ident}
use Rattle.tera_grammar.specs.Reads.{found, stopped, ◌>>=◌, Takes}
use Rattle.tera_grammar.specs.expressions.Operators.{GreaterThan}
use Rattle.tera_grammar.specs.expressions.Marks.{Bar, Assign, Operation}
use Rattle.tera_grammar.specs.expressions.Reading.Front.{name_of, taken_name, takes}
use Rattle.tera_grammar.specs.expressions.Reading.Whole.{path_of}
use Rattle.tera_grammar.specs.statements.Expressions.{Limits, Expression, Filtering, Attributes, ComponentName, component_text}
use Rattle.tera_grammar.specs.statements.Reading.Expressions.{attributes_of, component_of, expression_of, filter_of}
use Rattle.tera_grammar.specs.statements.Grammar.{Body, Item, Single, Set, Capturing, InCapture, Path, in_loop}
use Rattle.tera_grammar.specs.statements.Heads.{Filters, NoFilters, SetBody, Section, CallBody}
use Rattle.tera_grammar.specs.statements.Reading.Meeting.{Seen}
use Rattle.tera_grammar.specs.statements.TagParts.{AtEndCall, AtEndFilter, AtEndSet, Edge, Name, Tag}
use Rattle.tera_grammar.specs.statements.Reading.{Place, Reader, Reads, at, call_end, call_of, section_of, set_after, set_of}
use Rattle.tera_grammar.specs.statements.Reading.Heads.{filters_in, filters_of, free_name}
use Rattle.tera_grammar.specs.statements.Reading.TagParts.{closed, closed_tag, finish_of, tag}
use Rattle.tera_grammar.specs.statements.Reading.Components.{is_name}
use Rattle.tera_grammar.proofs.stops.Parts.{filters_steps}
use Rattle.tera_statements.specs.Captures.{IsNone}
use Rattle.tera_tags.specs.Heads.{attributes_to_end, expression_to_end, filters_to_end, section_to_end}
use Rattle.tera_tags.proofs.HeadsLemmas.{filters_unended, one_to_end, two_to_end}

module _ (l : Limits) (self : Reader) (path : Path) (global : Bool) (start : Edge) (first : Span) (seen : Seen) where
  -- after the name comes a value, or not
  pub set_unnamed : (ts : Items) → (z : Items) → free_name ts ≡ stopped z → set_of l self path global start first seen ts ≡ stopped z
  unfolding set_of
  set_unnamed ts z h = rw h refl

  pub set_named : (ts us : Items) (n : Name) (o : Takes Span) → free_name ts ≡ found (n, us) → takes Assign us ≡ o
      → set_of l self path global start first seen ts ≡ set_after l self path global start first seen n us o
  unfolding set_of
  set_named ts us n o named is = rw (named, is) refl

  module _ (n : Name) (items : Items) (sign : Span) (us : Items) where
    abbrev with_value : Reads Item
    with_value = set_after l self path global start first seen n items (found (sign, us))

    abbrev value_set : (Expression × Edge) × Items → Reads Item
    value_set x = found (Single (Set global (tag start first x.0.1) n sign x.0.0), at seen x.1)

    value_is : with_value ≡ (expression_to_end l (in_loop path) us >>= value_set)
    unfolding set_after expression_to_end
    value_is = sym (one_to_end (expression_of l (in_loop path) us) value_set)

    pub no_value : (z : Items) → expression_to_end l (in_loop path) us ≡ stopped z → with_value ≡ stopped z
    no_value z h = value_is ∙ ap (λ o. o >>= value_set) h

    pub value_given : (x : Expression × Edge) (vs : Items) → expression_to_end l (in_loop path) us ≡ found (x, vs)
        → with_value ≡ found (Single (Set global (tag start first x.1) n sign x.0), at seen vs)
    value_given x vs h = value_is ∙ ap (λ o. o >>= value_set) h

  module _ (n : Name) (ts : Items) where
    abbrev with_body : Reads Item
    with_body = set_after l self path global start first seen n ts (stopped ts)

    abbrev set_inside : (Filters × Edge) × Items → Reads Item
    set_inside x =
        self (InCapture ∷ path) (at seen x.1) >>= λ b. closed_tag AtEndSet b.1.tokens >>= λ e.
        found (Capturing (SetBody global (tag start first x.0.1) n x.0.0 e.0) b.0, at b.1.seen e.1)

    set_is : with_body ≡ (filters_to_end l (in_loop path) ts >>= set_inside)
    unfolding set_after filters_to_end
    set_is = sym (one_to_end (filters_of l (in_loop path) ts) set_inside)

    pub set_unended : (z : Items) → filters_to_end l (in_loop path) ts ≡ stopped z → with_body ≡ stopped z
    set_unended z h = set_is ∙ ap (λ o. o >>= set_inside) h

    module _ (x : Filters × Edge) (us : Items) (read : filters_to_end l (in_loop path) ts ≡ found (x, us)) where
      set_so : with_body ≡ set_inside (x, us)
      set_so = set_is ∙ ap (λ o. o >>= set_inside) read

      pub set_empty : (z : Items) → self (InCapture ∷ path) (at seen us) ≡ stopped z → with_body ≡ stopped z
      set_empty z h = set_so ∙ rw h refl

      module _ (b : Body) (p : Place) (inside : self (InCapture ∷ path) (at seen us) ≡ found (b, p)) where
        pub set_unclosed : (z : Items) → closed_tag AtEndSet p.tokens ≡ stopped z → with_body ≡ stopped z
        set_unclosed z h = set_so ∙ rw (inside, h) refl

        pub set_given : (e : Tag) (vs : Items) → closed_tag AtEndSet p.tokens ≡ found (e, vs)
            → with_body ≡ found (Capturing (SetBody global (tag start first x.1) n x.0 e) b, at p.seen vs)
        set_given e vs h = set_so ∙ rw (inside, h) refl

    -- neither filters nor the end of the tag
    none_there : (z : Items) → takes Bar ts ≡ stopped z → filters_of l (in_loop path) ts ≡ found (NoFilters, ts)
    unfolding filters_in
    none_there z h = filters_steps l (in_loop path) ts ∙ ap (filters_in (filters_of l (in_loop path)) l (in_loop path) ts) h

    pub set_without : IsNone ts → with_body ≡ stopped ts
    set_without h = set_unended ts (filters_unended l (in_loop path) ts NoFilters ts (none_there ts h.bar) ts h.finish)

module _ (l : Limits) (self : Reader) (path : Path) (start : Edge) (first : Span) (seen : Seen) (ts : Items) where
  abbrev section : Reads Item
  section = section_of l self path start first seen ts

  abbrev section_inside : (Filtering × Filters × Edge) × Items → Reads Item
  section_inside x =
      self (InCapture ∷ path) (at seen x.1) >>= λ b. closed_tag AtEndFilter b.1.tokens >>= λ e.
      found (Capturing (Section (tag start first x.0.2) x.0.0 x.0.1 e.0) b.0, at b.1.seen e.1)

  section_is : section ≡ (section_to_end l (in_loop path) ts >>= section_inside)
  unfolding section_of section_to_end
  section_is = sym (two_to_end (filter_of l (in_loop path) ts) (filters_of l (in_loop path)) section_inside)

  pub section_unended : (z : Items) → section_to_end l (in_loop path) ts ≡ stopped z → section ≡ stopped z
  section_unended z h = section_is ∙ ap (λ o. o >>= section_inside) h

  module _ (x : Filtering × Filters × Edge) (us : Items) (read : section_to_end l (in_loop path) ts ≡ found (x, us)) where
    section_so : section ≡ section_inside (x, us)
    section_so = section_is ∙ ap (λ o. o >>= section_inside) read

    pub section_empty : (z : Items) → self (InCapture ∷ path) (at seen us) ≡ stopped z → section ≡ stopped z
    section_empty z h = section_so ∙ rw h refl

    module _ (b : Body) (p : Place) (inside : self (InCapture ∷ path) (at seen us) ≡ found (b, p)) where
      pub section_unclosed : (z : Items) → closed_tag AtEndFilter p.tokens ≡ stopped z → section ≡ stopped z
      section_unclosed z h = section_so ∙ rw (inside, h) refl

      pub section_given : (e : Tag) (vs : Items) → closed_tag AtEndFilter p.tokens ≡ found (e, vs)
          → section ≡ found (Capturing (Section (tag start first x.2) x.0 x.1 e) b, at p.seen vs)
      section_given e vs h = section_so ∙ rw (inside, h) refl

module _ (l : Limits) (self : Reader) (path : Path) (start : Edge) (first : Span) (seen : Seen) (ts : Items) where
  abbrev call : Reads Item
  call = call_of l self path start first seen ts

  pub uncalled : (z : Items) → component_of ts ≡ stopped z → call ≡ stopped z
  unfolding call_of
  uncalled z h = rw h refl

  module _ (n : ComponentName) (us : Items) (called : component_of ts ≡ found (n, us)) where
    abbrev call_inside : (Attributes × Span × Edge) × Items → Reads Item
    call_inside x =
        self (InCapture ∷ path) (at seen x.1) >>= λ b. call_end n b.1.tokens >>= λ e.
        found (Capturing (CallBody (tag start first x.0.2) n x.0.0 x.0.1 e.0.0 e.0.1 e.0.2) b.0, at b.1.seen e.1)

    call_is : call ≡ (attributes_to_end l (in_loop path) us >>= call_inside)
    unfolding call_of attributes_to_end
    call_is = rw called (sym (two_to_end (attributes_of l (in_loop path) us) (takes (Operation GreaterThan)) call_inside))

    pub call_unended : (z : Items) → attributes_to_end l (in_loop path) us ≡ stopped z → call ≡ stopped z
    call_unended z h = call_is ∙ ap (λ o. o >>= call_inside) h

    module _ (x : Attributes × Span × Edge) (vs : Items) (given : attributes_to_end l (in_loop path) us ≡ found (x, vs)) where
      call_so : call ≡ call_inside (x, vs)
      call_so = call_is ∙ ap (λ o. o >>= call_inside) given

      pub call_empty : (z : Items) → self (InCapture ∷ path) (at seen vs) ≡ stopped z → call ≡ stopped z
      call_empty z h = call_so ∙ rw h refl

      module _ (b : Body) (p : Place) (inside : self (InCapture ∷ path) (at seen vs) ≡ found (b, p)) where
        pub call_unclosed : (z : Items) → call_end n p.tokens ≡ stopped z → call ≡ stopped z
        call_unclosed z h = call_so ∙ rw (inside, h) refl

        pub call_given : (e : Tag × ComponentName × Span) (ws : Items) → call_end n p.tokens ≡ found (e, ws)
            → call ≡ found (Capturing (CallBody (tag start first x.2) n x.0 x.1 e.0 e.1 e.2) b, at p.seen ws)
        call_given e ws h = call_so ∙ rw (inside, h) refl

-- the closing tag of a call
module _ (n : ComponentName) (ts : Items) where
  pub call_not_closed : (z : Items) → closed AtEndCall ts ≡ stopped z → call_end n ts ≡ stopped z
  unfolding call_end
  call_not_closed z h = rw h refl

  module _ (x : Edge × Span) (us : Items) (there : closed AtEndCall ts ≡ found (x, us)) where
    pub end_unnamed : (z : Items) → component_of us ≡ stopped z → call_end n ts ≡ stopped z
    unfolding call_end
    end_unnamed z h = rw (there, h) refl

    module _ (m : ComponentName) (vs : Items) (named : component_of us ≡ found (m, vs)) where
      pub end_renamed : bytes_eq (component_text m) (component_text n) ≡ false → call_end n ts ≡ stopped vs
      unfolding call_end
      end_renamed h = rw (there, named, h) refl

      module _ (same : bytes_eq (component_text m) (component_text n) ≡ true) where
        pub end_without : (z : Items) → takes (Operation GreaterThan) vs ≡ stopped z → call_end n ts ≡ stopped z
        unfolding call_end
        end_without z h = rw (there, named, same, h) refl

        module _ (last : Span) (ws : Items) (greater : takes (Operation GreaterThan) vs ≡ found (last, ws)) where
          pub end_unfinished : (z : Items) → finish_of ws ≡ stopped z → call_end n ts ≡ stopped z
          unfolding call_end
          end_unfinished z h = rw (there, named, same, greater, h) refl

          pub end_given : (f : Edge) (xs : Items) → finish_of ws ≡ found (f, xs) → call_end n ts ≡ found ((tag x.0 x.1 f, m, last), xs)
          unfolding call_end
          end_given f xs h = rw (there, named, same, greater, h) refl

-- no name of a component begins with another token
unnamed_here : (ts : Items) → is_name ts ≡ false → taken_name ts ≡ stopped ts
unnamed_here Ended h = refl
unnamed_here (Failed text span) h = refl
unnamed_here (Token (Ident text) span us) h = cc
unnamed_here (Token _ span us) h = refl

pub no_component_name : (ts : Items) → is_name ts ≡ false → component_of ts ≡ stopped ts
unfolding path_of name_of
no_component_name ts h = rw (unnamed_here ts h) refl
