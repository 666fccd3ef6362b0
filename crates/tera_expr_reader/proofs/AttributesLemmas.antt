-- Reading the attributes of calls of components.
use Rattle.std.proofs.Common.{◌≡◌, inl, inr, ℕ, Bool, List, [], ◌∷◌, ◌++◌, Option, Some, None, Result, Ok, Err, refl, sym, ap, ap₂, subst, ◌∙◌}
use Rattle.tera_base.specs.Values.{TextKey}
use Rattle.tera_base.specs.ValueView.{key_view}
use Rattle.tera_base.specs.declared.values.Key.{Key}
use Rattle.tera_base.specs.declared.errors.Error.{Error}
use Rattle.tera_base.specs.declared.utils.Span.{Span}
use Rattle.tera_lexer.specs.grammar.Tokens.{Items}
use Rattle.tera_lexer.specs.code.Cursors.{Position}
use Rattle.tera_ast.specs.Tree as tree
use Rattle.tera_ast.specs.View.{entries_view, entry_view, expression_view}
use Rattle.tera_ast.specs.declared.ast.Expression.{Expression}
use Rattle.tera_ast.specs.declared.ast.MapEntryOf.{MapEntryOf}
use Rattle.tera_ast.specs.declared.ast.MapEntryOf.TheVariants as entries
use Rattle.tera_grammar.specs.Reads.{Read, found, stopped, ◌>>=◌, StopsAt, Fails}
use Rattle.tera_grammar.specs.expressions.Marks.{Assign, LeftBrace, RightBrace, Spread}
use Rattle.tera_grammar.specs.expressions.Concrete.{Name, Quote, Tree, Attributes, no_attributes, bare, quoted, valued, spreading}
use Rattle.tera_grammar.specs.expressions.Output.{attributes_output}
use Rattle.tera_grammar.specs.expressions.Reading.Front.{Place, at, Reads, takes, skip, taken_name, name_of, taken_quote, quote_at}
use Rattle.tera_grammar.specs.expressions.Reading.Rooms.{Room}
use Rattle.tera_grammar.specs.expressions.Reading.Bracketed.{Reader, value_at, named_at, attribute_at, attributes_of}
use Rattle.tera_grammar.proofs.stops.Fronts.{takes_ok, first_stays}
use Rattle.tera_grammar.proofs.Readings.{stops_as}
use Rattle.tera_grammar.proofs.stops.Links.{attributes_steps}
use Rattle.tera_expr_reader.proofs.RowsLemmas.{reader_local}
use Rattle.tera_expr_parts.specs.CommaLists.{reader_by, reader_of}
use Rattle.tera_expr_reader.specs.Chains.{Adds, Lacks}
use Rattle.tera_expr_reader.specs.Attributes.{braced_of, IsBraced, ValueGives, entry_onto, IsAttribute, AttributeGives, MaybeAttribute}
use Rattle.tera_expr_parts.specs.Attributes.{GivesQuote}
use Rattle.tera_expect.specs.Taking.{GivesAt, name_in}
use Rattle.tera_expr_parts.specs.declared.rows.Values.{Values}
use Rattle.tera_expect.proofs.Steps.{failed, failed_past, failed_as, skipped, unskipped, named, unnamed}

-- the loop of attributes, whatever the links of their values
steps_by : (d : ℕ) (own : Option ℕ) (w : Room) (p : Place)
    → attributes_of (reader_by d own) w p ≡ attribute_at (attributes_of (reader_by d own) w) (reader_by d own) w p (name_of p) (skip LeftBrace p)
steps_by d own w p = attributes_steps (reader_by d own) (reader_local d own) w p

pub attributes_step : (v : Values) (w : Room) (p : Place) → attributes_of (reader_of v) w p ≡ attribute_at (attributes_of (reader_of v) w) (reader_of v) w p (name_of p) (skip LeftBrace p)
attributes_step v w p = steps_by v.depth v.own w p

-- attributes in front of others
abbrev onto : List (MapEntryOf Expression) → tree.Entries → tree.Entries
onto [] es = es
onto (x ∷ xs) es = entry_onto (entry_view x) (onto xs es)

one_onto : (x : MapEntryOf Expression) (xs : List (MapEntryOf Expression)) → entries_view (x ∷ xs) ≡ entry_onto (entry_view x) (entries_view xs)
one_onto (entries.KeyValue k e) xs = refl
one_onto (entries.Spread e) xs = refl

onto_nothing : (xs : List (MapEntryOf Expression)) → entries_view xs ≡ onto xs tree.NoEntries
onto_nothing [] = refl
onto_nothing (x ∷ xs) = one_onto x xs ∙ ap (entry_onto (entry_view x)) (onto_nothing xs)

onto_last : (xs : List (MapEntryOf Expression)) (x : MapEntryOf Expression) (es : tree.Entries) → onto (xs ++ (x ∷ [])) es ≡ onto xs (entry_onto (entry_view x) es)
onto_last [] x es = refl
onto_last (y ∷ xs) x es = ap (entry_onto (entry_view y)) (onto_last xs x es)

-- what is read of attributes so far, and what is still to be read
pub record Attributing (l : Bool) (v : Values) (w : Room) (whole : Reads Attributes) (items : List (MapEntryOf Expression)) (now : Place) : Type 0 where
  pub put : Attributes → Attributes
  pub reads : whole ≡ (attributes_of (reader_of v) w now >>= λ r. found (put r.0, r.1))
  pub shows : (r : Attributes) → attributes_output l (put r) ≡ onto items (attributes_output l r)

bind_same : {A B : Type 0} (o : Read (A × B)) → (o >>= λ x. found (x.0, x.1)) ≡ o
bind_same (stopped z) = refl
bind_same (found x) = refl

bind_assoc : {A B C : Type 0} (o : Read A) (f : A → Read B) (g : B → Read C) → ((o >>= f) >>= g) ≡ (o >>= λ x. f x >>= g)
bind_assoc (stopped z) f g = refl
bind_assoc (found x) f g = refl

-- a list is read nowhere where a part of it is not, or another is not
lacks_as : {A R : Type 0} (part : Read A) (whole : (Place → Reads R) → Reads R) (left : Items) (e : Error) → ((z : Items) → part ≡ stopped z → (more : Place → Reads R) → whole more ≡ stopped z)
    → Fails part left e → Lacks whole left e
lacks_as part whole left e same (inl memory) = inl memory
lacks_as part whole left e same (inr stops) = inr (λ more. stops_as part (whole more) left (λ z is. same z is more) stops)

lacks_same : {R : Type 0} (part whole : (Place → Reads R) → Reads R) (left : Items) (e : Error) → ((more : Place → Reads R) → whole more ≡ part more) → Lacks part left e → Lacks whole left e
lacks_same part whole left e same (inl memory) = inl memory
lacks_same part whole left e same (inr stops) = inr (λ more. subst (λ o. StopsAt o left) (sym (same more)) (stops more))

module _ (l : Bool) (v : Values) (w : Room) (whole : Reads Attributes) where
  pub attributing_begins : (items : List (MapEntryOf Expression)) (now : Place) → items ≡ [] → whole ≡ attributes_of (reader_of v) w now → Attributing l v w whole items now
  attributing_begins items now none from = record {
    put = λ r. r;
    reads = from ∙ sym (bind_same (attributes_of (reader_of v) w now));
    shows = λ r. ap (λ xs. onto xs (attributes_output l r)) (sym none);
  }

  pub attributing_more : (items more : List (MapEntryOf Expression)) (x : MapEntryOf Expression) (p q : Place) → Attributing l v w whole items p → (put : Attributes → Attributes)
      → Adds (λ more. attribute_at more (reader_of v) w p (name_of p) (skip LeftBrace p)) put q
      → IsAttribute l x put → more ≡ items ++ (x ∷ []) → Attributing l v w whole more q
  attributing_more items more x p q so put adds shows is = record {
    put = λ r. so.put (put r);
    reads = so.reads ∙ ap (λ o. o >>= λ r. found (so.put r.0, r.1)) (attributes_step v w p ∙ adds (attributes_of (reader_of v) w))
        ∙ bind_assoc (attributes_of (reader_of v) w q) (λ r. found (put r.0, r.1)) (λ r. found (so.put r.0, r.1));
    shows = λ r. so.shows (put r) ∙ ap (onto items) (shows r) ∙ sym (onto_last items x (attributes_output l r)) ∙ ap (λ xs. onto xs (attributes_output l r)) (sym is);
  }

  pub attributing_ends : (items : List (MapEntryOf Expression)) (p q : Place) → Attributing l v w whole items p
      → ((more : Place → Reads Attributes) → attribute_at more (reader_of v) w p (name_of p) (skip LeftBrace p) ≡ found (no_attributes, q))
      → (r : Attributes) × (whole ≡ found (r, q)) × (entries_view items ≡ attributes_output l r)
  attributing_ends items p q so none = (
    so.put no_attributes,
    so.reads ∙ ap (λ o. o >>= λ r. found (so.put r.0, r.1)) (attributes_step v w p ∙ none (attributes_of (reader_of v) w)),
    onto_nothing items ∙ sym (so.shows no_attributes),
  )

  pub attributing_fails : (items : List (MapEntryOf Expression)) (p : Place) (left : Items) (e : Error) → Attributing l v w whole items p
      → Lacks (λ more. attribute_at more (reader_of v) w p (name_of p) (skip LeftBrace p)) left e → Fails whole left e
  attributing_fails items p left e so (inl memory) = inl memory
  attributing_fails items p left e so (inr stops) =
      inr (stops_as (attribute_at (attributes_of (reader_of v) w) (reader_of v) w p (name_of p) (skip LeftBrace p)) whole left
      (λ z none. so.reads ∙ ap (λ o. o >>= λ r. found (so.put r.0, r.1)) (attributes_step v w p ∙ none)) (stops (attributes_of (reader_of v) w)))

-- a string, and none
quote_found : (k : ℕ) (ts us : Items) (x : Quote × Span) → taken_quote ts ≡ found (x, us) → quote_at (at k ts) ≡ found (x, at k us)
unfolding quote_at
quote_found k ts us x h = rw h refl

no_quote : (k : ℕ) (ts z : Items) → taken_quote ts ≡ stopped z → quote_at (at k ts) ≡ stopped z
unfolding quote_at
no_quote k ts z h = rw h refl

brace_no_quote : (b : Span) (ts us : Items) → takes LeftBrace ts ≡ found (b, us) → taken_quote ts ≡ stopped ts
brace_no_quote b ts us h = let is = takes_ok LeftBrace ts (b, us) h in ap taken_quote is ∙ ap stopped (sym is)

pub brace_at : (old mid new : Position) → mid ≡ old → takes LeftBrace mid.left ≡ found (new.span, new.left) → takes LeftBrace old.left ≡ found (new.span, new.left)
brace_at old mid new stayed brace = subst (λ (q : Position). takes LeftBrace q.left ≡ found (new.span, new.left)) stayed brace

-- a value in front of its brace
module _ (f : Reader) (w : Room) (k : ℕ) where
  pub braced_given : (ts us vs : Items) (j : ℕ) (t : Tree) (c : Span) → f w 0 (at k ts) ≡ found (t, at j us) → takes RightBrace us ≡ found (c, vs)
      → braced_of f w (at k ts) ≡ found ((t, c), at j vs)
  braced_given ts us vs j t c read closed = rw (read, skipped RightBrace j us vs c closed) refl

  pub braced_fails : (ts left : Items) (e : Error) → Fails (f w 0 (at k ts)) left e → Fails (braced_of f w (at k ts)) left e
  braced_fails ts left e h = failed (f w 0 (at k ts)) _ left e h

  pub braced_unclosed : (ts us : Items) (j : ℕ) (t : Tree) (left : Items) (e : Error) → f w 0 (at k ts) ≡ found (t, at j us) → Fails (takes RightBrace us) left e
      → Fails (braced_of f w (at k ts)) left e
  braced_unclosed ts us j t left e read h = failed_past (f w 0 (at k ts)) _ (t, at j us) left e read
      (failed (skip RightBrace (at j us)) _ left e (failed_as (takes RightBrace us) (skip RightBrace (at j us)) left e (unskipped RightBrace j us) h))

  abbrev closed_with : Tree → Reads Span → Reads (Tree × Span)
  closed_with t o = o >>= λ c. found ((t, c.0), c.1)

  abbrev closing : Reads Tree → Reads (Tree × Span)
  closing o = o >>= λ e. closed_with e.0 (skip RightBrace e.1)

  closed_bind : {B : Type 0} (t : Tree) (o : Reads Span) (g : Tree → Span → Place → Read B)
      → (o >>= λ c. g t c.0 c.1) ≡ (closed_with t o >>= λ x. g x.0.0 x.0.1 x.1)
  closed_bind t (stopped z) g = refl
  closed_bind t (found c) g = refl

  read_bind : {B : Type 0} (o : Reads Tree) (g : Tree → Span → Place → Read B)
      → (o >>= λ e. skip RightBrace e.1 >>= λ c. g e.0 c.0 c.1) ≡ (closing o >>= λ x. g x.0.0 x.0.1 x.1)
  read_bind (stopped z) g = refl
  read_bind (found e) g = closed_bind e.0 (skip RightBrace e.1) g

  braced_bind : {B : Type 0} (p : Place) (g : Tree → Span → Place → Read B)
      → (f w 0 p >>= λ e. skip RightBrace e.1 >>= λ c. g e.0 c.0 c.1) ≡ (braced_of f w p >>= λ x. g x.0.0 x.0.1 x.1)
  braced_bind p g = read_bind (f w 0 p) g

  -- what is read of a value, of an attribute after its name, and of an attribute, whatever is read of those after it
  abbrev value_in : Name → Span → Items → (Place → Reads Attributes) → Reads Attributes
  value_in n s ts more = value_at more f w n s (at k ts) (quote_at (at k ts))

  abbrev named_in : Name → Items → (Place → Reads Attributes) → Reads Attributes
  named_in n ts more = named_at more f w n (at k ts) (skip Assign (at k ts))

  abbrev attribute_in : Items → (Place → Reads Attributes) → Reads Attributes
  attribute_in ts more = attribute_at more f w (at k ts) (name_of (at k ts)) (skip LeftBrace (at k ts))

  abbrev with_value : Name → Span → Span → Reads (Tree × Span) → (Place → Reads Attributes) → Reads Attributes
  with_value n s b o more = o >>= λ x. more x.1 >>= λ r. found (valued n s b x.0.0 x.0.1 r.0, r.1)

  abbrev with_spread : Span → Span → Reads (Tree × Span) → (Place → Reads Attributes) → Reads Attributes
  with_spread b s o more = o >>= λ x. more x.1 >>= λ r. found (spreading b s x.0.0 x.0.1 r.0, r.1)

  -- the value of an attribute
  value_whole : (n : Name) (s b : Span) (ts us : Items) → takes LeftBrace ts ≡ found (b, us) → (more : Place → Reads Attributes)
      → value_in n s ts more ≡ with_value n s b (braced_of f w (at k us)) more
  value_whole n s b ts us brace more =
      rw (no_quote k ts ts (brace_no_quote b ts us brace), skipped LeftBrace k ts us b brace)
      (braced_bind (at k us) (λ e c q. more q >>= λ r. found (valued n s b e c r.0, r.1)))

  pub value_braced : (l : Bool) (b : Span) (ts us : Items) (r : Result Expression Error) (q : Place) → takes LeftBrace ts ≡ found (b, us)
      → GivesAt (IsBraced l) r q (braced_of f w (at k us)) → ValueGives l r q f w (at k ts)
  value_braced l b ts us (Ok e) q brace (t, read, shows) = (
    λ n s. valued n s b t.0 t.1,
    λ n s more. value_whole n s b ts us brace more ∙ ap (λ o. with_value n s b o more) read,
    λ n s r. ap (λ x. tree.Entry (TextKey n.text) x (attributes_output l r)) (sym shows),
  )
  value_braced l b ts us (Err e) q brace h =
      λ n s. lacks_as (braced_of f w (at k us)) (value_in n s ts) q.tokens e (λ z none more. value_whole n s b ts us brace more ∙ ap (λ o. with_value n s b o more) none) h

  pub value_quoted : (l : Bool) (ts : Items) (r : Result Expression Error) (new : Position) → takes LeftBrace ts ≡ stopped ts → GivesQuote r new (taken_quote ts)
      → ValueGives l r (at k new.left) f w (at k ts)
  value_quoted l ts (Ok e) new brace (x, read, shows) = (
    λ n s. quoted n s x new.span,
    λ n s more. rw (quote_found k ts new.left (x, new.span) read) refl,
    λ n s r. ap (λ y. tree.Entry (TextKey n.text) y (attributes_output l r)) (sym shows),
  )
  value_quoted l ts (Err e) new brace h =
      λ n s. lacks_as (taken_quote ts) (value_in n s ts) new.left e (λ z none more. rw (no_quote k ts z none, unskipped LeftBrace k ts ts brace) (ap stopped (sym (first_stays _ ts z none)))) h

  -- an attribute after its name
  bare_adds : (n : Name) (ts : Items) → takes Assign ts ≡ stopped ts → Adds (named_in n ts) (bare n) (at k ts)
  bare_adds n ts none = λ more. rw (unskipped Assign k ts ts none) refl

  pub bare_gives : (l : Bool) (name : List ℕ) (old new : Position) (key : Key) (e : Expression) → takes Assign old.left ≡ stopped old.left → new ≡ old
      → key_view key ≡ TextKey name → expression_view e ≡ tree.Var name new.span
      → AttributeGives l (Ok (entries.KeyValue key e)) (at k new.left) (named_in (name_in name old.span) old.left)
  bare_gives l name old new key e none stayed is shows = (
    bare (name_in name old.span),
    subst (λ (q : Position). Adds (named_in (name_in name old.span) old.left) (bare (name_in name old.span)) (at k q.left)) (sym stayed) (bare_adds (name_in name old.span) old.left none),
    λ r. ap₂ (λ a b. tree.Entry a b (attributes_output l r)) (sym is) (sym (shows ∙ ap (λ (q : Position). tree.Var name q.span) stayed)),
  )

  assigned : (n : Name) (s : Span) (ts us : Items) → takes Assign ts ≡ found (s, us) → (more : Place → Reads Attributes) → named_in n ts more ≡ value_in n s us more
  assigned n s ts us is more = rw (skipped Assign k ts us s is) refl

  pub assigned_lacks : (n : Name) (s : Span) (ts us left : Items) (e : Error) → takes Assign ts ≡ found (s, us) → Lacks (value_in n s us) left e → Lacks (named_in n ts) left e
  assigned_lacks n s ts us left e is h = lacks_same (value_in n s us) (named_in n ts) left e (assigned n s ts us is) h

  pub assigned_gives : (l : Bool) (n : Name) (s : Span) (ts us : Items) (key : Key) (e : Expression) (q : Place) → takes Assign ts ≡ found (s, us) → key_view key ≡ TextKey n.text
      → ValueGives l (Ok e) q f w (at k us) → AttributeGives l (Ok (entries.KeyValue key e)) q (named_in n ts)
  assigned_gives l n s ts us key e q is named_so (put, adds, shows) = (
    put n s,
    λ more. assigned n s ts us is more ∙ adds n s more,
    λ r. shows n s r ∙ ap (λ x. tree.Entry x (expression_view e) (attributes_output l r)) (sym named_so),
  )

  -- an attribute
  named_whole : (n : Name) (ts us : Items) → taken_name ts ≡ found (n, us) → (more : Place → Reads Attributes) → attribute_in ts more ≡ named_in n us more
  named_whole n ts us is more = rw (named k ts us n is) refl

  pub named_gives : (l : Bool) (n : Name) (ts us : Items) (x : MapEntryOf Expression) (p q : Place) → taken_name ts ≡ found (n, us) → AttributeGives l (Ok x) q (named_in n us)
      → MaybeAttribute l (Some x) p q (attribute_in ts)
  named_gives l n ts us x p q is (put, adds, shows) = (put, λ more. named_whole n ts us is more ∙ adds more, shows)

  pub named_lacks : (n : Name) (ts us left : Items) (e : Error) → taken_name ts ≡ found (n, us) → Lacks (named_in n us) left e → Lacks (attribute_in ts) left e
  named_lacks n ts us left e is h = lacks_same (named_in n us) (attribute_in ts) left e (named_whole n ts us is) h

  no_attribute : (ts : Items) → taken_name ts ≡ stopped ts → takes LeftBrace ts ≡ stopped ts → (more : Place → Reads Attributes) → attribute_in ts more ≡ found (no_attributes, at k ts)
  no_attribute ts none closed more = rw (unnamed k ts ts none, unskipped LeftBrace k ts ts closed) refl

  pub nothing_gives : (l : Bool) (old mid new : Position) → taken_name old.left ≡ stopped old.left → mid ≡ old → takes LeftBrace mid.left ≡ stopped mid.left → new ≡ mid
      → MaybeAttribute l None (at k old.left) (at k new.left) (attribute_in old.left)
  nothing_gives l old mid new none stayed closed stayed_too =
      let same = stayed_too ∙ stayed in
      subst (λ (q : Position). MaybeAttribute l None (at k old.left) (at k q.left) (attribute_in old.left)) (sym same)
      (no_attribute old.left none (subst (λ (q : Position). takes LeftBrace q.left ≡ stopped q.left) stayed closed), refl)

  spread_whole : (b s : Span) (ts us vs : Items) → taken_name ts ≡ stopped ts → takes LeftBrace ts ≡ found (b, us) → takes Spread us ≡ found (s, vs) → (more : Place → Reads Attributes)
      → attribute_in ts more ≡ with_spread b s (braced_of f w (at k vs)) more
  spread_whole b s ts us vs none brace spreads more =
      rw (unnamed k ts ts none, skipped LeftBrace k ts us b brace, skipped Spread k us vs s spreads)
      (braced_bind (at k vs) (λ e c q. more q >>= λ r. found (spreading b s e c r.0, r.1)))

  spread_adds : (b s : Span) (ts us vs : Items) (t : Tree × Span) (q : Place) → taken_name ts ≡ stopped ts → takes LeftBrace ts ≡ found (b, us) → takes Spread us ≡ found (s, vs)
      → braced_of f w (at k vs) ≡ found (t, q) → Adds (attribute_in ts) (spreading b s t.0 t.1) q
  spread_adds b s ts us vs t q none brace spreads read = λ more. spread_whole b s ts us vs none brace spreads more ∙ ap (λ o. with_spread b s o more) read

  pub spread_gives : (l : Bool) (b s : Span) (ts us vs : Items) (e : Expression) (p q : Place) → taken_name ts ≡ stopped ts → takes LeftBrace ts ≡ found (b, us) → takes Spread us ≡ found (s, vs)
      → GivesAt (IsBraced l) (Ok e) q (braced_of f w (at k vs)) → MaybeAttribute l (Some (entries.Spread e)) p q (attribute_in ts)
  spread_gives l b s ts us vs e p q none brace spreads (t, read, shows) = (
    spreading b s t.0 t.1,
    spread_adds b s ts us vs t q none brace spreads read,
    λ r. ap (λ x. tree.SpreadEntry x (attributes_output l r)) (sym shows),
  )

  pub spread_lacks : (b s : Span) (ts us vs left : Items) (e : Error) → taken_name ts ≡ stopped ts → takes LeftBrace ts ≡ found (b, us) → takes Spread us ≡ found (s, vs)
      → Fails (braced_of f w (at k vs)) left e → Lacks (attribute_in ts) left e
  spread_lacks b s ts us vs left e none brace spreads h =
      lacks_as (braced_of f w (at k vs)) (attribute_in ts) left e (λ z is more. spread_whole b s ts us vs none brace spreads more ∙ ap (λ o. with_spread b s o more) is) h

  pub spread_missing : (b : Span) (ts us left : Items) (e : Error) → taken_name ts ≡ stopped ts → takes LeftBrace ts ≡ found (b, us) → Fails (takes Spread us) left e → Lacks (attribute_in ts) left e
  spread_missing b ts us left e none brace h =
      lacks_as (takes Spread us) (attribute_in ts) left e (λ z is more. rw (unnamed k ts ts none, skipped LeftBrace k ts us b brace, unskipped Spread k us z is) refl) h
