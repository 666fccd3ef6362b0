-- Reading the tags of a component's definition.
use Rattle.std.proofs.Common.{◌≡◌, ◌+◌, ◌≤◌, ℕ, zero, suc, le_refl, arith, true, false, not, List, [], Option, Some, None, refl, ap, subst, ◌∙◌}
use Rattle.std.specs.Str.{bytes_eq}
use Rattle.tera_base.specs.Values.{Val}
use Rattle.tera_base.specs.declared.utils.Span.{Span}
use Rattle.tera_lexer.specs.code.Cursors.{Passes, Position, size}
use Rattle.tera_lexer.specs.grammar.Tokens.{Items, Ended, Failed, Token}
use Rattle.tera_ast.specs.Tree.{Stmt}
use Rattle.tera_tree.specs.Tree.{Argument, Definition}
use Rattle.tera_grammar.specs.Reads.{found, stopped, ◌>>=◌, holds, Takes}
use Rattle.tera_grammar.specs.expressions.Concrete.{Dotted, dots, dotted_yield, no_dots}
use Rattle.tera_grammar.specs.expressions.Marks.{LeftBrace, LeftParen}
use Rattle.tera_grammar.specs.expressions.Spans.{dotted_end}
use Rattle.tera_grammar.specs.expressions.Reading.Front.{begins, takes}
use Rattle.tera_grammar.specs.statements.Components.{Head, Parameters, component_texts, definition_of, metadata_output, put_arguments, rest_of}
use Rattle.tera_grammar.specs.statements.Expressions.{Limits, ComponentName, LiteralMap, component_span, component_text, component_yield}
use Rattle.tera_grammar.specs.statements.Reading.Expressions.{component_of, map_of}
use Rattle.tera_grammar.specs.statements.Names.{agrees}
use Rattle.tera_grammar.specs.statements.TagParts.{AtEndComponent, Edge}
use Rattle.tera_grammar.specs.statements.Reading.Components.{Opened, end_name_in, ending_of, head, is_name, metadata_in, opened_of, parameters_of}
use Rattle.tera_grammar.specs.statements.Reading.TagParts.{closed, finish_of}
use Rattle.tera_grammar.specs.statements.Reading.Meeting.{Grouped, Located, Met, group, locate, locate_all, nothing_located, nothing_met, ◌having◌}
use Rattle.tera_grammar.specs.statements.Places.{component_placed, parameters_placed, placed_name}
use Rattle.tera_grammar.specs.statements.Types.{Sorted}
use Rattle.tera_tags.specs.Components.{agreeing_name, new_component_of}
use Rattle.tera_expect.specs.Taking.{Took}
use Rattle.tera_expect.proofs.Steps.{kept_by}
use Rattle.tera_grammar.proofs.stops.Fronts.{bound, found_same}
use Rattle.tera_grammar.proofs.Readings.{path_found}

module _ (l : Limits) (seen : Met) (ts : Items) where
  abbrev after_name : ComponentName × Items → Takes Opened
  after_name n =
      takes LeftParen n.1 >>= λ paren. parameters_of l nothing_met paren.1 >>= λ ps. metadata_in l ps.1 (begins LeftBrace ps.1) >>= λ m. finish_of m.1 >>= λ f.
      found (record { name = n.0; paren = paren.0; parameters = ps.0; metadata = m.0; finish = f.0 }, f.1)

  opened_is : opened_of l seen ts ≡ (new_component_of seen ts >>= after_name)
  unfolding opened_of
  opened_is = kept_by (component_of ts) (λ (n : ComponentName × Items). n.1) (λ n. not (seen (component_text n.0))) after_name

  pub no_new_name : (z : Items) → new_component_of seen ts ≡ stopped z → opened_of l seen ts ≡ stopped z
  no_new_name z h = opened_is ∙ ap (λ o. o >>= after_name) h

  module _ (n : ComponentName) (us : Items) (named : new_component_of seen ts ≡ found (n, us)) where
    opened_after : opened_of l seen ts ≡ after_name (n, us)
    opened_after = opened_is ∙ ap (λ o. o >>= after_name) named

    pub no_paren : (z : Items) → takes LeftParen us ≡ stopped z → opened_of l seen ts ≡ stopped z
    no_paren z h = opened_after ∙ rw h refl

    module _ (paren : Span) (vs : Items) (there : takes LeftParen us ≡ found (paren, vs)) where
      pub no_parameters : (z : Items) → parameters_of l nothing_met vs ≡ stopped z → opened_of l seen ts ≡ stopped z
      no_parameters z h = opened_after ∙ rw (there, h) refl

      module _ (ps : Parameters) (ws : Items) (listed : parameters_of l nothing_met vs ≡ found (ps, ws)) where
        pub no_metadata : (z : Items) → metadata_in l ws (begins LeftBrace ws) ≡ stopped z → opened_of l seen ts ≡ stopped z
        no_metadata z h = opened_after ∙ rw (there, listed, h) refl

        module _ (m : Option LiteralMap) (xs : Items) (given : metadata_in l ws (begins LeftBrace ws) ≡ found (m, xs)) where
          pub head_unfinished : (z : Items) → finish_of xs ≡ stopped z → opened_of l seen ts ≡ stopped z
          head_unfinished z h = opened_after ∙ rw (there, listed, given, h) refl

          pub opened_given : (f : Edge) (ys : Items) → finish_of xs ≡ found (f, ys)
              → opened_of l seen ts ≡ found (record { name = n; paren = paren; parameters = ps; metadata = m; finish = f }, ys)
          opened_given f ys h = opened_after ∙ rw (there, listed, given, h) refl

-- the names with those of one component more
pub component_kept : (b c more : Located) (g grown : Grouped) (n : ComponentName) (ps : Parameters) → more ≡ locate (placed_name n) c
    → grown ≡ group (component_text n) (locate_all (parameters_placed ps) nothing_located) g
    → record { blocks = b; components = more; parameters = grown } ≡ (record { blocks = b; components = c; parameters = g } having component_placed n ps)
component_kept b c more g grown n ps named placed = λ i. record { blocks = b; components = named i; parameters = placed i }

-- the closing tag
module _ (start : Edge) (first : Span) (o : Opened) (ts : Items) where
  pub no_ending : (z : Items) → closed AtEndComponent ts ≡ stopped z → ending_of start first o ts ≡ stopped z
  unfolding ending_of
  no_ending z h = rw h refl

  module _ (x : Edge × Span) (us : Items) (there : closed AtEndComponent ts ≡ found (x, us)) where
    abbrev after_end : Option ComponentName × Items → Takes Head
    after_end n = finish_of n.1 >>= λ f. found (head start first o x.0 x.1 n.0 f.0, f.1)

    ending_is : ending_of start first o ts ≡ (agreeing_name (component_text o.name) us >>= after_end)
    unfolding ending_of
    ending_is = rw there (kept_by (end_name_in us (is_name us)) (λ (n : Option ComponentName × Items). n.1) (λ n. agrees (component_text o.name) (component_texts n.0)) after_end)

    pub other_name : (z : Items) → agreeing_name (component_text o.name) us ≡ stopped z → ending_of start first o ts ≡ stopped z
    other_name z h = ending_is ∙ ap (λ r. r >>= after_end) h

    pub ending_named : (n : Option ComponentName) (vs : Items) → agreeing_name (component_text o.name) us ≡ found (n, vs)
        → ending_of start first o ts ≡ (finish_of vs >>= λ f. found (head start first o x.0 x.1 n f.0, f.1))
    ending_named n vs h = ending_is ∙ ap (λ r. r >>= after_end) h

-- what is defined is what the opening tag says, and the body
abbrev pub opened_definition : Opened → List Stmt → Definition
opened_definition o body = record {
  name = component_text o.name;
  arguments = put_arguments o.parameters [];
  rest = rest_of o.parameters;
  metadata = metadata_output o.metadata;
  body = body;
}

pub ending_keeps : (start : Edge) (first : Span) (o : Opened) (ts us : Items) (h : Head) (body : List Stmt) → ending_of start first o ts ≡ found (h, us) → opened_definition o body ≡ definition_of h body
unfolding ending_of
ending_keeps start first o ts us h body read =
    bound (closed AtEndComponent ts) _ (h, us) read (λ (e : (Edge × Span) × Items) there rest1.
    bound (end_name_in e.1 (is_name e.1)) _ (h, us) rest1 (λ (n : Option ComponentName × Items) named rest2.
    bound (holds n.1 (agrees (component_text o.name) (component_texts n.0))) _ (h, us) rest2 (λ u agreed more.
    bound (finish_of n.1) _ (h, us) more (λ (f : Edge × Items) ended made.
    subst (λ (x : Head × Items). opened_definition o body ≡ definition_of x.0 body) (found_same (head start first o e.0.0 e.0.1 n.0 f.0, f.1) (h, us) made) refl))))

pub same_definition : (o : Opened) (name : List ℕ) (arguments : Sorted Argument) (rest : Option (List ℕ)) (metadata : Sorted Val) (nodes body : List Stmt)
    → name ≡ component_text o.name → arguments ≡ put_arguments o.parameters [] → rest ≡ rest_of o.parameters → metadata ≡ metadata_output o.metadata → nodes ≡ body
    → record { name = name; arguments = arguments; rest = rest; metadata = metadata; body = nodes } ≡ opened_definition o body
same_definition o name arguments rest metadata nodes body n a r m b = λ i. record { name = n i; arguments = a i; rest = r i; metadata = m i; body = b i }

-- the name at the end, where one is there
module _ (name : List ℕ) (ts us : Items) (m : ComponentName) (there : is_name ts ≡ true) (read : component_of ts ≡ found (m, us)) where
  pub end_agrees : bytes_eq (component_text m) name ≡ true → agreeing_name name ts ≡ found (Some m, us)
  unfolding end_name_in
  end_agrees h = rw (there, read, h) refl

  pub end_differs : bytes_eq (component_text m) name ≡ false → agreeing_name name ts ≡ stopped us
  unfolding end_name_in
  end_differs h = rw (there, read, h) refl

-- metadata, where a map is there
pub metadata_given : (l : Limits) (ts us : Items) (m : LiteralMap) → begins LeftBrace ts ≡ true → map_of l ts ≡ found (m, us) → metadata_in l ts (begins LeftBrace ts) ≡ found (Some m, us)
unfolding metadata_in
metadata_given l ts us m there read = ap (metadata_in l ts) there ∙ ap (λ o. o >>= λ n. found (Some n.0, n.1)) read

pub metadata_refused : (l : Limits) (ts : Items) → begins LeftBrace ts ≡ true → (z : Items) → map_of l ts ≡ stopped z → metadata_in l ts (begins LeftBrace ts) ≡ stopped z
unfolding metadata_in
metadata_refused l ts there z read = ap (metadata_in l ts) there ∙ ap (λ o. o >>= λ n. found (Some n.0, n.1)) read

pub no_metadata_there : (l : Limits) (ts : Items) → begins LeftBrace ts ≡ false → metadata_in l ts (begins LeftBrace ts) ≡ found (None, ts)
unfolding metadata_in
no_metadata_there l ts none = ap (metadata_in l ts) none

-- So many tokens were taken.
passes_size : (n : ℕ) (items : Items) (last : Span) (left : Items) (here : Span) → Passes n items last left here → size left + n ≡ size items
passes_size zero items last left here p = omega (arith, ap size p.0)
passes_size (suc n) Ended last left here p = absurd p
passes_size (suc n) (Failed text at) last left here p = absurd p
passes_size (suc n) (Token t at items) last left here p = omega (arith, passes_size n items at left here p)

dotted_size : (d : Dotted) (r : Items) → size r ≤ size (dotted_yield d r)
dotted_size no_dots r = le_refl _
dotted_size (dots s n ds) r = omega (arith, dotted_size ds r)

-- where the further names were taken, the token taken last is the last of them
dotted_ends : (k : ℕ) (d : Dotted) (last : Span) (r : Items) (here : Span) → Passes k (dotted_yield d r) last r here → here ≡ dotted_end last d
dotted_ends zero no_dots last r here p = p.1
dotted_ends (suc k) no_dots last r here p = absurd (omega (arith, passes_size (suc k) r last r here p))
dotted_ends zero (dots s n ds) last r here p = absurd (omega (arith, ap size p.0, dotted_size ds r))
dotted_ends (suc zero) (dots s n ds) last r here p = absurd (omega (arith, ap size p.0, dotted_size ds r))
dotted_ends (suc (suc k)) (dots s n ds) last r here p = dotted_ends k ds n.span r here p

name_ends : (k : ℕ) (n : ComponentName) (last : Span) (r : Items) (here : Span) → Passes k (component_yield n r) last r here → here ≡ component_span n
unfolding component_span
name_ends zero n last r here p = absurd (omega (arith, ap size p.0, dotted_size n.further r))
name_ends (suc k) n last r here p = dotted_ends k n.further n.name.span r here p

-- after the name of a component the token taken last is its last part
pub component_ends : (old new : Position) (n : ComponentName) → component_of old.left ≡ found (n, new.left) → Took old new → new.span ≡ component_span n
unfolding Took
component_ends old new n read took =
    name_ends took.0.count n old.span new.left new.span
    (subst (λ ts. Passes took.0.count ts old.span new.left new.span) (path_found old.left new.left n read) took.0.passes)
