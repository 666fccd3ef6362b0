-- Reading the parameters of components.
use Rattle.std.proofs.Common.{rules, ◌≡◌, ◌⊎◌, ℕ, ℤ, pos, ◌-ℤ◌, neg_ℤ, to_z, of_z, w64, Global, String, string_bytes, arith, Bool, true, false, codes, List, inl, inr, Option, Some, None, Result, Ok, Err, refl, sym, ap, subst, ◌∙◌}
use Rattle.std.specs.Option.{is_some}
use Rattle.std.specs.Prelude.{IfErr, IfOk}
use Rattle.tera_base.specs.Errors.{IsMemory}
use Rattle.std.proofs.lemmas.Int.{ints}
use Rattle.tera_base.specs.Values as values
use Rattle.tera_base.specs.Values.{Val}
use Rattle.tera_base.specs.ValueView.{value_view}
use Rattle.tera_base.specs.declared.errors.Error.{Error}
use Rattle.tera_base.specs.declared.utils.Span.{Span}
use Rattle.tera_base.specs.declared.values.Value as code
use Rattle.tera_base.specs.declared.values.Value.{Value, the_lemmas}
use Rattle.tera_lexer.specs.code.Cursors.{Position}
use Rattle.tera_lexer.specs.code.Seen.{seen}
use Rattle.tera_lexer.specs.declared.lexer.tokens.Token.{Token as Lexed}
use Rattle.tera_lexer.specs.declared.lexer.tokens.Token.TheVariants as lexed
use Rattle.tera_lexer.specs.grammar.Lexed.{IsCount}
use Rattle.tera_lexer.specs.grammar.Tokens as toks
use Rattle.tera_lexer.specs.grammar.Tokens.{Tok, Items, Token}
use Rattle.tera_tree.specs.Tree.{Argument}
use Rattle.tera_tree.specs.declared.ast.ArgType.{ArgType}
use Rattle.tera_grammar.specs.Reads.{Read, found, stopped, ◌>>=◌, holds, given, first_as, Takes, Fails}
use Rattle.tera_grammar.specs.Words.{is_none}
use Rattle.tera_grammar.specs.expressions.Concrete.{Lit}
use Rattle.tera_grammar.specs.expressions.Marks.{Mark, mark, mark_token, Assign, At, Colon, Comma, LeftBrace, LeftBracket, Operation, RightParen, Spread}
use Rattle.tera_grammar.specs.expressions.Operators.{Minus}
use Rattle.tera_grammar.specs.expressions.Reading.Front.{begins, literal_of, same_token, takes, taken_name}
use Rattle.tera_grammar.proofs.stops.Fronts.{bound, found_same, takes_ok}
use Rattle.tera_grammar.specs.statements.Components.{Annotation, Assigned, Default, LiteralDefault, MinusDefault, NothingDefault, ArrayDefault, MapDefault, Parameter, Parameters, Closed, Rest, Final, argument_of, is_body, is_known, type_of_argument}
use Rattle.tera_grammar.specs.statements.Components as components
use Rattle.tera_grammar.specs.statements.Expressions.{Limits}
use Rattle.tera_grammar.specs.statements.Reading.Expressions.{array_of, map_of}
use Rattle.tera_grammar.specs.statements.TagParts.{Name}
use Rattle.tera_grammar.specs.statements.Reading.Meeting.{Located, Met, locate, meet, met}
use Rattle.tera_grammar.specs.statements.Reading.Components.{annotation_in, assigned_in, at_in, default_at, default_by, default_of, fresh_name, minus_kind, parameter, parameter_after, parameter_of, parameters_at, parameters_after, parameters_in, parameters_of}
use Rattle.tera_grammar.specs.statements.Reading.Loops.{Listing}
use Rattle.tera_grammar.specs.statements.Types.{Sorted, put_name, type_named}
use Rattle.tera_grammar.proofs.statements.Loops.{listing_on}
use Rattle.tera_tags.specs.Parameters.{IsDefault, argument_as, has_default, taken_rest, typed, type_written}
use Rattle.tera_tags.specs.Reading.{IsArray, IsMap}
use Rattle.tera_expect.specs.Taking.{Eats, GivesBy, GoesOn}
use Rattle.tera_expect.proofs.TakingLemmas.{stays, took_goes}
use Rattle.tera_expect.proofs.Steps.{failed}

-- a token that was taken where it was, or was not
pub eaten_goes : (b : Bool) (old new : Position) (read : Takes Span) → Eats b old new read → GoesOn old new
eaten_goes true old new read h = took_goes old new h.1
eaten_goes false old new read h = subst (λ p. GoesOn old p) (sym h.1) (stays old)

pub at_read : (b : Bool) (old new : Position) → Eats b old new (takes At old.left) → (at : Option Span) × (is_some at ≡ b) × (at_in old.left (takes At old.left) ≡ (at, new.left))
at_read true old new h = (Some new.span, refl, ap (at_in old.left) h.0)
at_read false old new h = (None, refl, ap (at_in old.left) h.0 ∙ ap (λ (p : Position). (None, p.left)) (sym h.1))

-- whether a token is a word for no value
abbrev pub none_word : Tok → Bool
none_word (toks.Ident text) = is_none text
none_word t = false

pub at_after : (l : Limits) (seen : Met) (ts us : Items) (at : Option Span) → at_in ts (takes At ts) ≡ (at, us) → parameter_of l seen ts ≡ parameter_after l seen at us
at_after l seen ts us at h = ap (λ (y : Option Span × Items). parameter_after l seen y.0 y.1) h

-- defaults that are one token, or begin with a minus
module _ (l : Limits) (ts us : Items) (s : Span) where
  pub literal_default : (t : Tok) (x : Lit) → literal_of t ≡ Some x → ts ≡ Token t s us → default_of l ts ≡ found (LiteralDefault x s, us)
  unfolding default_of default_at
  literal_default (toks.Integer n) x h is = ap (default_of l) is ∙ ap (λ o. given us o >>= λ y. found (LiteralDefault y s, us)) h
  literal_default (toks.Str text) x h is = ap (default_of l) is ∙ ap (λ o. given us o >>= λ y. found (LiteralDefault y s, us)) h
  literal_default (toks.Escaped text) x h is = ap (default_of l) is ∙ ap (λ o. given us o >>= λ y. found (LiteralDefault y s, us)) h
  literal_default (toks.Truth b) x h is = ap (default_of l) is ∙ ap (λ o. given us o >>= λ y. found (LiteralDefault y s, us)) h
  literal_default _ x h is = cc

  pub nothing_default : (text : List ℕ) → is_none text ≡ true → ts ≡ Token (toks.Ident text) s us → default_of l ts ≡ found (NothingDefault (record { text = text; span = s }), us)
  unfolding default_of default_at
  nothing_default text none is = ap (default_of l) is ∙ rw none refl

  pub no_word : (text : List ℕ) → is_none text ≡ false → ts ≡ Token (toks.Ident text) s us → default_of l ts ≡ stopped us
  unfolding default_of default_at
  no_word text other is = ap (default_of l) is ∙ rw other refl

  pub minus_default : ts ≡ Token (toks.Symbol (codes "-")) s us → default_of l ts ≡ first_as (minus_kind s) us
  unfolding default_of default_at default_by
  minus_default is = ap (default_of l) is

  -- anything else is none
  none_at : (t : Tok) → literal_of t ≡ None → none_word t ≡ false → same_token t (mark_token (Operation Minus)) ≡ false → same_token t (mark_token LeftBracket) ≡ false
      → same_token t (mark_token LeftBrace) ≡ false → default_at l t s us ≡ stopped us
  unfolding default_at default_by
  none_at (toks.Ident text) plain word minus bracket brace = rw word refl
  none_at (toks.Symbol op) plain word minus bracket brace = rw (minus, bracket, brace) refl
  none_at (toks.Integer n) plain word minus bracket brace = cc
  none_at (toks.Str text) plain word minus bracket brace = cc
  none_at (toks.Escaped text) plain word minus bracket brace = cc
  none_at (toks.Truth b) plain word minus bracket brace = cc
  none_at _ plain word minus bracket brace = refl

  pub other_default : (t : Tok) → literal_of t ≡ None → none_word t ≡ false → same_token t (mark_token (Operation Minus)) ≡ false → begins LeftBracket ts ≡ false → begins LeftBrace ts ≡ false
      → ts ≡ Token t s us → default_of l ts ≡ stopped us
  unfolding default_of
  other_default t plain word minus bracket brace is =
      ap (default_of l) is ∙ none_at t plain word minus (sym (ap (begins LeftBracket) is) ∙ bracket) (sym (ap (begins LeftBrace) is) ∙ brace)

-- what defaults stand for
pub view_number : (n : ℤ) → value_view (code.I64 n) ≡ values.I64 n
view_number n = search (rules, the_lemmas)

pub view_truth : (b : Bool) → value_view (code.Bool b) ≡ values.Truth b
view_truth b = search (rules, the_lemmas)

pub view_text : (s : String Global) → value_view (code.String s) ≡ values.Text (string_bytes s)
view_text s = search (rules, the_lemmas)

-- a number of a source, and the same below zero
pub counted_fits : (n : ℤ) → IsCount n → to_z w64 (of_z w64 n) ≡ n
counted_fits n (k, is, small) = rw is (omega (arith, ints))

pub negated_fits : (n : ℤ) → IsCount n → to_z w64 (of_z w64 (pos 0 -ℤ to_z w64 (of_z w64 n))) ≡ neg_ℤ n
negated_fits n (k, is, small) = rw (counted_fits n (k, is, small), is) (omega (arith, ints))

pub word_default : (l : Limits) (ts us : Items) (s : Span) (text : List ℕ) → ts ≡ Token (toks.Ident text) s us → (r : Result Value Error)
    → IfOk r (λ v. (is_none text ≡ true) × (value_view v ≡ values.Nothing)) → IfErr r (λ e. IsMemory e ⊎ (is_none text ≡ false)) → GivesBy IsDefault r us (default_of l ts)
word_default l ts us s text is (Ok v) h k = (NothingDefault (record { text = text; span = s }), nothing_default l ts us s text h.0 is, h.1)
word_default l ts us s text is (Err e) h (inl memory) = inl memory
word_default l ts us s text is (Err e) h (inr none) = inr (inl (no_word l ts us s text none is))

pub negative_default : (minus s : Span) (ts us : Items) (n : ℤ) → ts ≡ Token (toks.Integer n) s us → first_as (minus_kind minus) ts ≡ found (MinusDefault minus n s, us)
negative_default minus s ts us n is = ap (first_as (minus_kind minus)) is

-- a token after a minus that is not a number, which was taken
no_integer : (minus s : Span) (t : Lexed) → ((n : ℤ) → t ≡ lexed.Integer n → ⊥) → minus_kind minus (seen t) s ≡ None
no_integer minus s (lexed.Integer n) none = absurd (none n refl)
no_integer minus s _ none = refl

pub integer_refused : (minus : Span) (old left : Items) (t : Lexed) (s : Span) (e : Error) → ((n : ℤ) → t ≡ lexed.Integer n → ⊥) → old ≡ Token (seen t) s left
    → Fails (first_as (minus_kind minus) old) left e
integer_refused minus old left t s e none is =
    inr (inr (inl (seen t, s, ap (first_as (minus_kind minus)) is ∙ ap (λ o. given (Token (seen t) s left) o >>= λ x. found (x, left)) (no_integer minus s t none))))

-- and those that are constants
begun : (m : Mark) (ts : Items) → begins m ts ≡ true → (span : Span) × (items : Items) × (ts ≡ mark m span items)
begun m (Token t s us) h = (s, us, takes_ok m (Token t s us) (s, us) (rw h refl))
begun m _ h = cc

begun_array : (l : Limits) (ts : Items) → begins LeftBracket ts ≡ true → default_of l ts ≡ (array_of l ts >>= λ a. found (ArrayDefault a.0, a.1))
unfolding default_of default_at default_by array_of
begun_array l ts h = let (span, items, is) = begun LeftBracket ts h in subst (λ v. default_of l v ≡ (array_of l v >>= λ a. found (ArrayDefault a.0, a.1))) (sym is) refl

begun_map : (l : Limits) (ts : Items) → begins LeftBrace ts ≡ true → default_of l ts ≡ (map_of l ts >>= λ m. found (MapDefault m.0, m.1))
unfolding default_of default_at default_by map_of
begun_map l ts h = let (span, items, is) = begun LeftBrace ts h in subst (λ v. default_of l v ≡ (map_of l v >>= λ m. found (MapDefault m.0, m.1))) (sym is) refl

pub array_default : (l : Limits) (ts q : Items) (r : Result Value Error) → begins LeftBracket ts ≡ true → GivesBy IsArray r q (array_of l ts) → GivesBy IsDefault r q (default_of l ts)
array_default l ts q (Ok v) there (a, read, is) = (ArrayDefault a, begun_array l ts there ∙ ap (λ o. o >>= λ x. found (ArrayDefault x.0, x.1)) read, is)
array_default l ts q (Err e) there h = rw (begun_array l ts there) (failed (array_of l ts) (λ a. found (ArrayDefault a.0, a.1)) q e h)

pub map_default : (l : Limits) (ts q : Items) (r : Result Value Error) → begins LeftBrace ts ≡ true → GivesBy IsMap r q (map_of l ts) → GivesBy IsDefault r q (default_of l ts)
map_default l ts q (Ok v) there (m, read, is) = (MapDefault m, begun_map l ts there ∙ ap (λ o. o >>= λ x. found (MapDefault x.0, x.1)) read, is)
map_default l ts q (Err e) there h = rw (begun_map l ts there) (failed (map_of l ts) (λ m. found (MapDefault m.0, m.1)) q e h)

-- names
module _ (seen : Met) (ts us : Items) (n : Name) (named : taken_name ts ≡ found (n, us)) where
  module _ (other : is_body n.text ≡ false) where
    pub named_again : seen n.text ≡ true → fresh_name seen ts ≡ stopped us
    named_again h = rw (named, other, h) refl

    pub fresh_given : seen n.text ≡ false → fresh_name seen ts ≡ found (n, us)
    fresh_given h = rw (named, other, h) refl

-- a type that is written is one
pub annotation_given : (ts us vs : Items) (colon : Span) (n : Name) (t : ArgType) → taken_name us ≡ found (n, vs) → type_named n.text ≡ Some t
    → annotation_in ts (found (colon, us)) ≡ found (Some (record { colon = colon; name = n }), vs)
unfolding annotation_in
annotation_given ts us vs colon n t named is = rw (named, is) refl

pub no_type_name : (ts us : Items) (colon : Span) → (z : Items) → taken_name us ≡ stopped z → annotation_in ts (found (colon, us)) ≡ stopped z
unfolding annotation_in
no_type_name ts us colon z h = rw h refl

pub no_such_type : (ts us vs : Items) (colon : Span) (n : Name) → taken_name us ≡ found (n, vs) → type_named n.text ≡ None → annotation_in ts (found (colon, us)) ≡ stopped vs
unfolding annotation_in
no_such_type ts us vs colon n named none = rw (named, none) refl

-- the name that a token is
abbrev pub name_of_token : Tok → Option (List ℕ)
name_of_token (toks.Ident text) = Some text
name_of_token t = None

pub no_name_taken : (ts us : Items) (s : Span) (t : Tok) → ts ≡ Token t s us → name_of_token t ≡ None → taken_name ts ≡ stopped ts
no_name_taken ts us s t is other = ap taken_name is ∙ by t other ∙ ap stopped (sym is)
  where
    by : (t : Tok) → name_of_token t ≡ None → taken_name (Token t s us) ≡ stopped (Token t s us)
    by (toks.Ident text) h = cc
    by _ h = refl

-- a default, where a sign is before it
module _ (l : Limits) (ts us : Items) (sign : Span) where
  pub no_default : (z : Items) → default_of l us ≡ stopped z → assigned_in l ts (found (sign, us)) ≡ stopped z
  unfolding assigned_in
  no_default z h = rw h refl

  pub default_given : (d : components.Default) (vs : Items) → default_of l us ≡ found (d, vs) → assigned_in l ts (found (sign, us)) ≡ found (Some (record { sign = sign; value = d }), vs)
  unfolding assigned_in
  default_given d vs h = rw h refl

-- the type of an argument, and its default
pub typed_is : (a : Option Annotation) (v : Option Val) → (t : Option ArgType) → t ≡ type_written a → (is_known : components.is_known a ≡ true) → typed t v ≡ type_of_argument a v
typed_is None None t h k = ap (λ u. typed u None) h
typed_is None (Some v) t h k = ap (λ u. typed u (Some v)) h
typed_is (Some a) v t h k = ap (λ u. typed u v) h ∙ known_typed (type_named a.name.text) k
  where
    known_typed : (o : Option ArgType) → is_some o ≡ true → typed o v ≡ o
    known_typed (Some t) k = refl
    known_typed None k = cc

-- the parts of a parameter
module _ (l : Limits) (seen : Met) (at : Option Span) (ts : Items) where
  pub no_fresh_name : (z : Items) → fresh_name seen ts ≡ stopped z → parameter_after l seen at ts ≡ stopped z
  unfolding parameter_after
  no_fresh_name z h = rw h refl

  module _ (n : Name) (us : Items) (named : fresh_name seen ts ≡ found (n, us)) where
    pub no_annotation : (z : Items) → annotation_in us (takes Colon us) ≡ stopped z → parameter_after l seen at ts ≡ stopped z
    unfolding parameter_after
    no_annotation z h = rw (named, h) refl

    module _ (t : Option Annotation) (vs : Items) (annotated : annotation_in us (takes Colon us) ≡ found (t, vs)) where
      pub no_assigned : (z : Items) → assigned_in l vs (takes Assign vs) ≡ stopped z → parameter_after l seen at ts ≡ stopped z
      unfolding parameter_after
      no_assigned z h = rw (named, annotated, h) refl

      module _ (d : Option Assigned) (ws : Items) (assigned : assigned_in l vs (takes Assign vs) ≡ found (d, ws)) where
        pub mistyped : has_default (argument_of (parameter at n t d)) ≡ false → parameter_after l seen at ts ≡ stopped ws
        unfolding parameter_after
        mistyped h = rw (named, annotated, assigned, h) refl

        pub parameter_given : has_default (argument_of (parameter at n t d)) ≡ true → parameter_after l seen at ts ≡ found (parameter at n t d, ws)
        unfolding parameter_after
        parameter_given h = rw (named, annotated, assigned, h) refl

kept : (z : Items) (b : Bool) (u : Unit {0}) → holds z b ≡ found u → b ≡ true
kept z true u h = refl
kept z false u h = cc

pub annotation_known : (ts : Items) (o : Takes Span) (x : Option Annotation × Items) → annotation_in ts o ≡ found x → components.is_known x.0 ≡ true
unfolding annotation_in
annotation_known ts (stopped z) x h = subst (λ (y : Option Annotation × Items). components.is_known y.0 ≡ true) (found_same (None, ts) x h) refl
annotation_known ts (found colon) x h =
    bound (taken_name colon.1) _ x h (λ (n : Name × Items) read more.
    bound (holds n.1 (is_known (Some (record { colon = colon.0; name = n.0 })))) _ x more (λ u known made.
    subst (λ (y : Option Annotation × Items). components.is_known y.0 ≡ true) (found_same (Some (record { colon = colon.0; name = n.0 }), n.1) x made) (kept n.1 _ u known)))

-- what a parameter says of its argument
pub argument_is : (at : Option Span) (n : Name) (t : Option Annotation) (d : Option Assigned) (typ : Option ArgType) (v : Option Val) (implicit : Bool)
    → is_some at ≡ implicit → typ ≡ type_written t → is_known t ≡ true → v ≡ components.default_of d → argument_as typ v implicit ≡ argument_of (parameter at n t d)
argument_is at n t d typ v implicit same written known value = λ i. record {
  default = value i;
  typ = (typed_is t v typ written known ∙ ap (type_of_argument t) value) i;
  implicit = sym same i;
}

-- what the parameters go on with
abbrev pub next_parameters : Limits → Met → Items → Takes Parameters
next_parameters l seen ts = parameters_in (parameters_of l) l seen ts (takes RightParen ts)

-- the name of the rest parameter with the closing parenthesis, by itself and as the end of all
abbrev end_of_rest : Name → Span × Items → Takes Name
end_of_rest n end = found (n, end.1)

abbrev end_of_all : Span → Name → Span × Items → Takes Parameters
end_of_all dots n end = found (Rest dots n end.0, end.1)

abbrev after_rest : Name × Items → Takes Name
after_rest n = takes RightParen n.1 >>= end_of_rest n.0

abbrev after_all : Span → Name × Items → Takes Parameters
after_all dots n = takes RightParen n.1 >>= end_of_all dots n.0

no_end_by : (e : Takes Span) (dots : Span) (n : Name) → (z : Items) → (e >>= end_of_rest n) ≡ stopped z → (e >>= end_of_all dots n) ≡ stopped z
no_end_by (stopped y) dots n z h = let e : y ≡ z = cc in ap stopped e
no_end_by (found end) dots n z h = cc

no_rest_by : (o : Takes Name) (dots : Span) → (z : Items) → (o >>= after_rest) ≡ stopped z → (o >>= after_all dots) ≡ stopped z
no_rest_by (stopped y) dots z h = let e : y ≡ z = cc in ap stopped e
no_rest_by (found n) dots z h = no_end_by (takes RightParen n.1) dots n.0 z h

end_by : (e : Takes Span) (dots : Span) (m n : Name) (us : Items) → (e >>= end_of_rest m) ≡ found (n, us) → (end : Span) × ((e >>= end_of_all dots m) ≡ found (Rest dots n end, us))
end_by (stopped y) dots m n us h = cc
end_by (found end) dots m n us h = (end.0, ap (λ (x : Name × Items). found (Rest dots x.0 end.0, x.1)) (found_same (m, end.1) (n, us) h))

rest_by : (o : Takes Name) (dots : Span) (n : Name) (us : Items) → (o >>= after_rest) ≡ found (n, us) → (end : Span) × ((o >>= after_all dots) ≡ found (Rest dots n end, us))
rest_by (stopped y) dots n us h = cc
rest_by (found m) dots n us h = end_by (takes RightParen m.1) dots m.0 n us h

module _ (l : Limits) (seen : Met) (ts : Items) where
  pub closed_there : (end : Span) (us : Items) → takes RightParen ts ≡ found (end, us) → next_parameters l seen ts ≡ found (Closed end, us)
  unfolding parameters_in
  closed_there end us h = ap (parameters_in (parameters_of l) l seen ts) h

  module _ (y : Items) (no_end : takes RightParen ts ≡ stopped y) where
    module _ (dots : Span) (us : Items) (there : takes Spread ts ≡ found (dots, us)) where
      rest_is : next_parameters l seen ts ≡ (fresh_name seen us >>= after_all dots)
      unfolding parameters_in parameters_at
      rest_is = ap (parameters_in (parameters_of l) l seen ts) no_end ∙ ap (parameters_at (parameters_of l) l seen ts) there

      pub no_rest : (z : Items) → taken_rest seen us ≡ stopped z → next_parameters l seen ts ≡ stopped z
      no_rest z h = rest_is ∙ no_rest_by (fresh_name seen us) dots z h

      pub rest_given : (n : Name) (vs : Items) → taken_rest seen us ≡ found (n, vs) → (end : Span) × (next_parameters l seen ts ≡ found (Rest dots n end, vs))
      rest_given n vs h = let (end, read) = rest_by (fresh_name seen us) dots n vs h in (end, rest_is ∙ read)

    module _ (x : Items) (no_dots : takes Spread ts ≡ stopped x) where
      another : next_parameters l seen ts ≡ (parameter_of l seen ts >>= λ p. parameters_after (parameters_of l) seen p.0 p.1 (takes RightParen p.1))
      unfolding parameters_in parameters_at
      another = ap (parameters_in (parameters_of l) l seen ts) no_end ∙ ap (parameters_at (parameters_of l) l seen ts) no_dots

      pub no_parameter : (z : Items) → parameter_of l seen ts ≡ stopped z → next_parameters l seen ts ≡ stopped z
      no_parameter z h = another ∙ ap (λ o. o >>= λ p. parameters_after (parameters_of l) seen p.0 p.1 (takes RightParen p.1)) h

      module _ (p : Parameter) (us : Items) (read : parameter_of l seen ts ≡ found (p, us)) where
        after_it : next_parameters l seen ts ≡ parameters_after (parameters_of l) seen p us (takes RightParen us)
        after_it = another ∙ ap (λ o. o >>= λ q. parameters_after (parameters_of l) seen q.0 q.1 (takes RightParen q.1)) read

        pub last_given : (end : Span) (vs : Items) → takes RightParen us ≡ found (end, vs) → next_parameters l seen ts ≡ found (Final p end, vs)
        unfolding parameters_after
        last_given end vs h = after_it ∙ ap (parameters_after (parameters_of l) seen p us) h

        pub no_comma : (v : Items) → takes RightParen us ≡ stopped v → (z : Items) → takes Comma us ≡ stopped z → next_parameters l seen ts ≡ stopped z
        unfolding parameters_after
        no_comma v none z h = after_it ∙ ap (parameters_after (parameters_of l) seen p us) none ∙ ap (λ o. o >>= λ c. parameters_of l (meet p.name.text seen) c.1 >>= λ ps. found (components.More p c.0 ps.0, ps.1)) h

-- one parameter more
pub listing_more : (l : Limits) (start here : Items) (seen more : Located) (gathered grown : Sorted Argument) → Listing l start here seen gathered
    → (x : Items) → takes RightParen here ≡ stopped x → (y : Items) → takes Spread here ≡ stopped y → (p : Parameter) (us : Items) → parameter_of l (met seen) here ≡ found (p, us)
    → (z : Items) → takes RightParen us ≡ stopped z → (comma : Span) (vs : Items) → takes Comma us ≡ found (comma, vs)
    → more ≡ locate p.name seen → grown ≡ put_name p.name.text (argument_of p) gathered → Listing l start vs more grown
listing_more l start here seen more gathered grown g x no_end y no_dots p us read z no_last comma vs represents named put =
    subst (λ s. Listing l start vs s grown) (sym named) (subst (λ a. Listing l start vs (locate p.name seen) a) (sym put)
    (listing_on l start here seen gathered g x no_end y no_dots (p, us) read z no_last (comma, vs) represents))

-- where a token was not taken, the same is there
pub same_place : {A : Type 0} (read : Items → Read A) (old new : Position) (r : Read A) → new ≡ old → read new.left ≡ r → read old.left ≡ r
same_place read old new r same h = ap (λ (p : Position). read p.left) (sym same) ∙ h
