-- What the readers of the parts of tags have taken.
use Rattle.std.proofs.Common.{◌≡◌, Bool, true, false, List, [], ◌∷◌, Option, Some, None, refl, ap, subst, ◌∙◌}
use Rattle.std.specs.Prelude.{if◌then◌else◌}
use Rattle.std.proofs.lemmas.Option.{same_Some}
use Rattle.tera_base.specs.declared.utils.Span.{Span}
use Rattle.tera_lexer.specs.grammar.Tokens.{Tok, Items, Ended, Failed, Token, Content, Start, Finish, Ident}
use Rattle.tera_lexer.specs.declared.lexer.delimiters.Kind.TheVariants as kind
use Rattle.tera_grammar.specs.expressions.Reading.Front.{same_token, quote_of}
use Rattle.tera_grammar.proofs.plain.expressions.Reading.Front.{taken_quote}
use Rattle.tera_grammar.specs.expressions.Concrete.{Quote, quote_token}
use Rattle.tera_grammar.specs.statements.TagParts.{Edge, Tag, Opener, opener_token, Closer, closer_token, start_yield, finish_yield, closing, finish, if_any, name_yield}
use Rattle.tera_grammar.specs.statements.Reading.TagParts.{openers, closers, opener_in, closer_in, role_by, Front, Ends, Closes, Holds, Shows, Opens, Wrong, front_by, front_tag, front, tag}
use Rattle.tera_grammar.proofs.plain.statements.Reading.TagParts.{name_if_any, finish_of, variable_end_of, closed_at, closed, closed_tag}
use Rattle.tera_grammar.proofs.expressions.Fronts.{same_token_is, taken_as_ok, quote_of_ok}
use Rattle.tera_grammar.proofs.Options.{bound, guard_ok}

pub name_if_any_sound : (ts : Items) → ts ≡ if_any name_yield (name_if_any ts).0 (name_if_any ts).1
name_if_any_sound (Token (Ident text) span items) = refl
name_if_any_sound _ = refl

pub quote_sound : (ts : Items) (x : (Quote × Span) × Items) → taken_quote ts ≡ Some x → ts ≡ Token (quote_token x.0.0) x.0.1 x.1
quote_sound ts x h = taken_as_ok quote_of quote_token quote_of_ok ts x h

pub finish_sound : (ts : Items) (x : Edge × Items) → finish_of ts ≡ Some x → ts ≡ finish_yield x.0 x.1
finish_sound (Token (Finish kind.Block dash) span items) x h = ap (λ (y : Edge × Items). finish_yield y.0 y.1) (same_Some _ _ h)
finish_sound _ x h = cc

abbrev pub variable_end_yield : Edge → Items → Items
variable_end_yield e items = Token (Finish kind.Variable e.dash) e.span items

pub variable_end_sound : (ts : Items) (x : Edge × Items) → variable_end_of ts ≡ Some x → ts ≡ variable_end_yield x.0 x.1
variable_end_sound (Token (Finish kind.Variable dash) span items) x h = ap (λ (y : Edge × Items). variable_end_yield y.0 y.1) (same_Some _ _ h)
variable_end_sound _ x h = cc

opener_in_ok : (os : List Opener) (t : Tok) (o : Opener) → opener_in os t ≡ Some o → t ≡ opener_token o
opener_in_ok [] t o h = cc
opener_in_ok (x ∷ os) t o h = goes (same_token t (opener_token x)) refl (opener_in_ok os t o) h
  where
    goes : (b : Bool) → same_token t (opener_token x) ≡ b → (opener_in os t ≡ Some o → t ≡ opener_token o) → (if b then Some x else opener_in os t) ≡ Some o → t ≡ opener_token o
    goes true is again h = same_token_is t (opener_token x) is ∙ ap opener_token (same_Some _ _ h)
    goes false is again h = again h

closer_in_ok : (cs : List Closer) (t : Tok) (c : Closer) → closer_in cs t ≡ Some c → t ≡ closer_token c
closer_in_ok [] t c h = cc
closer_in_ok (x ∷ cs) t c h = goes (same_token t (closer_token x)) refl (closer_in_ok cs t c) h
  where
    goes : (b : Bool) → same_token t (closer_token x) ≡ b → (closer_in cs t ≡ Some c → t ≡ closer_token c) → (if b then Some x else closer_in cs t) ≡ Some c → t ≡ closer_token c
    goes true is again h = same_token_is t (closer_token x) is ∙ ap closer_token (same_Some _ _ h)
    goes false is again h = again h

-- the tokens that a front stands for
abbrev pub FrontOf : Items → Front → Type 0
FrontOf ts Ends = ts ≡ Ended
FrontOf ts (Closes c start first us) = ts ≡ start_yield start (Token (closer_token c) first us)
FrontOf ts (Holds text span us) = ts ≡ Token (Content text) span us
FrontOf ts (Shows start us) = ts ≡ Token (Start kind.Variable start.dash) start.span us
FrontOf ts (Opens o start first us) = ts ≡ start_yield start (Token (opener_token o) first us)
FrontOf ts Wrong = Unit {0}

role_front : (start : Edge) (t : Tok) (first : Span) (us : Items) (o : Option Opener) → opener_in openers t ≡ o → (c : Option Closer) → closer_in closers t ≡ c →
    FrontOf (start_yield start (Token t first us)) (front_by (role_by o c) start first us)
role_front start t first us (Some o) is c also = ap (λ u. start_yield start (Token u first us)) (opener_in_ok openers t o is)
role_front start t first us None is (Some c) also = ap (λ u. start_yield start (Token u first us)) (closer_in_ok closers t c also)
role_front start t first us None is None also = tt

tag_front : (start : Edge) (us : Items) → FrontOf (start_yield start us) (front_tag start us)
tag_front start Ended = tt
tag_front start (Failed text span) = tt
tag_front start (Token t span us) = role_front start t span us (opener_in openers t) refl (closer_in closers t) refl

pub front_is : (ts : Items) → FrontOf ts (front ts)
front_is Ended = refl
front_is (Failed text span) = tt
front_is (Token (Content text) span us) = refl
front_is (Token (Start kind.Variable dash) span us) = refl
front_is (Token (Start kind.Block dash) span us) = tag_front (record { dash = dash; span = span }) us
front_is (Token t span us) = tt

closed_at_ok : (c : Closer) (ts : Items) (fr : Front) (x : (Edge × Span) × Items) → FrontOf ts fr → closed_at c fr ≡ Some x → ts ≡ start_yield x.0.0 (Token (closer_token c) x.0.1 x.1)
closed_at_ok c ts (Closes d start first us) x is h =
    bound _ _ _ h (λ u same made.
    subst (λ (y : (Edge × Span) × Items). ts ≡ start_yield y.0.0 (Token (closer_token c) y.0.1 y.1)) (same_Some ((start, first), us) x made)
    (is ∙ ap (λ t. start_yield start (Token t first us)) (same_token_is (closer_token d) (closer_token c) (guard_ok _ u same))))
closed_at_ok c ts _ x is h = cc

pub closed_sound : (c : Closer) (ts : Items) (x : (Edge × Span) × Items) → closed c ts ≡ Some x → ts ≡ start_yield x.0.0 (Token (closer_token c) x.0.1 x.1)
closed_sound c ts x h = closed_at_ok c ts (front ts) x (front_is ts) h

pub closed_tag_sound : (c : Closer) (ts : Items) (x : Tag × Items) → closed_tag c ts ≡ Some x → ts ≡ closing c x.0 (finish x.0 x.1)
closed_tag_sound c ts x h =
    bound _ _ _ h (λ y sound more. bound _ _ _ more (λ f ended made.
    subst (λ (z : Tag × Items). ts ≡ closing c z.0 (finish z.0 z.1)) (same_Some (tag y.0.0 y.0.1 f.0, f.1) x made)
    (closed_sound c ts y sound ∙ ap (λ v. start_yield y.0.0 (Token (closer_token c) y.0.1 v)) (finish_sound y.1 f ended))))
