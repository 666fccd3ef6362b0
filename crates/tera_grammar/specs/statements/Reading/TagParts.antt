-- Reading the parts of tags.
use Rattle.std.specs.Prelude.{ℕ, true, false, if◌then◌else◌, List, [], ◌∷◌, Option, Some, None, cond}
use Rattle.tera_base.specs.declared.utils.Span.{Span}
use Rattle.tera_lexer.specs.grammar.Tokens.{Tok, Items, Ended, Failed, Token, Content, Start, Finish}
use Rattle.tera_lexer.specs.declared.lexer.delimiters.Kind.TheVariants as kind
use Rattle.tera_grammar.specs.statements.TagParts.{Edge, Name, Tag, Opener, OpensSet, OpensInclude, OpensExtends, OpensBlock, OpensFor, OpensIf, OpensFilter, OpensComponent, OpensBreak, OpensContinue, OpensCall, opener_token, Closer, AtElif, AtElse, AtEndSet, AtEndBlock, AtEndFor, AtEndIf, AtEndFilter, AtEndComponent, AtEndCall, closer_token}
use Rattle.tera_grammar.specs.expressions.Reading.Front.{same_token, taken_name}
use Rattle.tera_grammar.specs.Reads.{found, stopped, ◌>>=◌, Takes, first_as}

abbrev pub openers : List Opener
openers =
    OpensSet false ∷ OpensSet true ∷ OpensInclude ∷ OpensExtends ∷ OpensBlock ∷ OpensFor ∷ OpensIf ∷ OpensFilter
    ∷ OpensComponent ∷ OpensBreak ∷ OpensContinue ∷ OpensCall ∷ []

abbrev pub closers : List Closer
closers = AtElif ∷ AtElse ∷ AtEndSet ∷ AtEndBlock ∷ AtEndFor ∷ AtEndIf ∷ AtEndFilter ∷ AtEndComponent ∷ AtEndCall ∷ []

abbrev pub opener_in : List Opener → Tok → Option Opener
opener_in [] t = None
opener_in (o ∷ os) t = if same_token t (opener_token o) then Some o else opener_in os t

abbrev pub closer_in : List Closer → Tok → Option Closer
closer_in [] t = None
closer_in (c ∷ cs) t = if same_token t (closer_token c) then Some c else closer_in cs t

-- what the first token of a tag does
pub data Role : Type 0 where
  Opening : Opener → Role
  Closing : Closer → Role
  Neither : Role

abbrev pub role_by : Option Opener → Option Closer → Role
role_by (Some o) c = Opening o
role_by None (Some c) = Closing c
role_by None None = Neither

abbrev pub role : Tok → Role
role t = role_by (opener_in openers t) (closer_in closers t)

-- What the tokens of a body begin with: nothing more; a tag that ends a body; a text; the start of a variable
-- tag; a tag that opens a statement; anything else.
pub data Front : Type 0 where
  Ends : Front
  Closes : Closer → Edge → Span → Items → Front
  Holds : List ℕ → Span → Items → Front
  Shows : Edge → Items → Front
  Opens : Opener → Edge → Span → Items → Front
  Wrong : Front

abbrev pub front_by : Role → Edge → Span → Items → Front
front_by (Opening o) start span items = Opens o start span items
front_by (Closing c) start span items = Closes c start span items
front_by Neither start span items = Wrong

abbrev pub front_tag : Edge → Items → Front
front_tag start (Token t span items) = front_by (role t) start span items
front_tag start items = Wrong

abbrev pub front_at : Tok → Span → Items → Front
front_at (Content text) span items = Holds text span items
front_at (Start kind.Variable dash) span items = Shows (record { dash = dash; span = span }) items
front_at (Start kind.Block dash) span items = front_tag (record { dash = dash; span = span }) items
front_at t span items = Wrong

abbrev pub front : Items → Front
front Ended = Ends
front (Failed text span) = Wrong
front (Token t span items) = front_at t span items

abbrev pub tag : Edge → Span → Edge → Tag
tag start first finish = record { start = start; first = first; finish = finish }

-- Where reading stops at tokens that begin nothing it knows: after the start of a tag, before the first token in it;
-- otherwise before the first of these tokens.
abbrev pub wrong_after : Tok → Span → Items → Items
wrong_after (Start kind.Block dash) s us = us
wrong_after t s us = Token t s us

abbrev pub wrong_at : Items → Items
wrong_at (Token t s us) = wrong_after t s us
wrong_at ts = ts

-- a name, where one is there
abbrev pub name_if_found : Items → Takes Name → Takes (Option Name)
name_if_found items (stopped z) = found (None, items)
name_if_found items (found n) = found (Some n.0, n.1)

abbrev pub name_if_any : Items → Takes (Option Name)
name_if_any items = name_if_found items (taken_name items)

-- the end of a tag, and of a variable tag
abbrev pub finish_kind : Tok → Span → Option Edge
finish_kind (Finish kind.Block dash) span = Some (record { dash = dash; span = span })
finish_kind t span = None

abbrev pub variable_end_kind : Tok → Span → Option Edge
variable_end_kind (Finish kind.Variable dash) span = Some (record { dash = dash; span = span })
variable_end_kind t span = None

abbrev pub finish_of : Items → Takes Edge
finish_of items = first_as finish_kind items

abbrev pub variable_end_of : Items → Takes Edge
variable_end_of items = first_as variable_end_kind items

-- the start of a tag, with this closing token
unfoldable pub closed_at : Closer → Items → Front → Takes (Edge × Span)
closed_at c ts (Closes x start span items) = cond (same_token (closer_token x) (closer_token c)) (found ((start, span), items)) (stopped (wrong_at ts))
closed_at c ts front = stopped (wrong_at ts)

abbrev pub closed : Closer → Items → Takes (Edge × Span)
closed c items = closed_at c items (front items)

-- a tag that holds this closing token alone
abbrev pub closed_tag : Closer → Items → Takes Tag
closed_tag c items = closed c items >>= λ x. finish_of x.1 >>= λ f. found (tag x.0.0 x.0.1 f.0, f.1)
