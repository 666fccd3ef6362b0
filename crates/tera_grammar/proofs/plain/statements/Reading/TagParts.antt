-- Reading the parts of tags.
use Rattle.std.specs.Prelude.{Option, Some, None}
use Rattle.tera_base.specs.declared.utils.Span.{Span}
use Rattle.tera_lexer.specs.grammar.Tokens.{Tok, Items, Token, Finish}
use Rattle.tera_lexer.specs.declared.lexer.delimiters.Kind.TheVariants as kind
use Rattle.tera_grammar.specs.Options.{◌>>=◌, guard}
use Rattle.tera_grammar.specs.statements.TagParts.{Edge, Name, Tag, Closer, closer_token}
use Rattle.tera_grammar.specs.expressions.Reading.Front.{same_token}
use Rattle.tera_grammar.proofs.plain.expressions.Reading.Front.{taken_name, Takes}
use Rattle.tera_grammar.specs.statements.Reading.TagParts.{Front, Closes, front, tag}

-- a name, where one is there
abbrev pub name_if_found : Items → Option (Name × Items) → Option Name × Items
name_if_found items None = (None, items)
name_if_found items (Some n) = (Some n.0, n.1)

abbrev pub name_if_any : Items → Option Name × Items
name_if_any items = name_if_found items (taken_name items)

-- the end of a tag, and of a variable tag
abbrev pub finish_at : Tok → Span → Items → Takes Edge
finish_at (Finish kind.Block dash) span items = Some (record { dash = dash; span = span }, items)
finish_at t span items = None

abbrev pub finish_of : Items → Takes Edge
finish_of (Token t span items) = finish_at t span items
finish_of items = None

abbrev pub variable_end_at : Tok → Span → Items → Takes Edge
variable_end_at (Finish kind.Variable dash) span items = Some (record { dash = dash; span = span }, items)
variable_end_at t span items = None

abbrev pub variable_end_of : Items → Takes Edge
variable_end_of (Token t span items) = variable_end_at t span items
variable_end_of items = None

-- the start of a tag, with this closing token
abbrev pub closed_at : Closer → Front → Takes (Edge × Span)
closed_at c (Closes x start span items) = guard (same_token (closer_token x) (closer_token c)) >>= λ u. Some ((start, span), items)
closed_at c front = None

abbrev pub closed : Closer → Items → Takes (Edge × Span)
closed c items = closed_at c (front items)

-- a tag that holds this closing token alone
abbrev pub closed_tag : Closer → Items → Takes Tag
closed_tag c items = closed c items >>= λ x. finish_of x.1 >>= λ f. Some (tag x.0.0 x.0.1 f.0, f.1)
