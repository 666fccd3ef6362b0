-- What tokens begin with.
use Rattle.std.specs.Prelude.{ℕ, cond, Option, Some, None}
use Rattle.tera_base.specs.declared.utils.Span.{Span}
use Rattle.tera_lexer.specs.grammar.Tokens.{Tok, Items, Token, Ident}
use Rattle.tera_grammar.specs.expressions.Operators.{In}
use Rattle.tera_grammar.specs.expressions.Marks.{Mark, mark_token, LeftBracket, Bar, Not, Is, If, Operation}
use Rattle.tera_grammar.specs.expressions.Concrete.{Name, Quote, Lit, Single, NotIn}
use Rattle.tera_grammar.specs.Options.{◌>>=◌}
use Rattle.tera_grammar.specs.expressions.Reading.Front.{Place, at, same_token, among, lowered, literal_of, quote_of, Lead, leads_binary, leads_condition, Ending, ends_test, ends_filter, ends_subscript, front_marks}

-- what is read, and the place after it
abbrev pub Reads : Type 0 → Type 0
Reads A = Option (A × Place)

-- what the tokens begin with, and the tokens after it
abbrev pub Takes : Type 0 → Type 0
Takes A = Option (A × Items)

abbrev pub takes : Mark → Items → Takes Span
takes m (Token t s us) = cond (same_token t (mark_token m)) (Some (s, us)) None
takes m _ = None

abbrev pub moved : {A : Type 0} → ℕ → Takes A → Reads A
moved k None = None
moved k (Some x) = Some (x.0, at k x.1)

-- a mark that has to be there
unfoldable pub skip : Mark → Place → Reads Span
skip m p = moved p.links (takes m p.tokens)

-- one link more, where one may still come
unfoldable pub bump : Place → Option Place
bump p = lowered p.links >>= λ k. Some (at k p.tokens)

-- a name
abbrev pub taken_name : Items → Takes Name
taken_name (Token (Ident w) s us) = Some (record { text = w; span = s }, us)
taken_name _ = None

unfoldable pub name_of : Place → Reads Name
name_of p = moved p.links (taken_name p.tokens)

-- what the first token is, with its span
abbrev pub taken_as : {A : Type 0} → (Tok → Option A) → Items → Takes (A × Span)
taken_as kind (Token t s us) = kind t >>= λ x. Some ((x, s), us)
taken_as kind _ = None

abbrev pub taken_quote : Items → Takes (Quote × Span)
taken_quote items = taken_as quote_of items

unfoldable pub literal_at : Place → Reads (Lit × Span)
literal_at p = moved p.links (taken_as literal_of p.tokens)

unfoldable pub quote_at : Place → Reads (Quote × Span)
quote_at p = moved p.links (taken_quote p.tokens)

-- what the tokens after an operand begin with; a `not` that is not a `not in` is misplaced
pub data Front : Type 0 where
  nothing : Front
  joins : Lead → Items → Front
  closes : Ending → Items → Front
  misplaced : Front

abbrev pub front_not : Span → Option (Span × Items) → Front
front_not s None = misplaced
front_not s (Some x) = joins (leads_binary (NotIn s x.0)) x.1

abbrev pub marked_front : Mark → Span → Items → Front
marked_front (Operation o) s us = joins (leads_binary (Single o s)) us
marked_front Not s us = front_not s (takes (Operation In) us)
marked_front Is s us = closes (ends_test s) us
marked_front If s us = joins (leads_condition s) us
marked_front Bar s us = closes (ends_filter s) us
marked_front LeftBracket s us = closes (ends_subscript s) us
marked_front _ s us = nothing

unfoldable pub front_of_token : Tok → Span → Items → Front
front_of_token t s us = marked_front (among front_marks t) s us

abbrev pub front : Items → Front
front (Token t s us) = front_of_token t s us
front _ = nothing
