-- What all tags have: their markers, and the token after the first one, which says what they do.
use Rattle.std.specs.Prelude.{ℕ, Bool, true, false, List, codes, Option, Some, None}
use Rattle.tera_base.specs.declared.utils.Span.{Span}
use Rattle.tera_lexer.specs.grammar.Tokens.{Tok, Items, Token, Start, Finish, Ident}
use Rattle.tera_lexer.specs.declared.lexer.delimiters.Kind.TheVariants as kind
pub use Rattle.tera_grammar.specs.expressions.Concrete.{Name, name_yield}

-- the marker at the start or the end of a tag: whether it has a dash, and where it is
pub record Edge : Type 0 where
  pub dash : Bool
  pub span : Span

-- a tag of a statement: its start, where its first token is, and its end
pub record Tag : Type 0 where
  pub start : Edge
  pub first : Span
  pub finish : Edge

-- the tokens of the parts, each in front of others
abbrev pub start_yield : Edge → Items → Items
start_yield e items = Token (Start kind.Block e.dash) e.span items

abbrev pub finish_yield : Edge → Items → Items
finish_yield e items = Token (Finish kind.Block e.dash) e.span items

-- the start of a tag, with its first token; and where that is a word
abbrev pub start_with : Tok → Tag → Items → Items
start_with t tag items = start_yield tag.start (Token t tag.first items)

abbrev pub keyword : List ℕ → Tag → Items → Items
keyword w t items = start_with (Ident w) t items

-- the word of a tag that sets a value, for the whole template or not
abbrev pub set_word : Bool → List ℕ
set_word false = codes "set"
set_word true = codes "set_global"

-- the end of a tag
abbrev pub finish : Tag → Items → Items
finish t items = finish_yield t.finish items

-- the tokens of a part, where there is one
abbrev pub if_any : {A : Type 0} → (A → Items → Items) → Option A → Items → Items
if_any part None items = items
if_any part (Some x) items = part x items
