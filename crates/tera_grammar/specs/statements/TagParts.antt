-- The tags by what they begin with, as the reading distinguishes them.
use Rattle.std.specs.Prelude.{Bool, codes}
use Rattle.tera_lexer.specs.grammar.Tokens.{Tok, Items, Ident, Symbol}
use Rattle.tera_grammar.specs.statements.Tags.{start_with, set_word}
pub use Rattle.tera_grammar.specs.statements.Tags.{Name, name_yield, Edge, Tag, start_yield, finish_yield, finish, if_any}

-- what a tag begins with, where it opens a statement: `set` and `set_global`; the other words; `<`
pub data Opener : Type 0 where
  OpensSet : Bool → Opener
  OpensInclude : Opener
  OpensExtends : Opener
  OpensBlock : Opener
  OpensFor : Opener
  OpensIf : Opener
  OpensFilter : Opener
  OpensComponent : Opener
  OpensBreak : Opener
  OpensContinue : Opener
  OpensCall : Opener

-- what it begins with, where a body ends before it
pub data Closer : Type 0 where
  AtElif : Closer
  AtElse : Closer
  AtEndSet : Closer
  AtEndBlock : Closer
  AtEndFor : Closer
  AtEndIf : Closer
  AtEndFilter : Closer
  AtEndComponent : Closer
  AtEndCall : Closer

abbrev pub opener_token : Opener → Tok
opener_token (OpensSet global) = Ident (set_word global)
opener_token OpensInclude = Ident (codes "include")
opener_token OpensExtends = Ident (codes "extends")
opener_token OpensBlock = Ident (codes "block")
opener_token OpensFor = Ident (codes "for")
opener_token OpensIf = Ident (codes "if")
opener_token OpensFilter = Ident (codes "filter")
opener_token OpensComponent = Ident (codes "component")
opener_token OpensBreak = Ident (codes "break")
opener_token OpensContinue = Ident (codes "continue")
opener_token OpensCall = Symbol (codes "<")

abbrev pub closer_token : Closer → Tok
closer_token AtElif = Ident (codes "elif")
closer_token AtElse = Ident (codes "else")
closer_token AtEndSet = Ident (codes "endset")
closer_token AtEndBlock = Ident (codes "endblock")
closer_token AtEndFor = Ident (codes "endfor")
closer_token AtEndIf = Ident (codes "endif")
closer_token AtEndFilter = Ident (codes "endfilter")
closer_token AtEndComponent = Ident (codes "endcomponent")
closer_token AtEndCall = Symbol (codes "</")

-- the start of a tag, with its first token
abbrev pub opening : Opener → Tag → Items → Items
opening o t items = start_with (opener_token o) t items

abbrev pub closing : Closer → Tag → Items → Items
closing c t items = start_with (closer_token c) t items
