-- The statements that take their body as a value, as they are read.
use Rattle.std.specs.Prelude.{◌≡◌, ℕ, Bool, List, Result}
use Rattle.tera_base.specs.declared.errors.Error.{Error}
use Rattle.tera_base.specs.declared.utils.Span.{Span}
use Rattle.tera_lexer.specs.code.Cursors.{Position}
use Rattle.tera_lexer.specs.grammar.Tokens.{Items}
use Rattle.tera_grammar.specs.expressions.Marks.{Bar}
use Rattle.tera_grammar.specs.expressions.Reading.Front.{takes}
use Rattle.tera_grammar.specs.statements.Expressions.{Limits, ComponentName}
use Rattle.tera_grammar.specs.statements.Grammar as grammar
use Rattle.tera_grammar.specs.statements.Grammar.{Path, in_loop}
use Rattle.tera_grammar.specs.statements.Reading.Meeting.{Seen}
use Rattle.tera_grammar.specs.statements.TagParts.{Edge, Name, Tag}
use Rattle.tera_grammar.specs.statements.Reading.{Place, Reader, at, body, set_after}
use Rattle.tera_grammar.specs.statements.Reading.TagParts.{finish_of}
use Rattle.tera_statements.specs.Adding.{GivesHere, IsAdded}
use Rattle.tera_statements.specs.Around.{Represents, context_of}
use Rattle.tera_grammar.specs.Reads.{found, stopped}
use Rattle.tera_statements.specs.declared.added.Added.{Added}
use Rattle.tera_statements.specs.declared.around.Around.{Around}
use Rattle.tera_statements.specs.declared.around.Context.{Context}

-- a variable of this name takes a value, after the equals sign at the span of the old place
abbrev pub GivesSetValue : Limits → Around → List ℕ → Bool → Result Added Error → Position → Position → Type 0
GivesSetValue l around name global r new old =
    (path : Path) → Represents path around → (self : Reader) (start : Edge) (first : Span) (seen : Seen) (n : Name) (items : Items) → n.text ≡ name
    → GivesHere (IsAdded (in_loop path)) r (at seen new.left) (set_after l self path global start first seen n items (found (old.span, old.left)))

-- likewise filters and a body, in a context that is a capture
abbrev pub GivesSetBody : Limits → ℕ → Around → Context → List ℕ → Bool → Result Added Error → Place → Place → Type 0
GivesSetBody l depth around context name global r new old =
    (path : Path) → Represents path around → context_of context ≡ grammar.InCapture → (start : Edge) (first : Span) (n : Name) → n.text ≡ name
    → GivesHere (IsAdded (in_loop path)) r new (set_after l (body depth l) path global start first old.seen n old.tokens (stopped old.tokens))

-- neither filters nor the end of a tag begin there
pub record IsNone (items : Items) : Type 0 where
  pub bar : takes Bar items ≡ stopped items
  pub finish : finish_of items ≡ stopped items

abbrev pub IsNoBody : Items → Error → Type 0
IsNoBody items e = IsNone items

-- where the closing tag of a call has its `>`
abbrev pub IsCallEnd : Span → Tag × ComponentName × Span → Type 0
IsCallEnd span e = span ≡ e.2
