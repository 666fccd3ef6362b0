-- What the notes of a fault say.
use Rattle.std.specs.Prelude.{◌≡◌, ◌⊎◌, ℕ, List, codes}
use Rattle.std.specs.List.{AllByRecursion}
use Rattle.tera_base.specs.ErrorView.{ErrorVal, Reporting, ReportOf, NoteVal, NoteOf, error_view}
use Rattle.tera_base.specs.declared.errors.Error.{Error}
use Rattle.tera_base.specs.declared.utils.Span.{Span}
use Rattle.tera_lexer.specs.grammar.Tokens.{Items, Ended, Failed, Token}
use Rattle.tera_grammar.specs.expressions.Concrete.{Name}
use Rattle.tera_grammar.specs.statements.Expressions.{ComponentName, component_yield}
use Rattle.tera_grammar.specs.statements.Places.{placed_name}

-- something holds of each note of a fault, with the span of that
abbrev pub EachNote : (Span → NoteVal → Type 0) → ErrorVal → Type 0
EachNote P (Reporting (ReportOf text span notes)) = AllByRecursion (P span) notes
EachNote P v = Unit {0}

-- these tokens are the others, or are left after some of them
abbrev pub AreLeft : Items → Items → Type 0
AreLeft left Ended = left ≡ Ended
AreLeft left (Failed text span) = left ≡ Failed text span
AreLeft left (Token t span items) = (left ≡ Token t span items) ⊎ AreLeft left items

-- A name comes among the tokens, and these are left after it. One with dots is at the place of its last part.
abbrev pub Comes : Name → Items → Items → Type 0
Comes name left items = (n : ComponentName) × (placed_name n ≡ name) × AreLeft (component_yield n left) items

-- a name came among the tokens, before these are left
abbrev pub Came : Name → Items → Items → Type 0
Came name left items = (mid : Items) × Comes name mid items × AreLeft left mid

-- a name comes at the first place, and later again at the second
abbrev pub Repeats : Items → Span → Span → Type 0
Repeats items first span =
    (text : List ℕ) × (mid left : Items) × Comes (record { text = text; span = first }) mid items × Comes (record { text = text; span = span }) left mid

-- a note on where a name is defined first is at that name, and the same name comes later, where the fault is
abbrev pub IsFirst : Items → Span → NoteVal → Type 0
IsFirst items span (NoteOf label file first) = label ≡ codes "first defined here" → Repeats items first span

-- each note of an error on where a name is defined first is at that name
abbrev pub AreFirst : Items → Error → Type 0
AreFirst items e = EachNote (IsFirst items) (error_view e)
