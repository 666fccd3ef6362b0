-- The keys of maps that are read.
use Rattle.std.specs.Prelude.{◌≡◌, Result, Ok, Err}
use Rattle.tera_base.specs.ValueView.{key_view}
use Rattle.tera_base.specs.declared.errors.Error.{Error}
use Rattle.tera_base.specs.declared.utils.Span.{Span}
use Rattle.tera_base.specs.declared.values.Key.{Key}
use Rattle.tera_lexer.specs.grammar.Tokens.{Items}
use Rattle.tera_grammar.specs.expressions.Concrete.{Lit}
use Rattle.tera_grammar.specs.expressions.Output.{key_of}
use Rattle.tera_grammar.specs.expressions.Reading.Front.{literal_kind}
use Rattle.tera_grammar.specs.Reads.{found, Takes, first_as, Fails}

-- the key of an entry is read
abbrev pub taken_literal : Items → Takes (Lit × Span)
taken_literal items = first_as literal_kind items

abbrev pub GivesKey : Result Key Error → Span → Items → Takes (Lit × Span) → Type 0
GivesKey (Ok k) here new read = (x : Lit) × (read ≡ found ((x, here), new)) × (key_view k ≡ key_of x)
GivesKey (Err e) here new read = Fails read new e
