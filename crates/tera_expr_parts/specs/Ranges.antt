-- Faults over several tokens.
use Rattle.std.specs.Prelude.{◌⊎◌, ◌≤◌}
use Rattle.tera_base.specs.declared.utils.Span.{Span}
use Rattle.tera_lexer.specs.code.Cursors.{Position}
use Rattle.tera_lexer.specs.grammar.Faults.{BeginsWith, EndsWith}
use Rattle.tera_lexer.specs.grammar.Place.{IsWithin}

-- a span of the source from a token on, up to where that ends or the token taken last, whichever is further
abbrev pub RunsFrom : Span → Position → Span → Type 0
RunsFrom first now span =
    IsWithin now.source span × BeginsWith first span × (EndsWith first span ⊎ EndsWith now.span span) × (now.span.range.end ≤ span.range.end)
