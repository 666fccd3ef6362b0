-- Names that are kept, each with where it is.
use Rattle.std.specs.Prelude.{ℕ, List}
use Rattle.std.specs.List.{All}
use Rattle.std.specs.Borrow.{Bor}
use Rattle.tera_base.specs.declared.utils.Span.{Span}
use Rattle.tera_lexer.specs.grammar.Tokens.{Items}
use Rattle.tera_expect.specs.Notes.{Came}
use Rattle.tera_expect.specs.Taking.{name_in}

-- each of the names came among the tokens, before these are left
abbrev pub AreKept : List (Bor (List ℕ) × Span) → Items → Items → Type 0
AreKept names left items = All (λ p. Came (name_in p.0.now p.1) left items) names
