-- What a refusal of a source says.
use Rattle.std.specs.Prelude.{ℕ, List}
use Rattle.tera_base.specs.Errors.{ReportsBy}
use Rattle.tera_base.specs.declared.errors.Error.{Error}
use Rattle.tera_lexer.specs.grammar.Marks.{Marks}
use Rattle.tera_lexer.specs.grammar.Place.{IsWithin}
use Rattle.tera_lexer.specs.grammar.Tokens.{Items, AreTokensOf}
use Rattle.tera_lexer.specs.grammar.Faults.{Faults}
use Rattle.tera_grammar.specs.Limits.{Limits}
use Rattle.tera_grammar.specs.statements.Lost.{AreLost}

-- an allocation failure, or a syntax error in the source: its lexical fault, or a fault that covers tokens of it
abbrev pub Refuses : Marks → List ℕ → Error → Type 0
Refuses m source e = ReportsBy (λ text span. IsWithin source span × ((items : Items) × AreTokensOf m source items × Faults items text span)) e

-- The source is lost where the error is reported: whatever tokens agree with its own up to the end of the range and one
-- step further, they are those of no template within the limits.
abbrev pub LosesSource : Limits → Marks → List ℕ → Error → Type 0
LosesSource l m source e = ReportsBy (λ text span. (items : Items) → AreTokensOf m source items → AreLost l span.range.end items) e
