-- Blocks, as they are read.
use Rattle.std.specs.Prelude.{◌≡◌, ℕ, not, List}
use Rattle.std.specs.Borrow.{Bor}
use Rattle.tera_base.specs.declared.utils.Span.{Span}
use Rattle.tera_lexer.specs.grammar.Tokens.{Items}
use Rattle.tera_grammar.specs.Reads.{found, ◌>>=◌, holds, Takes}
use Rattle.tera_grammar.specs.expressions.Reading.Front.{taken_name}
use Rattle.tera_grammar.specs.statements.TagParts.{Name}
use Rattle.tera_grammar.specs.statements.Reading.Meeting.{Met}

-- a name that was not met
abbrev pub new_block_of : Met → Items → Takes Name
new_block_of seen items = taken_name items >>= λ n. holds n.1 (not (seen n.0.text)) >>= λ u. found n

-- a name, with its span
abbrev pub IsName : Bor (List ℕ) × Span → Name → Type 0
IsName s n = (s.0.now ≡ n.text) × (s.1 ≡ n.span)
