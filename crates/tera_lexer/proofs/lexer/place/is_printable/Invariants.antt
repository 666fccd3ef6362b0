use Rattle.std.proofs.Common.{◌<◌, ◌≤◌, ℕ, get_or}
use Rattle.tera_lexer.proofs.lexer.place.is_printable.Given as goal

-- each byte that was passed is one
abbrev pub invariant-loop-b : goal.invariant-loop-b
invariant-loop-b l = (k : ℕ) → k < l.b-index → (32 ≤ get_or l.bytes k 0) × (get_or l.bytes k 0 < 128)
