-- Reading bodies.
use Rattle.std.proofs.Common.{◌≡◌, ℕ, Bool, true, false, ap}
use Rattle.tera_grammar.specs.Reads.{stopped}
use Rattle.tera_grammar.specs.statements.Expressions.{Limits}
use Rattle.tera_grammar.specs.statements.Grammar.{Path}
use Rattle.tera_grammar.specs.statements.Reading.{Place, body}

-- no body may open
pub no_depth : (n : ℕ) (l : Limits) (path : Path) (p : Place) → n ≡ 0 → body n l path p ≡ stopped p.tokens
unfolding body
no_depth n l path p h = ap (λ m. body m l path p) h

-- what is true is not false
pub not_both : {A : Type 0} (b : Bool) → b ≡ true → b ≡ false → A
not_both b h k = cc
