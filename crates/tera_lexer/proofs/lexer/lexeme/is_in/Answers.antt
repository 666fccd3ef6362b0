-- The table is held against the definition at each of the 256 bytes, by computing.
use Rattle.std.proofs.Common.{ℕ, Bool, not, nat_eq, get_or, refl, arith}
use Rattle.std.proofs.lemmas.Bool.{agree_below_at}
use Rattle.tera_lexer.specs.declared.lexer.lexeme.TheConstants.{NAMES}
use Rattle.tera_lexer.specs.grammar.Lexeme.{goes_on_name}
use Rattle.tera_lexer.proofs.lexer.lexeme.is_in.Goals as goal

abbrev is_listed : ℕ → Bool
is_listed b = not (nat_eq (get_or NAMES b 0) 44)

pub returns-in-Name : goal.returns-in-Name
returns-in-Name c = rw (c.in-Name.is, c.from.ensures) (agree_below_at is_listed goes_on_name 256 c.args.b refl (omega arith))
