-- How the program ends after an exchange.
use Rattle.std.proofs.Common.{◌≡◌, Bool, Option, None, Some, List, ℕ, refl}
use Rattle.tera_lexer.specs.grammar.Marks.{Marks}
use Rattle.tera_exchange.specs.Serving.{AreFit, AreSet}

-- markers that are set are fit
pub set_fit : (words : Option (List ℕ)) (set : Option (Option Marks)) → AreSet words set → (others : Option Marks) × AreFit words others
set_fit None set none = (None, (refl, tt))
set_fit (Some text) None never = absurd never
set_fit (Some text) (Some others) fit = (others, fit)
