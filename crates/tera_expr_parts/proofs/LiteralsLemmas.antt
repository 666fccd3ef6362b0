-- Numbers of a source.
use Rattle.std.proofs.Common.{ℤ, zero, suc, w64, pos, negsuc}
use Rattle.std.proofs.lemmas.Int.{fits_signed_from_abs}
use Rattle.tera_lexer.specs.grammar.Lexed.{IsCount}
use Rattle.tera_expr_parts.specs.Literals.{IsNegatable}

-- a number of a source may be negated
pub count_negatable : (n : ℤ) → IsCount n → IsNegatable n
count_negatable n (zero, is, small) = rw is (fits_signed_from_abs w64 (pos 0) small, fits_signed_from_abs w64 (pos 0) small)
count_negatable n (suc k, is, small) = rw is (fits_signed_from_abs w64 (pos (suc k)) small, fits_signed_from_abs w64 (negsuc k) small)
