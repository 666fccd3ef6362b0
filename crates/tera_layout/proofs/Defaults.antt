-- The default markers, and tokens between markers that are the same.
use Rattle.std.proofs.Common.{◌≡◌, ℕ, List, refl, subst}
use Rattle.tera_lexer.specs.grammar.Marks.{Marks, IsValid, default_marks}
use Rattle.tera_lexer.specs.grammar.Tokens.{Items, AreTokensOf}

pub default_valid : IsValid default_marks
default_valid = record {
  block_start = refl;
  block_end = refl;
  variable_start = refl;
  variable_end = refl;
  comment_start = refl;
  comment_end = refl;
  block_variable = λ e. cc;
  block_comment = λ e. cc;
  variable_comment = λ e. cc;
}

pub same_tokens : (n m : Marks) (source : List ℕ) (items : Items) → n ≡ m → AreTokensOf n source items → AreTokensOf m source items
same_tokens n m source items = subst (λ k. AreTokensOf k source items)
