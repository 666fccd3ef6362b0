use Rattle.std.proofs.Common.{inr, refl, arith}
use Rattle.tera_outline.specs.SemanticTokens.{semantic_tokens_of}
use Rattle.tera_outline.proofs.SemanticLemmas.{tokens_sound}
use Rattle.tera_answers.specs.SemanticTokens.{first}
use Rattle.tera_answers.proofs.TokenLemmas.{begins_first, read_back, all_apart, all_end}
use Rattle.tera_server.proofs.laws.semantic_tokens_read_back.Goals as goal

pub returns-clause-read : goal.returns-clause-read
returns-clause-read c = λ e text parts are.
    read_back e text 0 first (semantic_tokens_of text parts) (rw (← begins_first e text) (inr (refl, omega arith))) (tokens_sound text parts are)

pub returns-clause-apart : goal.returns-clause-apart
returns-clause-apart c = λ e text parts utf8 are.
    all_apart e text 0 first (semantic_tokens_of text parts) utf8 (begins_first e text) (tokens_sound text parts are)

pub returns-clause-line : goal.returns-clause-line
returns-clause-line c = λ e text parts utf8 are. all_end e text 0 (semantic_tokens_of text parts) utf8 (tokens_sound text parts are)
