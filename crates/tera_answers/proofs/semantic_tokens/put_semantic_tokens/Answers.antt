use Rattle.std.proofs.Common.{refl, append_assoc}
use Rattle.tera_outline.specs.SemanticTokens.{semantic_tokens_of}
use Rattle.tera_outline.proofs.SemanticLemmas.{tokens_sound}
use Rattle.protocol_values.specs.Writing.{number_json}
use Rattle.tera_answers.specs.SemanticTokens.{data_of, tokens_json, number_tokens}
use Rattle.tera_answers.proofs.ArrayLemmas.{items_written}
use Rattle.tera_answers.proofs.Tails.{and_so}
use Rattle.tera_answers.proofs.semantic_tokens.put_semantic_tokens.Goals as goal

pub put_data-requires : goal.put_data-requires
put_data-requires c =
    let (parts, are, same) = c.in_ok-tokens.ensures in
    rw (c.as_slice.ensures.value, same) (tokens_sound c.args.text.now parts are)

pub returns-clause-tokens : goal.returns-clause-tokens
unfolding number_tokens
returns-clause-tokens c =
    let (parts, are, same) = c.in_ok-tokens.ensures in
    let tokens = semantic_tokens_of c.args.text.now parts in
    and_so c.put_tokens-2.result c.put_tokens-2.ensures.tokens
    (λ h. (
      tokens_json c.args.encoding c.args.text.now tokens,
      (parts, are, refl),
      rw (items_written number_json (data_of c.args.encoding c.args.text.now tokens))
          (rw (h, c.in_ok-put_data.ensures.tokens, c.in_ok-put_tokens.ensures.tokens, c.as_slice.ensures.value, same)
          (simp append_assoc refl)),
    ))
