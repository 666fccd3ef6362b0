use Rattle.std.proofs.Common.{◌∙◌, refl, append_assoc}
use Rattle.tera_answers.specs.SemanticTokens.{number_tokens}
use Rattle.tera_answers.proofs.Tails.{and_so}
use Rattle.tera_answers.proofs.signatures.put_placed.Goals as goal

pub returns : goal.returns
unfolding number_tokens
returns c =
    record {
      tokens =
          and_so c.put_tokens-2.result c.put_tokens-2.ensures.tokens
          (λ h. rw (h, c.in_ok-put_numbers.ensures.tokens, c.in_ok-put_tokens.ensures.tokens) (simp append_assoc refl));
      before = c.put_tokens-2.ensures.before ∙ c.in_ok-put_numbers.ensures.before ∙ c.in_ok-put_tokens.ensures.before;
    }
