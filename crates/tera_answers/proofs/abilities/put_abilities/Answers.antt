use Rattle.std.proofs.Common.{◌∙◌, refl, append_assoc}
use Rattle.tera_answers.proofs.Tails.{and_so}
use Rattle.tera_answers.proofs.abilities.put_abilities.Goals as goal

pub returns : goal.returns
returns c =
    record {
      tokens =
          and_so c.put_tokens-2.result c.put_tokens-2.ensures.tokens
          (λ h. rw (h, c.in_ok-put_number.ensures.tokens, c.in_ok-put_tokens.ensures.tokens)
          (simp append_assoc (rw c.encoding_name.ensures refl)));
      before = c.put_tokens-2.ensures.before ∙ c.in_ok-put_number.ensures.before ∙ c.in_ok-put_tokens.ensures.before;
    }
