use Rattle.std.proofs.Common.{◌∙◌, refl, append_assoc}
use Rattle.tera_answers.proofs.Tails.{and_so}
use Rattle.tera_answers.proofs.signatures.put_plain.Goals as goal

pub returns : goal.returns
returns c =
    record {
      tokens =
          and_so c.end_object.result c.end_object.ensures.ok
          (λ h. rw (h, c.in_ok-put_number.ensures.tokens, c.in_ok-put_tokens.ensures.tokens) (simp append_assoc refl));
      before = c.end_object.ensures.room.0 ∙ c.in_ok-put_number.ensures.before ∙ c.in_ok-put_tokens.ensures.before;
    }
