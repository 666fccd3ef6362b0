use Rattle.std.proofs.Common.{◌∙◌, refl, append_assoc}
use Rattle.tera_answers.specs.Completions.{item_tokens}
use Rattle.tera_answers.proofs.Tails.{and_so}
use Rattle.tera_answers.proofs.completions.put_item.Goals as goal

pub returns : goal.returns
unfolding item_tokens
returns c =
    record {
      tokens =
          and_so c.end_object.result c.end_object.ensures.ok
          (λ h. rw (h, c.in_ok-put_edit.ensures.tokens, c.in_ok-key.ensures.ok, c.in_ok-put_number.ensures.tokens, c.kind_number.ensures, c.in_ok-put_tokens.ensures.tokens)
          (simp append_assoc refl));
      before = c.end_object.ensures.room.0 ∙ c.in_ok-put_edit.ensures.before ∙ c.in_ok-key.ensures.room.0 ∙ c.in_ok-put_number.ensures.before ∙ c.in_ok-put_tokens.ensures.before;
    }
