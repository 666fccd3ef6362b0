use Rattle.tera_answers.specs.Actions.{part_tokens}
use Rattle.tera_answers.proofs.Tails.{and_so}
use Rattle.tera_answers.proofs.actions.put_part.Goals as goal

pub returns : goal.returns
unfolding part_tokens
returns c =
    record {
      tokens = and_so c.put_edit.result c.put_edit.ensures.tokens (λ h. rw (c.position.ensures, c.position-2.ensures) at h);
      before = c.put_edit.ensures.before;
    }
