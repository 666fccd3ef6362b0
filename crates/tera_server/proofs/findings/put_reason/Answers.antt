use Rattle.std.proofs.Common.{◌∙◌, refl, append_assoc}
use Rattle.tera_answers.proofs.Tails.{and_so}
use Rattle.tera_server.proofs.findings.put_reason.Goals as goal

pub returns : goal.returns
returns c =
    record {
      tokens =
          and_so c.put_tokens.result c.put_tokens.ensures.tokens
          (λ h. rw (c.in-Some.is, h, c.in_ok-put_number.ensures.tokens, c.in_ok-put_range.ensures.tokens, c.in_ok-begin_object.ensures.ok)
          (simp (append_assoc, c.severity_number.ensures, c.reason_code.ensures, c.unwrap_or.ensures, c.as_str.ensures.value) refl));
      before = c.put_tokens.ensures.before ∙ c.in_ok-put_number.ensures.before ∙ c.in_ok-put_range.ensures.before ∙ c.in_ok-begin_object.ensures.room.0;
    }
