use Rattle.std.proofs.Common.{◌∙◌, refl, append_assoc}
use Rattle.tera_server.specs.Findings.{one_related}
use Rattle.tera_answers.proofs.Tails.{and_so}
use Rattle.tera_server.proofs.findings.put_one.Goals as goal

pub returns : goal.returns
unfolding one_related
returns c =
    record {
      tokens =
          and_so c.put_tokens-2.result c.put_tokens-2.ensures.tokens
          (λ h. rw (h, c.in_ok-put_location.ensures.tokens, c.in_ok-put_tokens.ensures.tokens)
          (simp (append_assoc, c.as_str-3.ensures.value, c.as_str-2.ensures.value, c.in_ok-uri.ensures, c.as_str.ensures.value) refl));
      before = c.put_tokens-2.ensures.before ∙ c.in_ok-put_location.ensures.before ∙ c.in_ok-put_tokens.ensures.before;
    }
