use Rattle.std.proofs.Common.{◌∙◌, map, refl, append_assoc}
use Rattle.tera_workspace.specs.Diagnostics.{related_view}
use Rattle.tera_server.specs.Findings.{one_found}
use Rattle.tera_server.proofs.FindingLemmas.{related_written}
use Rattle.tera_answers.proofs.Tails.{and_so}
use Rattle.tera_server.proofs.findings.put_diagnostic.Goals as goal

pub returns : goal.returns
unfolding one_found
returns c =
    record {
      tokens =
          and_so c.end_object.result c.end_object.ensures.ok
          (λ h. rw (related_written c.args.publishing.editor.now c.args.publishing.related (map related_view c.args.diagnostic.now.related.items))
          (rw (h, c.in_ok-put_related.ensures.tokens, c.in_ok-put_tokens.ensures.tokens, c.in_ok-put_number.ensures.tokens, c.in_ok-put_range.ensures.tokens, c.in_ok-begin_object.ensures.ok)
          (simp (append_assoc, c.severity_number.ensures, c.name.ensures, c.as_str.ensures.value, c.as_slice.ensures.value) refl)));
      before = c.end_object.ensures.room.0 ∙ c.in_ok-put_related.ensures.before ∙ c.in_ok-put_tokens.ensures.before ∙ c.in_ok-put_number.ensures.before ∙ c.in_ok-put_range.ensures.before ∙ c.in_ok-begin_object.ensures.room.0;
    }
