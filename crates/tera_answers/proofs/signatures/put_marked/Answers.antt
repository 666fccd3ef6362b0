use Rattle.std.proofs.Common.{◌∙◌, refl, append_assoc}
use Rattle.tera_outline.specs.Signatures.{signature_view}
use Rattle.tera_answers.specs.Signatures.{are_placed, parameter_json, parameter_tokens}
use Rattle.tera_answers.proofs.ArrayLemmas.{items_written}
use Rattle.tera_answers.proofs.Tails.{and_so}
use Rattle.tera_answers.proofs.signatures.put_marked.Goals as goal

pub returns : goal.returns
unfolding parameter_tokens
returns c =
    let s = signature_view c.args.signature.now in
    record {
      tokens =
          and_so c.end_object.result c.end_object.ensures.ok
          (λ h. rw (items_written (parameter_json (are_placed c.args.labels s.head)) s.parameters)
          (rw (
            h,
            c.in_ok-put_number-2.ensures.tokens,
            c.in_ok-put_number.ensures.tokens,
            c.in_ok-put_tokens-2.ensures.tokens,
            c.in_ok-put_parameters.ensures.tokens,
            c.in_ok-put_tokens.ensures.tokens,
            c.are_placed-placed.ensures,
            c.as_slice.ensures.value,
          )
          (simp append_assoc refl)));
      before = c.end_object.ensures.room.0 ∙ c.in_ok-put_number-2.ensures.before ∙ c.in_ok-put_number.ensures.before ∙ c.in_ok-put_tokens-2.ensures.before ∙ c.in_ok-put_parameters.ensures.before
          ∙ c.in_ok-put_tokens.ensures.before;
    }
