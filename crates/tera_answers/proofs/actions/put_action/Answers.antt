use Rattle.std.proofs.Common.{◌∙◌, refl, append_assoc, string_bytes}
use Rattle.tera_answers.specs.Actions.{part_json, part_tokens}
use Rattle.tera_answers.proofs.ArrayLemmas.{items_written}
use Rattle.tera_answers.proofs.Tails.{and_so}
use Rattle.tera_answers.proofs.actions.put_action.Goals as goal

pub returns : goal.returns
unfolding part_tokens
returns c =
    let edited = c.args.edited in
    let s = c.args.suggestion.now in
    record {
      tokens =
          and_so c.put_tokens-2.result c.put_tokens-2.ensures.tokens
          (λ h. rw (items_written (part_json edited.encoding edited.text.now (string_bytes s.text)) s.parts.items)
          (rw (h, c.in_ok-put_parts.ensures.tokens, c.in_ok-put_tokens.ensures.tokens, c.as_str.ensures.value, c.as_str-2.ensures.value, c.as_slice.ensures.value)
          (simp append_assoc refl)));
      before = c.put_tokens-2.ensures.before ∙ c.in_ok-put_parts.ensures.before ∙ c.in_ok-put_tokens.ensures.before;
    }
