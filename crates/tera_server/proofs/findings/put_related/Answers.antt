use Rattle.std.proofs.Common.{◌∙◌, ◌≡◌, ◌++◌, map, refl, append_assoc}
use Rattle.std.specs.List.{flat_map}
use Rattle.tera_workspace.specs.Diagnostics.{related_view}
use Rattle.tera_workspace.proofs.LeftLemmas.{left_last}
use Rattle.tera_server.specs.Findings.{related_json, one_related}
use Rattle.tera_answers.proofs.ArrayLemmas.{items_written}
use Rattle.tera_answers.proofs.Tails.{and_so}
use Rattle.tera_server.proofs.findings.put_related.Goals as goal

pub returns : goal.returns
unfolding one_related
returns c =
    let one = one_related c.args.publishing.editor.now in
    let each : c.loop-one.out.tokens ≡ c.put_tokens.new.out.tokens ++ flat_map one (map related_view c.args.related.now) =
    left_last (λ rs. flat_map one (map related_view rs)) _ c.loop-one.out.tokens c.args.related.now c.loop-one.one-index c.loop-one-test.false refl c.loop-one.invariant.tokens in
    record {
      tokens =
          and_so c.end_array.result c.end_array.ensures.ok
          (λ h. rw (c.if-not-publishing.false, items_written (related_json c.args.publishing.editor.now) (map related_view c.args.related.now))
          (rw (h, each, c.in_ok-put_tokens.ensures.tokens)
          (simp append_assoc refl)));
      before = c.end_array.ensures.room.0 ∙ c.loop-one.invariant.before ∙ c.in_ok-put_tokens.ensures.before;
    }
