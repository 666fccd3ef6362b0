use Rattle.std.proofs.Common.{◌≡◌, ◌∙◌, ◌++◌, refl, sym, ap, append_assoc}
use Rattle.std.proofs.lemmas.List.{append-nil}
use Rattle.std.specs.List.{flat_map}
use Rattle.tera_tree.specs.Calls.{texts}
use Rattle.tera_answers.specs.Completions.{item_json, item_tokens, kind_number}
use Rattle.tera_answers.proofs.ArrayLemmas.{items_written}
use Rattle.tera_answers.proofs.Tails.{and_so}
use Rattle.tera_answers.proofs.completions.put_items.Goals as goal

pub returns : goal.returns
unfolding item_tokens
returns c =
    let place = c.args.place in
    let names = texts c.args.names.now.keys in
    let one = item_tokens place.start place.end (kind_number place.kind) in
    let out = c.loop-name.out.tokens in
    let each : out ≡ c.begin_array.new.self.tokens ++ flat_map one names =
    sym (c.loop-name.invariant.tokens ∙ ap (λ ks. out ++ flat_map one (texts ks)) c.in-None.ensures.steps.0 ∙ append-nil out) in
    record {
      tokens =
          and_so c.end_array.result c.end_array.ensures.ok
          (λ h. rw (items_written (item_json place.start place.end (kind_number place.kind)) names)
          (rw (h, each, c.in_ok-begin_array.ensures.ok)
          (simp append_assoc refl)));
      before = c.end_array.ensures.room.0 ∙ c.loop-name.invariant.before ∙ c.in_ok-begin_array.ensures.room.0;
    }
