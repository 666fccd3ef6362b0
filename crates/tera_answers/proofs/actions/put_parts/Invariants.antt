use Rattle.std.proofs.Common.{◌≡◌, ◌++◌, drop}
use Rattle.std.specs.List.{flat_map}
use Rattle.tera_answers.specs.Actions.{part_tokens}
use Rattle.tera_answers.proofs.actions.put_parts.Given as goal

abbrev pub invariant-loop-part : goal.invariant-loop-part
invariant-loop-part l = record {
  tokens : l.initial.out.tokens ++ flat_map (part_tokens l.edited.encoding l.edited.text.now l.text) l.parts ≡ l.out.tokens ++ flat_map (part_tokens l.edited.encoding l.edited.text.now l.text) (drop l.part-index l.parts);
  before : l.out.before ≡ l.initial.out.before;
}
