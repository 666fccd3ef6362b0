use Rattle.std.proofs.Common.{◌≡◌, ◌++◌, drop}
use Rattle.std.specs.List.{flat_map}
use Rattle.tera_answers.specs.Layouts.{edit_tokens}
use Rattle.tera_answers.proofs.layouts.put_edits_to.Given as goal

abbrev pub invariant-loop-edit : goal.invariant-loop-edit
invariant-loop-edit l = record {
  tokens : l.initial.out.tokens ++ flat_map (edit_tokens l.encoding l.text) l.edit-items ≡ l.out.tokens ++ flat_map (edit_tokens l.encoding l.text) (drop l.edit-index l.edit-items);
  before : l.out.before ≡ l.initial.out.before;
}
