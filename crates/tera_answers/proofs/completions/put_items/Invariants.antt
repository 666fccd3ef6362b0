use Rattle.std.proofs.Common.{◌≡◌, ◌++◌}
use Rattle.std.specs.List.{flat_map}
use Rattle.tera_tree.specs.Calls.{texts}
use Rattle.tera_answers.specs.Completions.{kind_number, item_tokens}
use Rattle.tera_answers.proofs.completions.put_items.Given as goal

abbrev pub invariant-loop-name : goal.invariant-loop-name
invariant-loop-name l = record {
  tokens : l.initial.out.tokens ++ flat_map (item_tokens l.place.start l.place.end (kind_number l.place.kind)) (texts l.names.keys)
      ≡ l.out.tokens ++ flat_map (item_tokens l.place.start l.place.end (kind_number l.place.kind)) (texts l.name-iterator);
  before : l.out.before ≡ l.initial.out.before;
}
