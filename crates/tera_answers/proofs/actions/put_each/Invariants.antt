use Rattle.std.proofs.Common.{◌≡◌, ◌++◌, drop, map}
use Rattle.std.specs.List.{flat_map}
use Rattle.std.specs.Option.{option_map}
use Rattle.tera_fixes.specs.Suggestions.{suggestion_view}
use Rattle.tera_answers.specs.Actions.{action_tokens}
use Rattle.tera_answers.proofs.actions.put_each.Given as goal

abbrev pub invariant-loop-suggestion : goal.invariant-loop-suggestion
invariant-loop-suggestion l = record {
  tokens : l.initial.out.tokens ++ flat_map (action_tokens l.edited.encoding l.edited.uri.now l.edited.text.now) (map (option_map suggestion_view) l.suggestions) ≡ l.out.tokens ++ flat_map (action_tokens l.edited.encoding l.edited.uri.now l.edited.text.now) (map (option_map suggestion_view) (drop l.suggestion-index l.suggestions));
  before : l.out.before ≡ l.initial.out.before;
}
