use Rattle.std.proofs.Common.{◌≡◌, ◌++◌, map, string_bytes}
use Rattle.json.specs.Tree.{members_tokens}
use Rattle.tera_tree.specs.View.{argument_view}
use Rattle.tera_tree_json.specs.TreeJson.{arguments_json}
use Rattle.tera_tree_json.proofs.definitions.put_arguments.Given as goal

abbrev pub invariant-loop-name : goal.invariant-loop-name
invariant-loop-name l =
    (l.out.before ≡ l.initial.out.before)
    × (l.initial.out.tokens ++ members_tokens (arguments_json (map (λ a. (string_bytes a.0, argument_view a.1)) l.kwargs.entries)) ≡ l.out.tokens ++ members_tokens (arguments_json (map (λ a. (string_bytes a.0, argument_view a.1)) l.name-iterator)))
