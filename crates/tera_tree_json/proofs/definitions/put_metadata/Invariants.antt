use Rattle.std.proofs.Common.{◌≡◌, ◌++◌, map, string_bytes}
use Rattle.json.specs.Tree.{members_tokens}
use Rattle.tera_base.specs.ValueView.{value_view}
use Rattle.tera_tree_json.specs.TreeJson.{metadata_json}
use Rattle.tera_tree_json.proofs.definitions.put_metadata.Given as goal

abbrev pub invariant-loop-name : goal.invariant-loop-name
invariant-loop-name l =
    (l.out.before ≡ l.initial.out.before)
    × (l.initial.out.tokens ++ members_tokens (metadata_json (map (λ m. (string_bytes m.0, value_view m.1)) l.metadata.entries)) ≡ l.out.tokens ++ members_tokens (metadata_json (map (λ m. (string_bytes m.0, value_view m.1)) l.name-iterator)))
