use Rattle.std.proofs.Common.{◌≡◌, ◌++◌, map, string_bytes}
use Rattle.std.specs.List.{flat_map}
use Rattle.tera_base.specs.ValueView.{value_view}
use Rattle.tera_tree_text.specs.TreeText.{meta_text}
use Rattle.tera_tree_text.proofs.definitions.push_metadata.Given as goal

abbrev pub invariant-loop-key : goal.invariant-loop-key
invariant-loop-key l =
    string_bytes l.initial.out ++ flat_map meta_text (map (λ m. (string_bytes m.0, value_view m.1)) l.metadata.entries) ≡ string_bytes l.out ++ flat_map meta_text (map (λ m. (string_bytes m.0, value_view m.1)) l.key-iterator)
