use Rattle.std.proofs.Common.{◌≡◌, ◌++◌, map, string_bytes}
use Rattle.std.specs.List.{flat_map}
use Rattle.tera_tree.specs.View.{argument_view}
use Rattle.tera_tree_text.specs.TreeText.{argument_text}
use Rattle.tera_tree_text.proofs.definitions.push_arguments.Given as goal

abbrev pub invariant-loop-name : goal.invariant-loop-name
invariant-loop-name l =
    string_bytes l.initial.out ++ flat_map argument_text (map (λ a. (string_bytes a.0, argument_view a.1)) l.kwargs.entries) ≡ string_bytes l.out ++ flat_map argument_text (map (λ a. (string_bytes a.0, argument_view a.1)) l.name-iterator)
