use Rattle.std.proofs.Common.{◌≡◌, ◌++◌, ℕ, List, map, string_bytes}
use Rattle.std.specs.List.{flat_map}
use Rattle.tera_tree.specs.Tree.{Argument}
use Rattle.tera_tree.specs.View.{argument_view, definition_view}
use Rattle.tera_findings.specs.Findings.{finding_view}
use Rattle.tera_check.specs.Parameters.{parameter_at, unused_if}
use Rattle.tera_check.specs.Scopes.{is_named}
use Rattle.tera_check.proofs.parameters.push_unused_arguments.Given as goal

abbrev pub invariant-loop-name : goal.invariant-loop-name
invariant-loop-name l =
    map finding_view l.initial.findings.items
    ++ flat_map (λ (a : List ℕ × Argument). unused_if (definition_view l.definition) (is_named l.naming) (parameter_at l.template (definition_view l.definition).name) a.0) (definition_view l.definition).arguments
    ≡ map finding_view l.findings.items
    ++ flat_map (λ (a : List ℕ × Argument). unused_if (definition_view l.definition) (is_named l.naming) (parameter_at l.template (definition_view l.definition).name) a.0) (map (λ a. (string_bytes a.0, argument_view a.1)) l.name-iterator)
