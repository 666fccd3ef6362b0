use Rattle.std.proofs.Common.{◌≡◌, ◌++◌, drop, map, string_bytes}
use Rattle.tera_tree.specs.View.{definition_view}
use Rattle.tera_workspace.proofs.judged.push_defined.Given as goal

abbrev pub invariant-loop-definition : goal.invariant-loop-definition
invariant-loop-definition l =
    map string_bytes l.initial.names.items ++ map (λ d. d.name) (map definition_view l.definitions)
    ≡ map string_bytes l.names.items ++ map (λ d. d.name) (map definition_view (drop l.definition-index l.definitions))
