use Rattle.std.proofs.Common.{◌≡◌, ◌++◌, drop, map}
use Rattle.tera_outline.specs.Names.{name_view}
use Rattle.tera_tree.specs.Calls.{texts}
use Rattle.tera_workspace.specs.Components.{components_of}
use Rattle.tera_answers.specs.Completions.{defined_names}
use Rattle.tera_answers.proofs.completions.components.Given as goal

abbrev pub invariant-loop-name : goal.invariant-loop-name
invariant-loop-name l =
    components_of l.workspace ++ defined_names (map name_view l.named)
    ≡ texts l.names.items ++ defined_names (map name_view (drop l.name-index l.named))
