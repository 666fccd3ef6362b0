use Rattle.std.proofs.Common.{◌≡◌, ◌+◌, ◌++◌, drop, map}
use Rattle.tera_tree.specs.View.{definition_view}
use Rattle.tera_workspace.specs.Components.{components_by}
use Rattle.tera_workspace.specs.Kept.{templates_of}
use Rattle.tera_workspace.proofs.workspace.Workspace.components.Given as goal

abbrev pub invariant-loop-judged : goal.invariant-loop-judged
invariant-loop-judged l =
    components_by (templates_of l.judged-items)
    ≡ map (λ n. n.now) l.names.items ++ components_by (templates_of (drop l.judged-index l.judged-items))

abbrev pub invariant-loop-definition : goal.invariant-loop-definition
invariant-loop-definition l =
    components_by (templates_of l.judged-items)
    ≡ map (λ n. n.now) l.names.items
    ++ (map (λ d. d.name) (map definition_view (drop l.definition-index l.definition-items)) ++ components_by (templates_of (drop (l.judged-index + 1) l.judged-items)))
