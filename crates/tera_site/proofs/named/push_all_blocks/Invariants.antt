use Rattle.std.proofs.Common.{◌≡◌, ◌++◌, drop, map}
use Rattle.std.specs.List.{flat_map}
use Rattle.tera_ast.specs.View.{node_view}
use Rattle.tera_findings.specs.Findings.{finding_view}
use Rattle.tera_site.specs.Named.{block_findings}
use Rattle.tera_site.specs.Views.{around_view}
use Rattle.tera_site.proofs.named.push_all_blocks.Given as goal

abbrev pub invariant-loop-node : goal.invariant-loop-node
invariant-loop-node l =
    map finding_view l.initial.findings.items ++ flat_map (block_findings (around_view l.around)) (map node_view l.node-items)
    ≡ map finding_view l.findings.items ++ flat_map (block_findings (around_view l.around)) (map node_view (drop l.node-index l.node-items))
