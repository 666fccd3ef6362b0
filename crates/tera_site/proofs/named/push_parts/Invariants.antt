use Rattle.std.proofs.Common.{◌≡◌, ◌++◌, map}
use Rattle.std.specs.List.{flat_map}
use Rattle.tera_tree.specs.Outputs.{output_view}
use Rattle.tera_findings.specs.Findings.{finding_view}
use Rattle.tera_site.specs.Inside.{to_come}
use Rattle.tera_site.specs.Named.{site_part}
use Rattle.tera_site.specs.Placed.{placed_parts_of}
use Rattle.tera_site.specs.Views.{around_view}
use Rattle.tera_site.proofs.named.push_parts.Given as goal

abbrev pub invariant-loop-part : goal.invariant-loop-part
invariant-loop-part l =
    map finding_view l.findings.items ++ flat_map (site_part (around_view l.around)) (to_come l.left.items)
    ≡ map finding_view l.fn.findings.items ++ flat_map (site_part (around_view l.around)) (placed_parts_of (output_view l.output))
