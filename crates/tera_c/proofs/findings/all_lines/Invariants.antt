use Rattle.std.proofs.Common.{◌≡◌, ◌++◌, drop, map}
use Rattle.std.specs.List.{flat_map}
use Rattle.tera_check.specs.Found.{found_view}
use Rattle.tera_c.specs.FilesTogether.{finding_lines}
use Rattle.tera_c.proofs.findings.all_lines.Given as goal

abbrev pub invariant-loop-found : goal.invariant-loop-found
invariant-loop-found l =
    flat_map finding_lines (map found_view l.found-items)
    ≡ l.text.items ++ flat_map finding_lines (map found_view (drop l.found-index l.found-items))
