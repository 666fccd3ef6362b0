use Rattle.std.proofs.Common.{◌≡◌, ◌+◌, drop, map}
use Rattle.tera_tree.specs.View.{definition_view}
use Rattle.tera_check.specs.Named.{defined_from, defined_by, first_named, or_else}
use Rattle.tera_workspace.specs.Kept.{templates_of}
use Rattle.tera_workspace.proofs.catalogue.first_known.Given as goal

abbrev pub invariant-loop-number : goal.invariant-loop-number
invariant-loop-number l =
    first_named l.name (defined_by 0 (templates_of l.all.items)) ≡ first_named l.name (defined_by l.number (templates_of (drop l.number l.all.items)))

abbrev pub invariant-loop-at : goal.invariant-loop-at
invariant-loop-at l =
    first_named l.name (defined_by 0 (templates_of l.all.items))
    ≡ or_else (first_named l.name (defined_from l.number l.judged.template l.at (map definition_view (drop l.at l.definition-items))))
    (first_named l.name (defined_by (l.number + 1) (templates_of (drop (l.number + 1) l.all.items))))
