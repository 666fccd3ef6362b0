use Rattle.std.proofs.Common.{◌≡◌, ◌++◌, drop, map}
use Rattle.tera_rules.specs.Judged.{known_view}
use Rattle.tera_check.specs.Named.{defined_by}
use Rattle.tera_catalogue.proofs.components.all_known.Given as goal

abbrev pub invariant-loop-number : goal.invariant-loop-number
invariant-loop-number l =
    defined_by 0 l.templates.items ≡ map known_view l.known.items ++ defined_by l.number (drop l.number l.templates.items)
