use Rattle.std.proofs.Common.{◌≡◌, drop, map}
use Rattle.std.specs.List.{find}
use Rattle.tera_outline.specs.Names.{name_view, holds}
use Rattle.tera_answers.proofs.completions.arguments.Given as goal

abbrev pub invariant-loop-name : goal.invariant-loop-name
invariant-loop-name l =
    find (holds l.call) (map name_view l.named) ≡ find (holds l.call) (map name_view (drop l.name-index l.named))
