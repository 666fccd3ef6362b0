use Rattle.std.proofs.Common.{take}
use Rattle.tera_templates.specs.Lost.{are_open}
use Rattle.tera_check.specs.Found.{AreFound, known_by}
use Rattle.tera_check.proofs.found.all_found.Given as goal

abbrev pub invariant-loop-number : goal.invariant-loop-number
invariant-loop-number l =
    AreFound (known_by l.templates.items) (are_open l.templates.items) l.checked 0 (take l.number l.templates.items) l.all.items
