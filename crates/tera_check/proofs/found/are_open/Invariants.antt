use Rattle.std.proofs.Common.{◌≡◌, drop}
use Rattle.std.specs.List.{list_any}
use Rattle.tera_templates.specs.Lost.{is_open}
use Rattle.tera_check.proofs.found.are_open.Given as goal

abbrev pub invariant-loop-template : goal.invariant-loop-template
invariant-loop-template l = list_any is_open (drop l.template-index l.template-items) ≡ list_any is_open l.template-items
