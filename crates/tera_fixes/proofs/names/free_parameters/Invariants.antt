use Rattle.std.proofs.Common.{◌≡◌}
use Rattle.tera_settings.specs.Values.{texts}
use Rattle.tera_fixes.specs.Attributes.{call_view}
use Rattle.tera_fixes.specs.Names.{free_of}
use Rattle.tera_fixes.proofs.names.free_parameters.Given as goal

-- those of the names so far for which nothing is passed
abbrev pub invariant-loop-name : goal.invariant-loop-name
invariant-loop-name l = texts l.names.items ≡ free_of (call_view l.call) (texts l.yielded)
