use Rattle.std.proofs.Common.{◌≡◌, ◌++◌, map, string_bytes}
use Rattle.tera_settings.specs.Values.{texts}
use Rattle.tera_fixes.specs.Names.{component_names}
use Rattle.tera_fixes.proofs.names.component_names.Given as goal

abbrev pub invariant-loop-name : goal.invariant-loop-name
invariant-loop-name l = texts l.names.items ++ map string_bytes l.name-iterator ≡ component_names l.catalogue
