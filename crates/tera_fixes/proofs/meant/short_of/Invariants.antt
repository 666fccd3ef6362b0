use Rattle.std.proofs.Common.{◌≡◌, drop}
use Rattle.std.specs.Prelude.{◌++◌, filter}
use Rattle.tera_settings.specs.Values.{texts}
use Rattle.tera_fixes.specs.Meant.{has_at_most}
use Rattle.tera_fixes.proofs.meant.short_of.Given as goal

-- those so far, and those of the names that are left
abbrev pub invariant-loop-name : goal.invariant-loop-name
invariant-loop-name l =
    texts l.short.items ++ filter (has_at_most 200) (texts (drop l.name-index l.names)) ≡ filter (has_at_most 200) (texts l.names)
