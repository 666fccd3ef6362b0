use Rattle.std.proofs.Common.{◌≡◌, drop}
use Rattle.tera_settings.specs.Values.{texts}
use Rattle.tera_fixes.specs.Meant.{has_rival}
use Rattle.tera_fixes.proofs.meant.has_rival.Given as goal

-- one of the names is a rival if one of those that are left is
abbrev pub invariant-loop-other : goal.invariant-loop-other
invariant-loop-other l = has_rival l.word (texts l.names) l.name l.far ≡ has_rival l.word (texts (drop l.other-index l.names)) l.name l.far
