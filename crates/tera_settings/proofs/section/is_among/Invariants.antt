use Rattle.std.proofs.Common.{◌≡◌, drop}
use Rattle.tera_settings.specs.Values.{is_among, texts}
use Rattle.tera_settings.proofs.section.is_among.Given as goal

-- the key is among the names if it is among those that are left
abbrev pub invariant-loop-name : goal.invariant-loop-name
invariant-loop-name l = is_among (texts l.names) l.key ≡ is_among (texts (drop l.name-index l.names)) l.key
