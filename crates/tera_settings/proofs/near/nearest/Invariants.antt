use Rattle.std.proofs.Common.{take}
use Rattle.std.specs.Option.{option_map}
use Rattle.tera_settings.specs.Near.{near_view}
use Rattle.tera_settings.specs.Values.{texts}
use Rattle.tera_settings.proofs.NearLemmas.{IsBest}
use Rattle.tera_settings.proofs.near.nearest.Given as goal

-- the nearest of the names so far
abbrev pub invariant-loop-name : goal.invariant-loop-name
invariant-loop-name l = IsBest l.word (texts (take l.name-index l.names)) (option_map near_view l.nearest)
