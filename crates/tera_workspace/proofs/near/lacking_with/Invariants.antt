use Rattle.std.proofs.Common.{◌≡◌, map, set, string_bytes, take}
use Rattle.std.specs.List.{flat_map}
use Rattle.tera_workspace.specs.Near.{own_lacking}
use Rattle.tera_workspace.proofs.near.lacking_with.Given as goal

abbrev pub invariant-loop-number : goal.invariant-loop-number
invariant-loop-number l = map string_bytes l.lacking.items ≡ flat_map own_lacking (take l.number (set l.kept.items l.at l.document))
