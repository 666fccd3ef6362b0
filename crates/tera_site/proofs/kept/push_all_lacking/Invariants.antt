use Rattle.std.proofs.Common.{◌≡◌, ◌++◌, map, string_bytes, take}
use Rattle.tera_site.specs.Kept.{kept_around, names_missing}
use Rattle.tera_site.proofs.kept.push_all_lacking.Given as goal

abbrev pub invariant-loop-name : goal.invariant-loop-name
invariant-loop-name l =
    map string_bytes l.lacking.items
    ≡ map string_bytes l.fn.lacking.items ++ names_missing (kept_around l.around) (map string_bytes (take l.name-index l.name-items))
