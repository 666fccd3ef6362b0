use Rattle.std.proofs.Common.{◌≡◌, ◌++◌, map, string_bytes, take}
use Rattle.std.specs.List.{filter}
use Rattle.tera_site.specs.Views.{names_of}
use Rattle.tera_workspace.specs.KeptSites.{lacks_name}
use Rattle.tera_workspace.proofs.sites.push_lacking.Given as goal

abbrev pub invariant-loop-name : goal.invariant-loop-name
invariant-loop-name l =
    map string_bytes l.lacking.items ≡ map string_bytes l.fn.lacking.items ++ filter (lacks_name l.site) (names_of (take l.name-index l.name-items))
