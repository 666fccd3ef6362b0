use Rattle.std.proofs.Common.{◌≡◌, map, string_bytes, take}
use Rattle.std.specs.List.{filter, flat_map}
use Rattle.tera_site.specs.Sites.{used_names}
use Rattle.tera_site.specs.Views.{page_view}
use Rattle.tera_workspace.specs.KeptSites.{lacks_name}
use Rattle.tera_workspace.proofs.sites.lacking_of.Given as goal

abbrev pub invariant-loop-page : goal.invariant-loop-page
invariant-loop-page l = map string_bytes l.lacking.items ≡ filter (lacks_name l.site) (flat_map used_names (map page_view (take l.page-index l.page-items)))
