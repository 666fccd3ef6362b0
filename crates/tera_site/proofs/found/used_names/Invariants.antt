use Rattle.std.proofs.Common.{◌≡◌, map, take}
use Rattle.std.specs.List.{flat_map}
use Rattle.tera_site.specs.Pages.{page_of}
use Rattle.tera_site.specs.Sites.{used_names}
use Rattle.tera_site.specs.Views.{names_of}
use Rattle.tera_site.proofs.found.used_names.Given as goal

abbrev pub invariant-loop-template : goal.invariant-loop-template
invariant-loop-template l = names_of l.used.items ≡ flat_map used_names (map page_of (take l.template-index l.template-items))
