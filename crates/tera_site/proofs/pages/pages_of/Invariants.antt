use Rattle.std.proofs.Common.{◌≡◌, map, take}
use Rattle.tera_site.specs.Pages.{page_of}
use Rattle.tera_site.specs.Views.{page_view}
use Rattle.tera_site.proofs.pages.pages_of.Given as goal

abbrev pub invariant-loop-template : goal.invariant-loop-template
invariant-loop-template l = map page_view l.pages.items ≡ map page_of (take l.template-index l.template-items)
