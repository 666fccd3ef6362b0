use Rattle.std.proofs.Common.{◌≡◌, map, take}
use Rattle.tera_site.specs.Kept.{kept_page}
use Rattle.tera_site.specs.Views.{page_view}
use Rattle.tera_workspace.proofs.sites.pages_of.Given as goal

abbrev pub invariant-loop-judged : goal.invariant-loop-judged
invariant-loop-judged l = map page_view l.pages.items ≡ map (λ j. kept_page j.now.page) (take l.judged-index l.judged-items)
