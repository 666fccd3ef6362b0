use Rattle.std.proofs.Common.{map}
use Rattle.tera_site.specs.Views.{page_view}
use Rattle.tera_site.specs.Tours.{AreTopsTo}
use Rattle.tera_site.proofs.above.tops.Given as goal

abbrev pub invariant-loop-number : goal.invariant-loop-number
invariant-loop-number l = AreTopsTo (map page_view l.pages) l.number l.steps.items
