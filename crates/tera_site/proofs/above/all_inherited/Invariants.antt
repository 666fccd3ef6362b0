use Rattle.std.proofs.Common.{◌≡◌, map}
use Rattle.tera_site.specs.Sites.{SiteVal, parents}
use Rattle.tera_site.specs.Tours.{IsTour}
use Rattle.tera_site.specs.Views.{page_view}
use Rattle.tera_site.proofs.above.all_inherited.Given as goal

abbrev pub invariant-loop-step : goal.invariant-loop-step
invariant-loop-step l =
    (s : SiteVal) → s.pages ≡ map page_view l.pages → map (λ v. v.items) l.links ≡ parents s → IsTour s l.tour
