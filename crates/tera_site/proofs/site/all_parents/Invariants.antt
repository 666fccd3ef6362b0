use Rattle.std.proofs.Common.{◌≡◌, map, take}
use Rattle.tera_site.specs.Sites.{numbers_by, parent_names}
use Rattle.tera_site.specs.Views.{page_view, under_name}
use Rattle.tera_site.proofs.site.all_parents.Given as goal

abbrev pub invariant-loop-page : goal.invariant-loop-page
invariant-loop-page l =
    map (λ v. v.items) l.parents.items
    ≡ map (λ p. numbers_by (under_name l.numbers) (parent_names p)) (map page_view (take l.page-index l.page-items))
