use Rattle.std.proofs.Common.{◌∙◌, ap, length, map, sym, subst}
use Rattle.std.specs.BTreeMap.{is_at}
use Rattle.std.specs.Cmp.Lexicographic.{slice_cmp}
use Rattle.std.specs.Map.{lookup}
use Rattle.std.specs.Ordering.{nat_cmp}
use Rattle.std.proofs.lemmas.List.{length-map}
use Rattle.tera_site.specs.Tours.{AreTops}
use Rattle.tera_site.specs.Views.{page_view}
use Rattle.tera_site.proofs.TourLemmas.{begun}
use Rattle.tera_site.proofs.above.Tour.new.Goals as goal

pub returns : goal.returns
returns c = λ s same.
    let steps = c.in_ok-tops.field-0.items in
    begun s steps c.args.pages.now c.new.result c.in_ok-none_known.field-0.items
    (subst (λ ps. AreTops ps steps) (sym same) c.in_ok-tops.ensures)
    (λ m. ap (λ es. lookup (is_at (λ k. slice_cmp nat_cmp m k.now)) es) c.new.ensures.empty)
    c.in_ok-none_known.ensures
    (sym (ap length same ∙ length-map c.args.pages.now page_view))
