use Rattle.std.proofs.Common.{◌∙◌, ap, arith, length, map, refl, sym, subst}
use Rattle.std.specs.Option.{option_map}
use Rattle.std.proofs.lemmas.List.{length-map}
use Rattle.std.proofs.lemmas.Option.{slice_get-map, slice_get_read}
use Rattle.tera_site.specs.Tours.{AreTopsTo}
use Rattle.tera_site.specs.Views.{page_view}
use Rattle.tera_site.proofs.TopsLemmas.{all_tops, no_tops}
use Rattle.tera_site.proofs.above.tops.Goals as goal

pub loop-number-init : goal.loop-number-init
loop-number-init c =
    let ps = map page_view c.args.pages.now in
    subst (AreTopsTo ps 0) (sym c.new-steps.ensures.items) (no_tops ps)

pub loop-number-preserved : goal.loop-number-preserved
loop-number-preserved c =
    let pages = c.args.pages.now in
    let number = c.loop-number.number in
    c.in_ok-push_if_top.ensures (map page_view pages)
    (slice_get-map page_view pages number
    ∙ ap (option_map page_view) (slice_get_read pages (length pages) number c.index-pages-number.result refl c.loop-number-test.true c.index-pages-number.is))
    c.loop-number.invariant

pub returns : goal.returns
returns c =
    all_tops (map page_view c.args.pages.now) c.loop-number.number c.loop-number.steps.items
    (let l = length-map c.args.pages.now page_view in let e = c.loop-number-test.false in let b = c.loop-number.auto.number-end in omega (arith, l, e, b))
    c.loop-number.invariant
