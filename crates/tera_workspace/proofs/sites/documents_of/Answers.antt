use Rattle.std.proofs.Common.{◌≡◌, ◌∙◌, ◌<◌, ◌≤◌, length, get_or, map, sym, ap, arith}
use Rattle.std.proofs.lemmas.List.{get_or_read, take_all}
use Rattle.tera_site.specs.Kept.{on_page}
use Rattle.tera_site.specs.Pages.{PageVal}
use Rattle.tera_site.specs.Views.{around_in, page_view}
use Rattle.tera_workspace.specs.KeptSites.{said_in}
use Rattle.tera_workspace.proofs.KeptSiteLemmas.{none_kept_yet, now_of, one_more_kept, page_at, pages_as_many}
use Rattle.tera_workspace.proofs.sites.documents_of.Goals as goal

pub loop-number-init : goal.loop-number-init
loop-number-init c = none_kept_yet c.args.site.now c.args.below.now.items _ c.new-documents.ensures.items

pub index-requires : goal.index-requires
index-requires c = omega (arith, ap length c.deref-judged-items.ensures.value, pages_as_many c.args.pages.now.items c.args.below.now.items c.requires)

pub loop-number-preserved : goal.loop-number-preserved
loop-number-preserved c =
    let site = c.args.site.now in
    let pages = c.args.pages.now.items in
    let below = c.args.below.now.items in
    let at = c.loop-number.number in
    let p = c.index.result.now in
    let b = c.judged-item.result in
    let d = c.in_ok-document_of.field-0 in
    let within : at < length below = omega (arith, ap length c.deref-judged-items.ensures.value) in
    let in_pages : at < length pages = omega (arith, within, pages_as_many pages below c.requires) in
    let is_p : p ≡ get_or pages at p = get_or_read pages at p in_pages c.index.ensures p in
    let is_b : b ≡ get_or below at b = c.judged-item.is ∙ ap (λ xs. get_or xs at b) c.deref-judged-items.ensures.value in
    let made = c.in_ok-document_of.ensures in
    one_more_kept site below at c.loop-number.documents.items c.push.new.self.items d b within (sym is_b) c.in_ok-push.ensures.items
    made.file (made.page ∙ page_at pages below at p b within is_p is_b c.requires)
    (made.around ∙ ap (on_page (page_view p)) c.around.ensures ∙ ap (λ (q : PageVal). on_page q (around_in site at)) (sym made.page))
    c.loop-number.invariant

pub returns-clause-said : goal.returns-clause-said
returns-clause-said c =
    let below = c.args.below.now.items in
    let over : length below ≤ c.loop-number.number = omega (arith, ap length c.deref-judged-items.ensures.value) in
    c.loop-number.invariant.said ∙ ap (λ bs. map said_in (now_of bs)) (take_all c.loop-number.number below over)

pub returns-clause-around : goal.returns-clause-around
returns-clause-around c = c.loop-number.invariant.around
