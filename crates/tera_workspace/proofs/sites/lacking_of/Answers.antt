use Rattle.std.proofs.Common.{map, string_bytes}
use Rattle.tera_site.specs.Views.{names_of}
use Rattle.tera_workspace.proofs.KeptSiteLemmas.{lacking_next}
use Rattle.tera_workspace.proofs.sites.lacking_of.Goals as goal

pub loop-page-preserved : goal.loop-page-preserved
loop-page-preserved c =
    lacking_next c.args.site.now c.deref-page-items.result.now c.loop-page.page-index c.page-item.result
    (map string_bytes c.loop-page.lacking.items) (map string_bytes c.push_lacking.new.lacking.items) (names_of c.in_ok-used_names.field-0.items)
    c.loop-page-test.true c.page-item.is c.in_ok-used_names.ensures c.in_ok-push_lacking.ensures c.loop-page.invariant
