use Rattle.std.proofs.Common.{◌≡◌, ◌++◌, subst}
use Rattle.std.specs.List.Sorted.{IsPermutation}
use Rattle.tera_site.specs.Named.{due_names}
use Rattle.tera_site.specs.Views.{around_view}
use Rattle.tera_site.proofs.FoundLemmas.{together}
use Rattle.tera_site.proofs.found.add_found.Goals as goal

pub returns-clause-found : goal.returns-clause-found
returns-clause-found c =
    let new = c.put_in_order.new.findings.items in
    together c.args.findings.now.items c.in_ok-names.names.items new (due_names (around_view c.args.around) c.args.template.now) c.in_ok-names.ensures.found
    (subst (λ fs. IsPermutation fs new) c.in_ok-append.ensures.items c.in_ok-put_in_order.ensures.same)
