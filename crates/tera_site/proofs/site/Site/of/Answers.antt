use Rattle.std.proofs.Common.{IfOk, map, subst}
use Rattle.std.specs.BTreeSet.{contains_text}
use Rattle.tera_ast.specs.View.{name_view}
use Rattle.tera_site.specs.Sites.{IsSiteOf}
use Rattle.tera_site.specs.Views.{around_in}
use Rattle.tera_site.proofs.site.Site.of.Goals as goal

pub returns : goal.returns
returns c =
    subst (λ pages. IfOk c.of_pages.result (λ s. IsSiteOf (map name_view c.args.names.now.items) (contains_text c.args.others.now) pages (around_in s)))
    c.in_ok-pages.ensures c.of_pages.ensures
