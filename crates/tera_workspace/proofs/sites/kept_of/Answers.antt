use Rattle.tera_workspace.proofs.KeptSiteLemmas.{kept_by_site}
use Rattle.tera_workspace.proofs.sites.kept_of.Goals as goal

pub returns-clause-kept : goal.returns-clause-kept
returns-clause-kept c =
    kept_by_site c.args.root.now c.args.others.now c.args.below.now.items c.in_ok-names.names.items c.in_ok-pages.pages.items c.in_ok-site.site c.in_ok-documents.documents.items c.in_ok-lacking.lacking.items
    c.in_ok-names.ensures c.in_ok-pages.ensures c.in_ok-site.ensures c.in_ok-documents.ensures.said c.in_ok-documents.ensures.around c.in_ok-lacking.ensures

pub documents_of-requires : goal.documents_of-requires
documents_of-requires c = c.in_ok-pages.ensures
