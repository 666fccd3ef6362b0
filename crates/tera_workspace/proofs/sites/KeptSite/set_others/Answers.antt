use Rattle.std.proofs.Common.{◌∙◌, map, not, sym, ap, subst}
use Rattle.tera_site.specs.Kept.{names_in}
use Rattle.tera_workspace.specs.KeptSites.{names_before, said_of, site_view}
use Rattle.tera_workspace.specs.Sites.{IsKeptOf}
use Rattle.tera_workspace.proofs.KeptSiteLemmas.{same_names}
use Rattle.tera_workspace.proofs.NearSteps.{not_some}
use Rattle.tera_workspace.proofs.sites.KeptSite.set_others.Goals as goal

pub returns-then-eq : goal.returns-then-eq
returns-then-eq c =
    let s = c.self.inside in
    rw (← c.self.view_is) (ap (λ ns. record (site_view s) { others = ns }) (same_names s.others.keys c.args.others.keys (sym c.eq.ensures ∙ c.if-eq.true)))

pub invariant_of-self : goal.invariant_of-self
invariant_of-self c = record {
  ordered = c.self.invariant.ordered;
  kept = λ fresh.
      let s = c.self.inside in
      subst (λ b. IsKeptOf (record (site_view s) { others = names_in b }) (map said_of s.documents.items)) (sym c.replace-before.ensures.value)
      (subst (λ o. IsKeptOf (record (site_view s) { others = names_before o s.others }) (map said_of s.documents.items)) (not_some s.before (c.is_none.ensures ∙ ap not c.if-is_none.true)) (c.self.invariant.kept fresh));
}
