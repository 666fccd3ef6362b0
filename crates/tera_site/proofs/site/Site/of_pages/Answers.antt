use Rattle.std.proofs.Common.{◌∙◌, ap, map, refl, sym, subst}
use Rattle.std.specs.BTreeSet.{contains_text}
use Rattle.link_groups.specs.Groups.{AreGroups, AreOnCircles}
use Rattle.tera_ast.specs.View.{name_view}
use Rattle.tera_site.specs.Views.{page_view}
use Rattle.tera_site.specs.declared.site.Site.{Site}
use Rattle.tera_site.proofs.AroundLemmas.{all_around}
use Rattle.tera_site.proofs.site.Site.of_pages.Goals as goal

pub returns : goal.returns
returns c =
    let pages = c.args.pages.now.items in
    let parents = c.in_ok-parents.parents.items in
    let leads = c.in_ok-leads.leads.items in
    let on = c.in_ok-on_circles.field-0.items in
    let groups = c.in_ok-groups_of.field-0.items in
    let site : Site = record {
      numbers = c.in_ok-numbers.numbers;
      others = c.args.others;
      circular = c.in_ok-on_circles.field-0;
      groups = c.in_ok-groups_of.field-0;
      inherited = c.in_ok-all_inherited.field-0;
    } in
    all_around (map name_view c.args.names.now.items) (contains_text c.args.others.now)
    (map page_view pages) (map (λ l. l.items) parents) (map (λ l. l.items) leads) site
    (record {
      named = c.in_ok-numbers.ensures;
      rest = λ n. refl;
      up = c.in_ok-parents.ensures;
      used = c.in_ok-leads.ensures;
      circles = subst (λ ls. AreOnCircles (map (λ l. l.items) ls) on) c.deref.ensures.value c.in_ok-on_circles.ensures;
      groups = subst (λ ls. AreGroups (map (λ l. l.items) ls) groups) c.deref-2.ensures.value c.in_ok-groups_of.ensures;
      inherited = λ s same links. c.in_ok-all_inherited.ensures s
          (same ∙ ap (map page_view) (sym c.deref-3.ensures.value))
          (ap (map (λ l. l.items)) c.deref-4.ensures.value ∙ links);
    })
