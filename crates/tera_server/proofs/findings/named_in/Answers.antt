use Rattle.std.proofs.Common.{◌≡◌, ◌∙◌, [], map, IfOk, Option, sym, ap, subst}
use Rattle.std.specs.Option.{option_map, option_map_or}
use Rattle.tera_workspace.specs.Diagnostics.{diagnostic_view}
use Rattle.tera_workspace.specs.SiteValues.{KeptSiteVal}
use Rattle.tera_workspace.specs.Sites.{named_of_name}
use Rattle.tera_server.proofs.findings.named_in.Goals as goal

pub returns-in-Some : goal.returns-in-Some
returns-in-Some c =
    let named = λ (site : Option KeptSiteVal). option_map_or (λ s. named_of_name c.args.workspace.now s c.args.name.now) site [] in
    subst (λ site. IfOk c.named_of.result (λ v. map diagnostic_view v.items ≡ named site))
    (sym (ap (option_map (λ s. s.now)) c.in-Some.is) ∙ c.of.ensures)
    c.named_of.ensures

pub returns-in-None : goal.returns-in-None
returns-in-None c =
    let named = λ (site : Option KeptSiteVal). option_map_or (λ s. named_of_name c.args.workspace.now s c.args.name.now) site [] in
    ap (map diagnostic_view) c.new.ensures.items ∙ ap named (sym (ap (option_map (λ s. s.now)) c.in-None.is) ∙ c.of.ensures)
