use Rattle.std.proofs.Common.{◌∙◌, ℕ, List, Option, None, Some, String, option_map, map, string_bytes, sym, ap}
use Rattle.std.specs.declared.alloc.Global.{Global}
use Rattle.tera_workspace.specs.SiteValues.{KeptSiteVal}
use Rattle.tera_editor.specs.Sites.{site_for}
use Rattle.tera_editor.specs.Templates.{RootsVal}
use Rattle.tera_server.proofs.server.Server.roots_for.Goals as goal

abbrev roots : Option (List ℕ) → List (String Global) → RootsVal
roots root folders = record { root = root; folders = map string_bytes folders }

abbrev root_in : Option KeptSiteVal → Option (List ℕ)
root_in o = option_map (λ s. s.root) o

pub returns-in-Some : goal.returns-in-Some
returns-in-Some c =
    let s = c.args.self.now in
    let folders = c.as_slice-folders.result.now in
    ap (λ r. roots (Some r) folders) c.root.ensures
    ∙ ap (λ o. roots (root_in (option_map (λ x. x.now) o)) folders) (sym c.in-Some.is)
    ∙ ap (λ o. roots (root_in o) folders) c.of.ensures
    ∙ ap (λ fs. roots (root_in (site_for s.sites (map string_bytes fs) c.args.file.now)) fs) c.as_slice-folders.ensures.value

pub returns-in-None : goal.returns-in-None
returns-in-None c =
    let s = c.args.self.now in
    let folders = c.as_slice-folders.result.now in
    ap (λ o. roots (root_in (option_map (λ x. x.now) o)) folders) (sym c.in-None.is)
    ∙ ap (λ o. roots (root_in o) folders) c.of.ensures
    ∙ ap (λ fs. roots (root_in (site_for s.sites (map string_bytes fs) c.args.file.now)) fs) c.as_slice-folders.ensures.value
