use Rattle.std.proofs.Common.{OnOk, subst, sym}
use Rattle.tera_server.specs.Configuring.{site_by}
use Rattle.tera_editor.specs.Sites.{IsSiteAt, sited_in}
use Rattle.tera_server.specs.declared.configuring.FoundSettings.{FoundSettings}
use Rattle.tera_server.proofs.ConfiguringLemmas.{site_stays}
use Rattle.tera_server.proofs.server.Server.set_site.Goals as goal

pub returns-in-Nothing-clause-set : goal.returns-in-Nothing-clause-set
returns-in-Nothing-clause-set c =
    let folder = c.args.folder.now in
    let sites = c.args.self.now.sites in
    subst (λ (found : FoundSettings). IsSiteAt folder (site_by found (sited_in sites folder)) sites c.remove.new.self) (sym c.in-Nothing.is) c.remove.ensures.set

pub returns-in-Set-clause-set : goal.returns-in-Set-clause-set
returns-in-Set-clause-set c =
    let folder = c.args.folder.now in
    let sites = c.args.self.now.sites in
    subst (λ (found : FoundSettings). OnOk c.set_root.result (IsSiteAt folder (site_by found (sited_in sites folder)) sites c.set_root.new.self.sites)) (sym c.in-Set.is) c.set_root.ensures.set

pub returns-in-Wrong-clause-set : goal.returns-in-Wrong-clause-set
returns-in-Wrong-clause-set c =
    let folder = c.args.folder.now in
    let sites = c.args.self.now.sites in
    subst (λ (found : FoundSettings). IsSiteAt folder (site_by found (sited_in sites folder)) sites sites) (sym c.in-Wrong.is) (site_stays sites folder)
