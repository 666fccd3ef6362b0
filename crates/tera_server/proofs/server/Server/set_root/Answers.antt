use Rattle.std.proofs.Common.{[], OnOk, Some, string_bytes, subst, sym, ap}
use Rattle.std.specs.Option.{option_map}
use Rattle.tera_workspace.specs.SiteValues.{no_site}
use Rattle.tera_server.specs.Configuring.{site_below}
use Rattle.tera_editor.specs.Sites.{IsSiteAt, with_nothing_known}
use Rattle.tera_server.proofs.server.Server.set_root.Goals as goal

pub returns-in-Some-clause-set : goal.returns-in-Some-clause-set
returns-in-Some-clause-set c =
    let folder = c.args.folder.now in
    let sites = c.args.self.now.sites in
    subst (λ root. OnOk c.set.result (IsSiteAt folder (site_below root) sites c.set.new.self)) (sym (ap (option_map string_bytes) c.in-Some.is))
    (subst (λ root. OnOk c.set.result (IsSiteAt folder (Some (with_nothing_known (no_site root []))) sites c.set.new.self)) c.as_str.ensures.value c.set.ensures.set)

pub returns-in-None-clause-set : goal.returns-in-None-clause-set
returns-in-None-clause-set c =
    let folder = c.args.folder.now in
    let sites = c.args.self.now.sites in
    subst (λ root. IsSiteAt folder (site_below root) sites c.remove.new.self) (sym (ap (option_map string_bytes) c.in-None.is)) c.remove.ensures.set
