use Rattle.std.proofs.Common.{IfOk, map, string_bytes, subst}
use Rattle.tera_workspace.specs.Sites.{AreRenewed}
use Rattle.tera_editor.proofs.sites.FolderSite.renew.Goals as goal

pub returns-clause-renewed : goal.returns-clause-renewed
returns-clause-renewed c =
    subst (λ ds. IfOk c.renew.result (λ v. AreRenewed (map string_bytes v.items) ds c.renew.new.self.documents)) c.give_others.ensures.documents c.renew.ensures.names
