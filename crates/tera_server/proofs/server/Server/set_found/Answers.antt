use Rattle.std.proofs.Common.{OnOk, None, subst, sym, ◌∙◌}
use Rattle.tera_server.specs.Configuring.{AreFoundSet}
use Rattle.tera_server.specs.declared.configuring.FoundSettings.{FoundSettings}
use Rattle.tera_server.proofs.ConfiguringLemmas.{at_itself}
use Rattle.tera_server.proofs.server.Server.set_found.Goals as goal

pub returns-in-Nothing-clause-set : goal.returns-in-Nothing-clause-set
returns-in-Nothing-clause-set c =
    let s = c.args.self.now in
    let folder = c.args.folder.now in
    subst (λ (found : FoundSettings). AreFoundSet folder found s (record s { settings = c.remove.new.self })) (sym c.in-Nothing.is)
    (record { settings = c.remove.ensures.set; file = c.remove.ensures.named folder ∙ at_itself folder None _; why = tt })

pub returns-in-Set-clause-set : goal.returns-in-Set-clause-set
returns-in-Set-clause-set c =
    subst (λ (found : FoundSettings). OnOk c.set_settings.result (AreFoundSet c.args.folder.now found c.args.self.now c.set_settings.new.self)) (sym c.in-Set.is) c.set_settings.ensures.set

pub returns-in-Wrong-clause-set : goal.returns-in-Wrong-clause-set
returns-in-Wrong-clause-set c =
    subst (λ (found : FoundSettings). OnOk c.set_wrong.result (AreFoundSet c.args.folder.now found c.args.self.now c.set_wrong.new.self)) (sym c.in-Wrong.is) c.set_wrong.ensures.set
