use Rattle.std.proofs.Common.{inl, inr, refl, subst}
use Rattle.json_rpc.specs.Messages.{message_of}
use Rattle.tera_server.specs.Steps.{Step, IsUntaken}
use Rattle.tera_exchange.proofs.server.handle.Goals as goal

pub returns-in-Ok : goal.returns-in-Ok
returns-in-Ok c =
    let m = message_of c.args.message.items in
    inl (subst (λ o. Step c.args.server.now m o c.in-Ok.finished c.handle.new.self c.handle.new.out) c.requires c.in-Ok.ensures.step)

pub returns-in-Err : goal.returns-in-Err
returns-in-Err c =
    let m = message_of c.args.message.items in
    inr (refl, subst (λ o. IsUntaken c.args.server.now m o c.handle.new.self c.handle.new.out) c.requires c.in-Err.ensures.untaken)
