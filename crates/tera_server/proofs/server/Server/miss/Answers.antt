use Rattle.std.proofs.Common.{subst}
use Rattle.json_rpc.specs.declared.code.Code.TheVariants.{InternalError}
use Rattle.tera_server.specs.Steps.{IsRefused}
use Rattle.tera_server.proofs.server.Server.miss.Goals as goal

pub returns-clause-missed : goal.returns-clause-missed
returns-clause-missed c =
    (subst (λ id. IsRefused id InternalError c.args.self.now c.args.out.now c.refuse_under.new.self c.refuse_under.new.out) c.null.ensures c.refuse_under.ensures).0

pub returns-clause-answered : goal.returns-clause-answered
returns-clause-answered c =
    (subst (λ id. IsRefused id InternalError c.args.self.now c.args.out.now c.refuse_under.new.self c.refuse_under.new.out) c.null.ensures c.refuse_under.ensures).1
