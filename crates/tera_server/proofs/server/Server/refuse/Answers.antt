use Rattle.std.proofs.Common.{subst}
use Rattle.json_rpc.specs.declared.code.Code.TheVariants.{ParseError}
use Rattle.tera_server.specs.Steps.{IsRefused}
use Rattle.tera_server.proofs.server.Server.refuse.Goals as goal

pub returns : goal.returns
returns c =
    subst (λ id. IsRefused id ParseError c.args.self.now c.args.out.now c.refuse_under.new.self c.refuse_under.new.out) c.null.ensures c.refuse_under.ensures
