use Rattle.std.proofs.Common.{ap, map, option_map, subst, sym}
use Rattle.tera_program_parts.specs.declared.status.Ended.{Ended}
use Rattle.tera_server.specs.declared.server.Server.{Server}
use Rattle.tera_exchange.specs.Serving.{AreSet}
use Rattle.tera_exchange.proofs.server.ended_over.Goals as goal

pub returns-in-Ok-serve-clause-served : goal.returns-in-Ok-serve-clause-served
returns-in-Ok-serve-clause-served g c = λ well. record {
  finished = c.in-Ok-serve.served.finished;
  short = c.in-Ok-serve.served.short;
  served = c.in-Ok-serve.ensures.0;
  markers = subst (λ (s : Server). AreSet (option_map (λ t. t.now) c.args.markers) s.settings.markers) (sym c.in-Ok-serve.ensures.1) c.in-Ok.ensures.given;
  early = ap (λ (e : Ended). e.found) c.ended_after.ensures;
}
