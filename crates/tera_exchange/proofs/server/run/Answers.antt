use Rattle.std.proofs.Common.{option_map}
use Rattle.tera_exchange.proofs.EndingLemmas.{set_fit}
use Rattle.tera_exchange.proofs.server.run.Goals as goal

pub returns-clause-fit : goal.returns-clause-fit
returns-clause-fit g c = λ well. set_fit (option_map (λ t. t.now) c.args.markers) _ (c.ended_over.ensures.served well).markers
