use Rattle.tera_exchange.specs.Serving.{Gives}
use Rattle.tera_exchange.proofs.server.give.Given as goal

abbrev pub invariant-needed : goal.invariant-needed
invariant-needed g l = Gives l.fn.server l.server
