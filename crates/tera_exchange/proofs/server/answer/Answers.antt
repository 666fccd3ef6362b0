use Rattle.tera_exchange.proofs.server.answer.Goals as goal

pub returns-clause-took : goal.returns-clause-took
returns-clause-took g c = (c.take-finished.new.out, c.take-finished.ensures, c.in_ok-send.ensures.written)
