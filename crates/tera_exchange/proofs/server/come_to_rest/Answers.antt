use Rattle.std.proofs.Common.{◌∙◌, sym}
use Rattle.tera_exchange.proofs.SendLemmas.{both_ok}
use Rattle.tera_exchange.proofs.ServingLemmas.{rests_short, rests_all}
use Rattle.tera_exchange.proofs.server.come_to_rest.Goals as goal

pub returns-in-Ok-clause-rests : goal.returns-in-Ok-clause-rests
returns-in-Ok-clause-rests g c =
    let done = both_ok c.give-given.result c.publish-published.result _ (sym c.and.ensures ∙ c.in-Ok.is) c.give-given.ensures.all c.publish-published.ensures.all in
    rests_all c.args.server.now c.give-given.new.server c.publish-published.new.server c.publish-published.new.out (g.W.Write.contents c.args.writer.now) (g.W.Write.contents c.send.new.writer)
    c.give-given.ensures.given done.0 done.1 c.publish-published.ensures.needed c.in_ok-send.ensures.written

pub returns-in-Err-clause-rests : goal.returns-in-Err-clause-rests
returns-in-Err-clause-rests g c =
    rests_short c.args.server.now c.give-given.new.server c.publish-published.new.server c.publish-published.new.out (g.W.Write.contents c.args.writer.now) (g.W.Write.contents c.send.new.writer)
    c.give-given.ensures.given c.publish-published.ensures.published c.in_ok-send.ensures.written
