use Rattle.std.proofs.Common.{arith}
use Rattle.tera_exchange.proofs.SendLemmas.{appends_none, next_sent, all_sent, part_sent, on_any_err}
use Rattle.tera_exchange.proofs.sending.send.Goals as goal

pub loop-number-init : goal.loop-number-init
loop-number-init g c = appends_none (g.W.Write.contents c.args.writer.now)

pub loop-number-preserved : goal.loop-number-preserved
loop-number-preserved g c =
    next_sent c.args.out.now.sent c.loop-number.number c.body.result.now (g.W.Write.contents c.args.writer.now) (g.W.Write.contents c.loop-number.writer) (g.W.Write.contents c.send_one.new.writer)
    c.body.ensures c.loop-number.invariant c.in_ok-send_one.ensures.written

pub returns-in_err-send_one-clause-in_part : goal.returns-in_err-send_one-clause-in_part
returns-in_err-send_one-clause-in_part g c =
    on_any_err c.from_residual.result
    (part_sent c.args.out.now.sent c.loop-number.number c.body.result.now (g.W.Write.contents c.args.writer.now) (g.W.Write.contents c.loop-number.writer) (g.W.Write.contents c.send_one.new.writer)
    c.body.ensures c.loop-number.invariant c.in_err-send_one.ensures.in_part)

pub returns-clause-written : goal.returns-clause-written
returns-clause-written g c =
    all_sent c.args.out.now.sent c.loop-number.number (g.W.Write.contents c.args.writer.now) (g.W.Write.contents c.loop-number.writer) (omega (arith, c.len-number-end.ensures)) c.loop-number.invariant
