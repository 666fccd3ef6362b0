use Rattle.std.proofs.Common.{◌∙◌, subst}
use Rattle.std.specs.Io.KnownBytes.{Appends}
use Rattle.message_frames.specs.Writing.{frame}
use Rattle.tera_exchange.specs.Sent.{AppendsPart}
use Rattle.tera_exchange.proofs.SendLemmas.{none_sent, part_taken, on_any_err}
use Rattle.tera_exchange.proofs.sending.send_one.Goals as goal

pub returns-in_err-framed-clause-in_part : goal.returns-in_err-framed-clause-in_part
returns-in_err-framed-clause-in_part g c =
    on_any_err c.from_residual.result (none_sent (g.W.Write.contents c.args.writer.now) (frame c.args.body.now))

pub returns-in_err-write_all-clause-in_part : goal.returns-in_err-write_all-clause-in_part
returns-in_err-write_all-clause-in_part g c =
    let old = g.W.Write.contents c.args.writer.now in
    let now = g.W.Write.contents c.write_all.new.writer in
    let given = c.in_err-write_all.ensures.err in
    on_any_err c.from_residual-in_err-write_all.result
    (subst (λ text. AppendsPart old now text) (c.as_slice.ensures.value ∙ c.in_ok-framed.ensures) (part_taken old now c.as_slice.result.now given.0 given.2))

pub returns-clause-written : goal.returns-clause-written
returns-clause-written g c =
    subst (λ text. Appends (g.W.Write.contents c.args.writer.now) (g.W.Write.contents c.write_all.new.writer) text) (c.as_slice.ensures.value ∙ c.in_ok-framed.ensures) c.in_ok-write_all.ensures.ok
