use Rattle.std.proofs.Common.{None, refl, sym, subst}
use Rattle.json_rpc.specs.Ids.{NullId}
use Rattle.json_rpc.specs.Outgoing.{IsAnswered}
use Rattle.json_rpc.specs.Writing.{body, refusal}
use Rattle.json_rpc.specs.declared.code.Code.TheVariants.{InternalError, ParseError}
use Rattle.message_frames.specs.Shown.{shown}
use Rattle.tera_server.specs.Steps.{IsRefused}
use Rattle.tera_exchange.specs.Serving.{Takes}
use Rattle.tera_exchange.proofs.server.take.Goals as goal

pub returns-in-Message : goal.returns-in-Message
returns-in-Message c =
    subst (λ f. Takes c.args.server.now (shown f) c.handle.result c.handle.new.server c.handle.new.out) (sym c.in-Message.is) c.handle.ensures

pub returns-in-TooLong : goal.returns-in-TooLong
returns-in-TooLong c =
    subst (λ f. Takes c.args.server.now (shown f) None c.miss.new.self c.miss.new.out) (sym c.in-TooLong.is)
    (refl, (c.miss.ensures.missed, subst (λ o. IsAnswered o c.miss.new.out NullId (body (refusal NullId InternalError))) c.requires c.miss.ensures.answered))

pub returns-in-Bad : goal.returns-in-Bad
returns-in-Bad c =
    subst (λ f. Takes c.args.server.now (shown f) None c.refuse.new.self c.refuse.new.out) (sym c.in-Bad.is)
    (refl, subst (λ o. IsRefused NullId ParseError c.args.server.now o c.refuse.new.self c.refuse.new.out) c.requires c.refuse.ensures)

pub returns-in-Wait : goal.returns-in-Wait
returns-in-Wait c =
    subst (λ f. Takes c.args.server.now (shown f) None c.args.server.now c.args.out.now) (sym c.in-Wait.is) (refl, refl, c.requires)
