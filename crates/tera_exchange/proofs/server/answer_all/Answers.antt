use Rattle.std.proofs.Common.{◌∙◌, ℕ, List, Option, None, ap, subst}
use Rattle.message_frames.specs.Held.{Held}
use Rattle.message_frames.specs.Shown.{Message, Wait, shown}
use Rattle.message_frames.specs.Representing.{Represents, IsNext}
use Rattle.tera_server.specs.declared.server.Server.{Server}
use Rattle.tera_exchange.specs.Serving.{IsTalking}
use Rattle.tera_exchange.proofs.ServingLemmas.{talk_took, talk_ended, talk_goes_on, talk_same, waits_where_ok, talk_given, talk_missed}
use Rattle.tera_exchange.proofs.server.answer_all.Goals as goal
use Rattle.tera_exchange.proofs.server.answer_all.Goals.{in-Ok+in_default+in_ok-finished-in_default+in_default-2, in-Err+in_ok-miss-in-Err}

pub returns-in-Wait-clause-talked : goal.returns-in-Wait-clause-talked
returns-in-Wait-clause-talked g c =
    let limit = c.args.frames.now.limit in
    let new = c.next.new.self in
    let next : (rest : List ℕ) → Represents c.messages.frames rest → IsNext limit rest Wait new =
    λ rest represents. subst (λ n. IsNext n rest Wait new) c.messages.invariant.limit (subst (λ f. IsNext c.messages.frames.limit rest (shown f) new) c.in-Wait.is (c.in-Ok.ensures.next rest represents)) in
    waits_where_ok c.come_to_rest.result limit c.args.server.now c.messages.server c.come_to_rest.new.server c.args.frames.now c.messages.frames new
    (g.W.Write.contents c.args.writer.now) (g.W.Write.contents c.messages.writer) (g.W.Write.contents c.come_to_rest.new.writer) c.messages.invariant.talked next c.come_to_rest.ensures.rests

pub returns-in-Some : goal.returns-in-Some
returns-in-Some g c =
    let limit = c.args.frames.now.limit in
    let new = c.next.new.self in
    let frame = c.in-Ok.next in
    let next : (rest : List ℕ) → Represents c.messages.frames rest → IsNext limit rest (shown frame) new =
    λ rest represents. subst (λ n. IsNext n rest (shown frame) new) c.messages.invariant.limit (c.in-Ok.ensures.next rest represents) in
    let took = c.in_ok-finished-in_default.ensures.took in
    record {
      limit = c.next.ensures.limit ∙ c.messages.invariant.limit;
      talked = λ start bytes began k.
          talk_ended limit start c.answer.new.server bytes new began (g.W.Write.contents c.answer.new.writer) c.in_ok-finished-in_default.field-0 c.in-Some.finished c.in-Some.is
          (talk_took limit start c.messages.server c.answer.new.server bytes c.messages.frames new began (g.W.Write.contents c.messages.writer) (g.W.Write.contents c.answer.new.writer) frame c.in_ok-finished-in_default.field-0 took.0
          (c.messages.invariant.talked start bytes began k) c.in_default.not-Wait next took.1 took.2);
      sent = c.in_ok-finished-in_default.ensures.sent;
    }

pub messages-preserved : goal.messages-preserved
messages-preserved g c =
    let limit = c.args.frames.now.limit in
    let written = g.W.Write.contents in
    let on : (start : Server) (bytes : List ℕ) (began : Option (List ℕ)) → IsTalking limit None start c.args.server.now bytes c.args.frames.now began (written c.args.writer.now) →
    IsTalking limit None start c.match-next.server bytes c.match-next.frames began (written c.match-next.writer) =
    λ start bytes began k. elim c.match-next.branch [
      | in-Ok+in_default+in_ok-finished-in_default+in_default-2 w ↦
          let new = c.next.new.self in
          let frame = w.in-Ok.next in
          let next : (rest : List ℕ) → Represents c.messages.frames rest → IsNext limit rest (shown frame) new =
          λ rest represents. subst (λ n. IsNext n rest (shown frame) new) c.messages.invariant.limit (w.in-Ok.ensures.next rest represents) in
          let took = w.in_ok-finished-in_default.ensures.took in
          talk_same limit start w.answer.new.server c.match-next.server bytes new c.match-next.frames began (written w.answer.new.writer) (written c.match-next.writer) w.server-is w.frames-is (ap written w.writer-is)
          (talk_goes_on limit start w.answer.new.server bytes new began (written w.answer.new.writer) w.in_ok-finished-in_default.field-0 w.in_default-2.is
          (talk_took limit start c.messages.server w.answer.new.server bytes c.messages.frames new began (written c.messages.writer) (written w.answer.new.writer) frame w.in_ok-finished-in_default.field-0 took.0
          (c.messages.invariant.talked start bytes began k) w.in_default.not-Wait next took.1 took.2))
      | in-Err+in_ok-miss-in-Err w ↦
          let new = w.skip.new.self in
          let skipped : (rest : List ℕ) → Represents c.messages.frames rest → (message : List ℕ) × IsNext limit rest (Message message) new =
          λ rest represents. subst (λ n. (message : List ℕ) × IsNext n rest (Message message) new) (c.next.ensures.limit ∙ c.messages.invariant.limit)
          (w.skip.ensures.skipped w.in-Err.ensures.whole rest (w.in-Err.ensures.err rest represents)) in
          let took = w.in_ok-miss-in-Err.ensures.took in
          talk_same limit start w.miss.new.server c.match-next.server bytes new c.match-next.frames began (written w.miss.new.writer) (written c.match-next.writer) w.server-is w.frames-is (ap written w.writer-is)
          (talk_missed limit start c.messages.server w.miss.new.server bytes c.messages.frames new began (written c.messages.writer) (written w.miss.new.writer) took.0
          (c.messages.invariant.talked start bytes began k) skipped took.1 took.2)
    ] in
    record {
      limit = elim c.match-next.branch [
        | in-Ok+in_default+in_ok-finished-in_default+in_default-2 w ↦ ap (λ (h : Held). h.limit) w.frames-is ∙ c.next.ensures.limit ∙ c.messages.invariant.limit
        | in-Err+in_ok-miss-in-Err w ↦ ap (λ (h : Held). h.limit) w.frames-is ∙ w.skip.ensures.limit ∙ c.next.ensures.limit ∙ c.messages.invariant.limit
      ];
      talked = λ start bytes began k.
          talk_given limit start c.match-next.server c.give-given.new.server bytes c.match-next.frames began (written c.match-next.writer) (on start bytes began k) c.give-given.ensures.given;
      sent = elim c.match-next.branch [
        | in-Ok+in_default+in_ok-finished-in_default+in_default-2 w ↦ w.out-is ∙ w.in_ok-finished-in_default.ensures.sent
        | in-Err+in_ok-miss-in-Err w ↦ w.out-is ∙ w.in_ok-miss-in-Err.ensures.sent
      ];
    }
