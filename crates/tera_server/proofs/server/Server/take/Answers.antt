use Rattle.std.proofs.Common.{◌≡◌, ℕ, List, None, refl, sym, subst}
use Rattle.json_rpc.specs.Ids.{NullId}
use Rattle.json_rpc.specs.Shown.{message_view}
use Rattle.protocol_values.specs.Members.{seen}
use Rattle.tera_server.specs.Requests.{asked_of}
use Rattle.tera_server.specs.Steps.{Step, EditsBy}
use Rattle.tera_server.proofs.HandleLemmas.{same_texts, passed_follows, passed_kept}
use Rattle.tera_server.proofs.RequestLemmas.{answers, answered_keeps}
use Rattle.tera_server.proofs.server.Server.take.Goals as goal

pub returns-in-NotJson-clause-step : goal.returns-in-NotJson-clause-step
returns-in-NotJson-clause-step c =
    let s = c.args.self.now in
    let old = c.args.out.now in
    let t = c.refuse.new.self in
    let now = c.refuse.new.out in
    subst (λ m. Step s (message_view m) old None t now) (sym c.in-NotJson.is) (refl, c.refuse.ensures)

pub returns-in-NotJson-clause-in_step : goal.returns-in-NotJson-clause-in_step
returns-in-NotJson-clause-in_step c = λ texts now edits f.
    let s = c.args.self.now in
    passed_follows NullId s c.refuse.new.self texts now c.refuse.ensures.0 (subst (λ m. EditsBy s (message_view m) texts now) c.in-NotJson.is edits) f

pub returns-in-NotJson-clause-kept : goal.returns-in-NotJson-clause-kept
returns-in-NotJson-clause-kept c = passed_kept NullId c.args.self.now c.refuse.new.self c.refuse.ensures.0

pub returns-in-Invalid-clause-in_step : goal.returns-in-Invalid-clause-in_step
returns-in-Invalid-clause-in_step c = λ texts now edits f.
    let s = c.args.self.now in
    passed_follows c.in-Invalid.id s c.refuse_under.new.self texts now c.refuse_under.ensures.0 (subst (λ m. EditsBy s (message_view m) texts now) c.in-Invalid.is edits) f

pub returns-in-Invalid-clause-kept : goal.returns-in-Invalid-clause-kept
returns-in-Invalid-clause-kept c = passed_kept c.in-Invalid.id c.args.self.now c.refuse_under.new.self c.refuse_under.ensures.0

pub returns-in-Request-clause-step : goal.returns-in-Request-clause-step
returns-in-Request-clause-step c =
    let s = c.args.self.now in
    let t = c.result_of-result.new.self in
    let old = c.args.out.now in
    let now = c.answer.new.self in
    subst (λ m. Step s (message_view m) old None t now) (sym c.in-Request.is)
    (refl, answers c.in-Request.id c.of.result (asked_of c.in-Request.method.now) (seen c.in-Request.params) s t c.result_of-result.result old now c.of.ensures c.result_of-result.ensures c.answer.ensures)

pub returns-in-Request-clause-in_step : goal.returns-in-Request-clause-in_step
returns-in-Request-clause-in_step c = λ texts now edits f.
    let s = c.args.self.now in
    let t = c.result_of-result.new.self in
    let same : (n : List ℕ) → now n ≡ texts n = subst (λ m. EditsBy s (message_view m) texts now) c.in-Request.is edits in
    same_texts texts now t same ((answered_keeps c.in-Request.id c.of.result (seen c.in-Request.params) s t c.result_of-result.result c.result_of-result.ensures).1 texts f)

pub returns-in-Request-clause-kept : goal.returns-in-Request-clause-kept
returns-in-Request-clause-kept c =
    (answered_keeps c.in-Request.id c.of.result (seen c.in-Request.params) c.args.self.now c.result_of-result.new.self c.result_of-result.result c.result_of-result.ensures).0
