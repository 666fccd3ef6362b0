use Rattle.std.proofs.Common.{refl, sym, subst}
use Rattle.std.proofs.lemmas.Result.{MatchResult-weaker}
use Rattle.json.specs.Json.{null}
use Rattle.protocol_values.specs.Members.{seen}
use Rattle.tera_server.specs.Notes.{document_in, uri_given}
use Rattle.tera_server.specs.Requests.{HasRead, IsPut, IsResultWithin, range_given}
use Rattle.tera_server.proofs.RequestLemmas.{due_before}
use Rattle.tera_server.proofs.server.Server.put_result.Goals as goal

pub returns-in_ok-null-in-Shutdown-clause-result : goal.returns-in_ok-null-in-Shutdown-clause-result
returns-in_ok-null-in-Shutdown-clause-result c = (
  null,
  subst (λ a. IsResultWithin a c.args.self.now (seen c.args.params) null c.args.self.now) (sym c.in-Shutdown.is) (refl, refl),
  c.in_ok-null-in-Shutdown.ensures.ok,
)

pub returns-in-OfText-clause-result : goal.returns-in-OfText-clause-result
returns-in-OfText-clause-result c =
    let s = c.args.self.now in
    let params = seen c.args.params in
    subst (λ a. IsPut a s params c.args.out.now.tokens c.put_result_of_document.result s c.put_result_of_document.new.out.tokens) (sym c.in-OfText.is)
    (MatchResult-weaker c.put_result_of_document.result c.put_result_of_document.ensures.result
    (λ x given. let (j, are, written) = given in (j, (are, refl), written))
    (λ code why. (refl, why)))

pub returns-in_ok-read-in-Actions-clause-result : goal.returns-in_ok-read-in-Actions-clause-result
returns-in_ok-read-in-Actions-clause-result c =
    let s = c.args.self.now in
    let params = seen c.args.params in
    let w = c.read-in-Actions.new.self in
    let read = c.in_ok-read-in-Actions.ensures in
    let has : HasRead s (record s { workspace = w }) = record { rest = refl; encoding = read.encoding; documents = read.documents; reported = read.reported; kept = read.kept } in
    subst (λ a. IsPut a s params c.args.out.now.tokens c.put_actions_within.result (record s { workspace = w }) c.put_actions_within.new.out.tokens) (sym c.in-Actions.is)
    (MatchResult-weaker c.put_actions_within.result c.put_actions_within.ensures.result
    (λ x given. let (j, are, written) = given in (j, record { read = read.read; reported = are; stays = has }, written))
    (λ code why. (has, due_before (range_given params) (uri_given (document_in params)) s w code read.documents why)))
