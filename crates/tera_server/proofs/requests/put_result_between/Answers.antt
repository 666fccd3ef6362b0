use Rattle.std.proofs.Common.{refl, sym, subst}
use Rattle.json.specs.Json.{null}
use Rattle.tera_server.specs.Requests.{IsResultBetween}
use Rattle.tera_server.specs.declared.requests.TextRequest.{TextRequest}
use Rattle.tera_answers.proofs.Tails.{and_so}
use Rattle.tera_server.proofs.requests.put_result_between.Goals as goal

pub returns-in-Symbols-clause-tokens : goal.returns-in-Symbols-clause-tokens
returns-in-Symbols-clause-tokens c =
    and_so c.null.result c.null.ensures.ok
    (λ h. (null, subst (λ (request : TextRequest). IsResultBetween c.args.markers.now request c.args.encoding c.args.text.now null) (sym c.in-Symbols.is) refl, h))

pub returns-in-SemanticTokens-clause-tokens : goal.returns-in-SemanticTokens-clause-tokens
returns-in-SemanticTokens-clause-tokens c =
    and_so c.null-in-SemanticTokens.result c.null-in-SemanticTokens.ensures.ok
    (λ h. (null, subst (λ (request : TextRequest). IsResultBetween c.args.markers.now request c.args.encoding c.args.text.now null) (sym c.in-SemanticTokens.is) refl, h))
