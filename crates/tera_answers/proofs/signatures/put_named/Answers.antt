use Rattle.std.proofs.Common.{None, Some, option_map, refl, subst}
use Rattle.json.specs.Json.{null}
use Rattle.tera_outline.specs.Signatures.{signature_view}
use Rattle.tera_answers.specs.Signatures.{IsSignedBy, signature_json}
use Rattle.tera_answers.proofs.Tails.{and_so}
use Rattle.tera_answers.proofs.signatures.put_named.Goals as goal

pub returns-in-None-clause-tokens : goal.returns-in-None-clause-tokens
returns-in-None-clause-tokens c =
    and_so c.null.result c.null.ensures.ok (λ written. (
      null,
      (None, subst (λ s. IsSignedBy c.args.workspace.now c.args.name.now (option_map signature_view s)) c.in-None.is c.in_ok-signature.ensures, refl),
      written,
    ))

pub returns-in-Some-clause-tokens : goal.returns-in-Some-clause-tokens
returns-in-Some-clause-tokens c =
    let s = signature_view c.in-Some.signature in
    and_so c.put_one.result c.put_one.ensures.tokens (λ written. (
      signature_json c.args.labels s (option_map (λ n. n.now) c.args.argument),
      (Some s, subst (λ s. IsSignedBy c.args.workspace.now c.args.name.now (option_map signature_view s)) c.in-Some.is c.in_ok-signature.ensures, refl),
      written,
    ))
