use Rattle.std.proofs.Common.{◌≡◌, ◌∙◌, List, map, None, Some, option_map, refl, sym, ap, subst}
use Rattle.std.specs.List.{find}
use Rattle.json.specs.Json.{null}
use Rattle.tera_outline.specs.Calls.{in_call_view}
use Rattle.tera_outline.specs.Names.{Named, holds, name_view, names_of}
use Rattle.tera_outline.specs.Pieces.{part_of}
use Rattle.tera_outline.specs.declared.names.Name.{Name}
use Rattle.tera_answers.specs.Signatures.{IsSignatureOf}
use Rattle.tera_answers.proofs.Tails.{and_so}
use Rattle.tera_answers.proofs.signatures.put_called.Goals as goal

pub returns-clause-tokens : goal.returns-clause-tokens
returns-clause-tokens c =
    let argument = (in_call_view c.args.place).argument in
    let all = ap (map name_view) c.as_slice.ensures.value ∙ c.in_ok-names.ensures in
    let named : None ≡ option_map (λ (n : Named). n.text) (find (holds c.args.place.call) (names_of (map part_of c.args.pieces.now))) =
    ap (option_map (λ n. n.now)) (sym c.in-None.is) ∙ (c.name_holding.ensures ∙ ap (λ (ns : List Named). option_map (λ (n : Named). n.text) (find (holds c.args.place.call) ns)) all) in
    and_so c.null.result c.null.ensures.ok (λ written. (null, subst (λ o. IsSignatureOf c.args.labels c.args.workspace.now o argument null) named refl, written))

pub returns-in-Some-clause-tokens : goal.returns-in-Some-clause-tokens
returns-in-Some-clause-tokens c =
    let argument = (in_call_view c.args.place).argument in
    let all = ap (map name_view) c.as_slice.ensures.value ∙ c.in_ok-names.ensures in
    let named : Some c.in-Some.name.now ≡ option_map (λ (n : Named). n.text) (find (holds c.args.place.call) (names_of (map part_of c.args.pieces.now))) =
    ap (option_map (λ n. n.now)) (sym c.in-Some.is) ∙ (c.name_holding.ensures ∙ ap (λ (ns : List Named). option_map (λ (n : Named). n.text) (find (holds c.args.place.call) ns)) all) in
    and_so c.put_named.result c.put_named.ensures.tokens (λ h. let (j, is, written) = h in (j, subst (λ o. IsSignatureOf c.args.labels c.args.workspace.now o argument j) named is, written))
