use Rattle.std.proofs.Common.{◌≡◌, ◌∙◌, List, map, option_map, sym, ap, subst}
use Rattle.json_members.specs.Written.{PutsJson}
use Rattle.tera_outline.specs.Signatures.{parameter_view, signature_view}
use Rattle.tera_outline.specs.declared.signatures.Parameter.{Parameter}
use Rattle.tera_answers.specs.Signatures.{active_number, signed_json}
use Rattle.tera_answers.proofs.signatures.put_one.Goals as goal

pub returns-in-Some : goal.returns-in-Some
returns-in-Some c =
    let s = signature_view c.args.signature.now in
    let argument = option_map (λ n. n.now) c.args.argument in
    let given : c.active_number.result ≡ active_number s.parameters argument =
    c.active_number.ensures ∙ ap (λ (ps : List Parameter). active_number (map parameter_view ps) argument) c.as_slice.ensures.value in
    subst (λ active. PutsJson c.put_marked.result c.args.out.now c.put_marked.new.out (signed_json c.args.labels s active)) (sym c.in-Some.is ∙ given)
    c.put_marked.ensures
