use Rattle.std.proofs.Common.{◌≡◌, ◌∙◌, ap, string_bytes}
use Rattle.std.specs.Option.{option_map}
use Rattle.tera_base.specs.Spanned.{node_of}
use Rattle.tera_ast.specs.declared.ast.ComponentCall.{out-ComponentCall}
use Rattle.tera_rules.specs.Judged.{known_view}
use Rattle.tera_check.specs.Named.{known_in}
use Rattle.tera_rules.proofs.JudgedLemmas.{judged_call}
use Rattle.tera_check.proofs.checked.push_found_in_call.Goals as goal

pub returns : goal.returns
returns c =
    let catalogue = known_in c.args.catalogue.now in
    let named : c.as_str.result.now ≡ string_bytes (out-ComponentCall (node_of c.args.call.now)).name =
    c.as_str.ensures.value ∙ ap (λ m. string_bytes (out-ComponentCall m).name) c.node.ensures in
    let known : option_map (λ k. known_view k.now) c.known_as-known.result ≡ catalogue (string_bytes (out-ComponentCall (node_of c.args.call.now)).name) =
    c.known_as-known.ensures ∙ ap catalogue named in
    rw (judged_call c.args.file.now catalogue c.args.call.now, ← known) c.push_call.ensures
