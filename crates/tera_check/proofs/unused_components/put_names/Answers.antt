use Rattle.std.proofs.Common.{◌≡◌, ◌∙◌, ap, string_bytes}
use Rattle.std.specs.Prelude.{◌||◌}
use Rattle.std.specs.Str.{bytes_eq}
use Rattle.tera_base.specs.Spanned.{node_of}
use Rattle.tera_ast.specs.declared.ast.ComponentCall.{out-ComponentCall}
use Rattle.tera_rules.specs.Registered.{has_name}
use Rattle.tera_check.proofs.UnusedLemmas.{one_more}
use Rattle.tera_check.proofs.unused_components.put_names.Goals as goal

pub loop-call-preserved : goal.loop-call-preserved
loop-call-preserved c = λ n.
    let call = c.in-Some.call in
    let name = string_bytes (out-ComponentCall (node_of call.now)).name in
    let named : c.as_str.result.now ≡ name = c.as_str.ensures.value ∙ ap (λ m. string_bytes (out-ComponentCall m).name) c.node.ensures in
    one_more n c.loop-call.yielded call (has_name c.args.names.now n) (has_name c.loop-call.names n) (has_name c.put_name.new.names n) (c.loop-call.invariant n)
    (c.in_ok-put_name.ensures n ∙ ap (λ bs. has_name c.loop-call.names n || bytes_eq bs n) named)
