use Rattle.std.proofs.Common.{◌≡◌, ◌∙◌, ◌++◌, map, refl, ap, rules, string_bytes}
use Rattle.std.specs.List.{flat_map}
use Rattle.tera_base.specs.Spanned.{node_of, span_of}
use Rattle.tera_ast.specs.declared.ast.ComponentCall.{out-ComponentCall}
use Rattle.tera_check.specs.Alike.{name_called}
use Rattle.tera_rules.specs.Pending.{seen}
use Rattle.tera_workspace.proofs.CallLemmas.{call_pushed}
use Rattle.tera_workspace.proofs.LeftLemmas.{left_next, left_last}
use Rattle.tera_workspace.proofs.judged.push_called.Goals as goal

pub loop-call-preserved : goal.loop-call-preserved
loop-call-preserved c =
    let items = c.deref-call-items.result.now in
    let one = c.call-item.result in
    let done = c.loop-call.names.items in
    let same : string_bytes c.in_ok-clone.field-0 ≡ string_bytes (out-ComponentCall c.node.result.now).name = search rules in
    let pushed : map string_bytes c.push.new.self.items ≡ map string_bytes done ++ name_called (seen one) =
    call_pushed done c.push.new.self.items c.in_ok-clone.field-0 (node_of one.now) (span_of one.now) c.in_ok-push.ensures.items
    (same ∙ ap (λ m. string_bytes (out-ComponentCall m).name) c.node.ensures) in
    left_next (λ cs. flat_map name_called (map seen cs)) (map string_bytes c.args.names.now.items ++ flat_map name_called (map seen items)) (map string_bytes done) (map string_bytes c.push.new.self.items) (name_called (seen one)) items c.loop-call.call-index one
    c.loop-call-test.true c.call-item.is refl pushed c.loop-call.invariant

pub returns : goal.returns
returns c =
    let items = c.deref-call-items.result.now in
    left_last (λ cs. flat_map name_called (map seen cs)) (map string_bytes c.args.names.now.items ++ flat_map name_called (map seen items)) (map string_bytes c.loop-call.names.items) items c.loop-call.call-index
    c.loop-call-test.false refl c.loop-call.invariant
    ∙ ap (λ cs. map string_bytes c.args.names.now.items ++ flat_map name_called (map seen cs)) c.deref-call-items.ensures.value
