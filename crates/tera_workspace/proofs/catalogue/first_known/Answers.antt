use Rattle.std.proofs.Common.{◌≡◌, ◌∙◌, ◌<◌, length, get_or, true, false, Some, sym, ap, arith, string_bytes, bytes_eq}
use Rattle.tera_check.specs.Named.{defined_by, first_named}
use Rattle.tera_workspace.specs.Kept.{templates_of}
use Rattle.tera_workspace.proofs.NeededLemmas.{document_begun, is_this, not_this, all_begun}
use Rattle.tera_workspace.proofs.catalogue.first_known.Goals as goal

pub loop-at-init : goal.loop-at-init
loop-at-init c =
    let all = c.args.all.now.items in
    let number = c.loop-number.number in
    let j = c.judged-item.result in
    let within : number < length all = omega (arith, ap length c.deref-judged-items.ensures.value) in
    let is : j ≡ get_or all number j = c.judged-item.is ∙ ap (λ js. get_or js number j) c.deref-judged-items.ensures.value in
    document_begun c.args.name.now all number j c.definitions_of-definition-items.result.now (first_named c.args.name.now (defined_by 0 (templates_of all)))
    within is c.definitions_of-definition-items.ensures c.loop-number.invariant

pub loop-at-preserved : goal.loop-at-preserved
loop-at-preserved c =
    let all = c.args.all.now.items in
    let d = c.definition-item.result in
    let other : bytes_eq (string_bytes d.name) c.args.name.now ≡ false = ap (λ m. bytes_eq m c.args.name.now) (sym c.as_str.ensures.value) ∙ (sym c.eq.ensures ∙ c.if-eq.false) in
    not_this c.args.name.now c.loop-number.number c.judged-item.result.template c.definitions_of-definition-items.result.now c.loop-at.at d
    (first_named c.args.name.now (defined_by 0 (templates_of all))) _ c.loop-at-test.true c.definition-item.is c.loop-at.invariant other

pub loop-number-preserved : goal.loop-number-preserved
loop-number-preserved c =
    all_begun c.args.name.now c.loop-number.number c.judged-item.result.template c.definitions_of-definition-items.result.now c.loop-at.at
    (first_named c.args.name.now (defined_by 0 (templates_of c.args.all.now.items))) _ c.loop-at-test.false c.loop-at.invariant

pub returns-then-eq : goal.returns-then-eq
returns-then-eq c =
    let d = c.definition-item.result in
    let this : bytes_eq (string_bytes d.name) c.args.name.now ≡ true = ap (λ m. bytes_eq m c.args.name.now) (sym c.as_str.ensures.value) ∙ (sym c.eq.ensures ∙ c.if-eq.true) in
    ap Some c.known_at.ensures
    ∙ sym (is_this c.args.name.now c.loop-number.number c.judged-item.result.template c.definitions_of-definition-items.result.now c.loop-at.at d
    (first_named c.args.name.now (defined_by 0 (templates_of c.args.all.now.items))) _ c.loop-at-test.true c.definition-item.is c.loop-at.invariant this)
