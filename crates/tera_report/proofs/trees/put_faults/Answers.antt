use Rattle.std.proofs.Common.{◌≡◌, ◌∙◌, ◌+◌, ◌∷◌, ◌++◌, List, drop, map, refl, sym, ap, append_assoc}
use Rattle.std.specs.List.{flat_map}
use Rattle.json.specs.Token.{Token}
use Rattle.json_members.proofs.Putting.{then_all, then_each, token}
use Rattle.tera_findings.specs.Findings.{FindingVal, finding_view}
use Rattle.tera_findings.specs.Objects.{object_of}
use Rattle.tera_findings.specs.declared.finding.Finding.{Finding}
use Rattle.tera_report.proofs.Pieces.{next_is}
use Rattle.tera_report.proofs.trees.put_faults.Goals as goal

-- what is written of one more
one_more : (text : FindingVal → List Token) (all before after : List Token) (fs more : List Finding) (f : Finding) → fs ≡ f ∷ more
    → all ≡ before ++ flat_map text (map finding_view fs) → after ≡ before ++ text (finding_view f) → all ≡ after ++ flat_map text (map finding_view more)
one_more text all before after fs more f next held step =
    held ∙ ap (λ (xs : List Finding). before ++ flat_map text (map finding_view xs)) next
    ∙ sym (append_assoc before (text (finding_view f)) (flat_map text (map finding_view more)))
    ∙ ap (λ (b : List Token). b ++ flat_map text (map finding_view more)) (sym step)

pub loop-fault-preserved : goal.loop-fault-preserved
loop-fault-preserved c =
    let held = c.loop-fault.invariant in
    let items : List Finding = c.deref-fault-items.result.now in
    let fault : Finding = c.fault-item.result in
    record {
      tokens = one_more (object_of c.args.file.now) _ c.loop-fault.out.tokens c.put_object.new.writer.tokens (drop c.loop-fault.fault-index items) (drop (c.loop-fault.fault-index + 1) items) fault
          (next_is items c.loop-fault.fault-index fault c.loop-fault-test.true c.fault-item.is) held.tokens c.in_ok-put_object.ensures.tokens;
      before = c.put_object.ensures.before ∙ held.before;
    }

pub returns : goal.returns
returns c =
    let faults : List Finding = c.deref-fault-items.result.now in
    let held = c.loop-fault.invariant in
    rw (sym c.deref-fault-items.ensures.value)
    (then_all _ c.in_ok-begin_array.ensures
    (then_each _ (λ (fs : List Finding). flat_map (object_of c.args.file.now) (map finding_view fs)) faults c.loop-fault.fault-index refl c.loop-fault-test.false held.before held.tokens
    (token _ c.end_array.ensures)))
