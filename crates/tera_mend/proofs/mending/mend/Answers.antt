use Rattle.std.proofs.Common.{◌≡◌, ◌∙◌, refl, sym, subst, string_bytes}
use Rattle.std.proofs.lemmas.Result.{IfOk-weaker}
use Rattle.tera_mend.specs.Cuts.{IsCut}
use Rattle.tera_mend.specs.Views.{LeadsTo}
use Rattle.tera_mend.specs.declared.mending.Mended.{Mended}
use Rattle.tera_mend.proofs.Steps.{cut_holds, failed, faultless, uncut_holds}
use Rattle.tera_mend.proofs.mending.mend.Goals as goal

pub loop-turn-preserved : goal.loop-turn-preserved
loop-turn-preserved c =
    let text : c.as_str.result.now ≡ c.as_str-in-Fault.result.now = c.as_str.ensures.value ∙ sym c.as_str-in-Fault.ensures.value in
    let (fails, named) = failed c.args.file.now c.as_str-in-Fault.result.now _ _ c.in-Fault.error c.in_ok-output.ensures c.in-Fault.is text in
    let so_far = subst (LeadsTo c.args.file.now c.args.source.now c.loop-turn.faults.items) (sym c.as_str-in-Fault.ensures.value) c.loop-turn.invariant.0 in
    let leads : LeadsTo c.args.file.now c.args.source.now c.step.new.faults.items (string_bytes c.in-Ok.next) =
    rw c.in-Ok.is at (c.in_ok-next-in-Fault.ensures.leads c.args.source.now so_far fails named)
    in
    (leads, c.in_ok-next-in-Fault.ensures.bound c.loop-turn.invariant.1)

pub returns-in-Tree : goal.returns-in-Tree
returns-in-Tree c =
    let holds =
    uncut_holds c.args.file.now c.args.source.now _ _ c.args.limit.faults _ _ _ _ c.uncut.result c.loop-turn.invariant.0 c.loop-turn.invariant.1
    c.in_ok-output.ensures c.in-Tree.is c.as_str.ensures.value c.uncut.ensures
    in record {
      mends = holds.mends;
      tree = holds.tree;
      clean = holds.clean;
      faulty = faultless _ _ _ _ holds;
      notes = holds.notes;
      bound = holds.bound;
    }

pub returns-in-Err : goal.returns-in-Err
returns-in-Err c =
    let fails = (failed c.args.file.now (string_bytes c.loop-turn.text) _ _ c.in-Fault.error c.in_ok-output.ensures c.in-Fault.is c.as_str.ensures.value).0 in
    let stay : c.step.new.faults.items ≡ c.loop-turn.faults.items = rw c.in-Err.is at c.in_ok-next-in-Fault.ensures.stays in
    let holds = λ (o : Mended) (cut : IsCut c.as_str-in-Err.result.now c.step.new.faults.items o).
    cut_holds c.args.file.now c.args.source.now _ _ c.args.limit.faults _ _ c.in-Fault.error o c.loop-turn.invariant.0 c.loop-turn.invariant.1 stay fails
    c.as_str-in-Err.ensures.value cut
    in record {
      mends = IfOk-weaker _ _ _ (λ o cut. (holds o cut).mends) c.cut_short.ensures;
      tree = IfOk-weaker _ _ _ (λ o cut. (holds o cut).tree) c.cut_short.ensures;
      clean = λ output d. IfOk-weaker _ _ _ (λ o cut. (holds o cut).clean output d) c.cut_short.ensures;
      faulty = IfOk-weaker _ _ _ (λ o cut. faultless _ _ _ _ (holds o cut)) c.cut_short.ensures;
      notes = IfOk-weaker _ _ _ (λ o cut. (holds o cut).notes) c.cut_short.ensures;
      bound = IfOk-weaker _ _ _ (λ o cut. (holds o cut).bound) c.cut_short.ensures;
    }

pub returns-in-Tree-2 : goal.returns-in-Tree-2
returns-in-Tree-2 c =
    let holds =
    uncut_holds c.args.file.now c.args.source.now _ _ c.args.limit.faults _ _ _ _ c.uncut-in-Tree-2.result c.loop-turn.invariant.0 c.loop-turn.invariant.1
    c.in_ok-output-2.ensures c.in-Tree-2.is c.as_str-2.ensures.value c.uncut-in-Tree-2.ensures
    in record {
      mends = holds.mends;
      tree = holds.tree;
      clean = holds.clean;
      faulty = faultless _ _ _ _ holds;
      notes = holds.notes;
      bound = holds.bound;
    }

pub returns-in-Fault-2 : goal.returns-in-Fault-2
returns-in-Fault-2 c =
    let fails =
    (failed c.args.file.now (string_bytes c.loop-turn.text) _ _ c.in-Fault-2.error c.in_ok-output-2.ensures c.in-Fault-2.is c.as_str-2.ensures.value).0
    in
    let holds = λ (o : Mended) (cut : IsCut c.as_str-in-Fault-2.result.now c.loop-turn.faults.items o).
    cut_holds c.args.file.now c.args.source.now _ _ c.args.limit.faults _ _ c.in-Fault-2.error o c.loop-turn.invariant.0 c.loop-turn.invariant.1 refl fails
    c.as_str-in-Fault-2.ensures.value cut
    in record {
      mends = IfOk-weaker _ _ _ (λ o cut. (holds o cut).mends) c.cut_short-in-Fault-2.ensures;
      tree = IfOk-weaker _ _ _ (λ o cut. (holds o cut).tree) c.cut_short-in-Fault-2.ensures;
      clean = λ output d. IfOk-weaker _ _ _ (λ o cut. (holds o cut).clean output d) c.cut_short-in-Fault-2.ensures;
      faulty = IfOk-weaker _ _ _ (λ o cut. faultless _ _ _ _ (holds o cut)) c.cut_short-in-Fault-2.ensures;
      notes = IfOk-weaker _ _ _ (λ o cut. (holds o cut).notes) c.cut_short-in-Fault-2.ensures;
      bound = IfOk-weaker _ _ _ (λ o cut. (holds o cut).bound) c.cut_short-in-Fault-2.ensures;
    }
