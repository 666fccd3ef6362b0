use Rattle.std.proofs.Common.{◌≡◌, ◌++◌, ◌∙◌, ap, refl}
use Rattle.tera_mend.proofs.Steps.{failed}
use Rattle.tera_mend.proofs.lone.fault_alone.Goals as goal

pub returns-then-begins_before : goal.returns-then-begins_before
returns-then-begins_before c =
    let text : c.as_str.result.now ≡ c.args.tag.now ++ c.args.closing.now =
    c.as_str.ensures.value ∙ c.in_ok-push_str.ensures.bytes ∙ ap (λ t. t ++ c.args.closing.now) c.in_ok-alone.ensures.ok
    in
    let (fails, named) = failed _ _ _ _ c.in-Fault.error c.in_ok-read.ensures c.in-Fault.is text in record {
      closing = c.args.closing.now;
      fails = fails;
      in_tag = c.if-begins_before.ensures.0 refl;
      notes = named;
    }
