use Rattle.std.proofs.Common.{◌∙◌, ap, sym}
use Rattle.tera_tags.specs.Known.{grouped_of, located_of}
use Rattle.tera_tags.proofs.KnownLemmas.{all_put, group_kept, put_all, same_group}
use Rattle.tera_tags.proofs.names.copy_groups.Goals as goal

pub entries-preserved : goal.entries-preserved
entries-preserved c =
    let kept = group_kept c.entries.copies c.insert.new.self c.in_ok-component.component c.in_ok-copy.field-0 c.in_ok-_before.ensures.updates
    ∙ same_group (grouped_of c.entries.copies) c.in_ok-component.ensures.cases c.in_ok-copy.ensures in
    ap (put_all located_of c.next.new.self) kept ∙ sym (ap (λ es. put_all located_of es (grouped_of c.entries.copies)) c.in-Some.ensures.steps) ∙ c.entries.invariant

pub entries-preserved-in_ok-_before : goal.entries-preserved-in_ok-_before
entries-preserved-in_ok-_before c =
    let kept = group_kept c.entries.copies c.insert.new.self c.in_ok-component.component c.in_ok-copy.field-0 c.in_ok-_before.ensures.updates
    ∙ same_group (grouped_of c.entries.copies) c.in_ok-component.ensures.cases c.in_ok-copy.ensures in
    ap (put_all located_of c.next.new.self) kept ∙ sym (ap (λ es. put_all located_of es (grouped_of c.entries.copies)) c.in-Some.ensures.steps) ∙ c.entries.invariant

pub returns : goal.returns
returns c =
    sym (ap (λ es. put_all located_of es (grouped_of c.entries.copies)) c.in-None.ensures.steps.0) ∙ c.entries.invariant
    ∙ all_put located_of c.args.groups.now c.iter-component-items.ensures.ordered
