use Rattle.std.proofs.Common.{◌∙◌, ap, sym}
use Rattle.tera_tags.specs.Known.{located_of}
use Rattle.tera_tags.proofs.KnownLemmas.{all_put, kept_at, places_viewed, put_all, same_place}
use Rattle.tera_tags.proofs.names.copy.Goals as goal

pub entries-preserved : goal.entries-preserved
entries-preserved c =
    let kept = kept_at c.entries.copies c.insert.new.self c.in_ok-clone.field-0 c.copied.result c.in_ok-_before.ensures.updates
    ∙ same_place (located_of c.entries.copies) c.in_ok-clone.ensures.cases c.copied.ensures in
    ap (put_all (λ s. s) c.next.new.self) kept ∙ sym (ap (λ es. put_all (λ s. s) es (located_of c.entries.copies)) c.in-Some.ensures.steps) ∙ c.entries.invariant

pub returns : goal.returns
returns c =
    sym (ap (λ es. put_all (λ s. s) es (located_of c.entries.copies)) c.in-None.ensures.steps.0) ∙ c.entries.invariant
    ∙ all_put (λ s. s) c.args.names.now c.iter-name-items.ensures.ordered ∙ places_viewed c.args.names.now
