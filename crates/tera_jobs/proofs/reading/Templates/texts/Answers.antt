use Rattle.std.proofs.Common.{◌∙◌, cond, Some}
use Rattle.std.specs.Str.{bytes_eq}
use Rattle.terminal_text.specs.Files.{source_of}
use Rattle.tera_jobs.specs.Sources.{nothing, with_sources}
use Rattle.tera_jobs.proofs.SourcesLemmas.{source_next}
use Rattle.tera_jobs.proofs.reading.Templates.texts.Goals as goal

pub loop-source-preserved : goal.loop-source-preserved
loop-source-preserved c = λ file.
    let all = c.deref-source-items.result.now in
    let known = source_of c.loop-source.texts in
    source_next known (source_of c.add.new.self) (with_sources nothing all) all c.loop-source.source-index c.source-item.result file
    c.loop-source-test.true c.source-item.is
    (λ f. c.in_ok-add.ensures f ∙ (λ i. cond (bytes_eq (c.as_str.ensures.value i) f) (Some (c.as_str-in-loop-source.ensures.value i)) (known f)))
    (c.loop-source.invariant file)
