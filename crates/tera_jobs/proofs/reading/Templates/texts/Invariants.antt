use Rattle.std.proofs.Common.{◌≡◌, ℕ, List, drop}
use Rattle.terminal_text.specs.Files.{source_of}
use Rattle.tera_jobs.specs.Sources.{nothing, with_sources}
use Rattle.tera_jobs.proofs.reading.Templates.texts.Given as goal

abbrev pub invariant-loop-source : goal.invariant-loop-source
invariant-loop-source l =
    (file : List ℕ) → with_sources (source_of l.texts) (drop l.source-index l.source-items) file ≡ with_sources nothing l.source-items file
