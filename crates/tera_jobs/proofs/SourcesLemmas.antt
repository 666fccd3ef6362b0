-- Sources, one after another.
use Rattle.std.proofs.Common.{◌≡◌, ◌∙◌, ◌<◌, ◌+◌, ℕ, List, length, drop, get_or, sym, ap}
use Rattle.tera_files.specs.declared.reading.Source.{Source}
use Rattle.tera_jobs.proofs.Lists.{drop_next}
use Rattle.tera_jobs.proofs.Same.{same_answers}
use Rattle.tera_jobs.specs.Sources.{Known, with_source, with_sources}

pub source_next : (known more all : Known) (sources : List Source) (i : ℕ) (source : Source) (file : List ℕ) → i < length sources
    → source ≡ get_or sources i source → ((f : List ℕ) → more f ≡ with_source known source f)
    → with_sources known (drop i sources) file ≡ all file → with_sources more (drop (i + 1) sources) file ≡ all file
source_next known more all sources i source file h is step held =
    ap (λ k. with_sources k (drop (i + 1) sources) file) (same_answers more (with_source known source) step)
    ∙ sym (ap (λ ss. with_sources known ss file) (drop_next sources i source h is)) ∙ held
