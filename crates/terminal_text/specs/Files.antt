-- Sources by the names of their files.
use Rattle.std.specs.BTreeMap.{get_by}
use Rattle.std.specs.Cmp.Lexicographic.{slice_cmp}
use Rattle.std.specs.Ordering.{nat_cmp}
use Rattle.std.specs.Prelude.{ℕ, List, Option}
use Rattle.terminal_text.specs.declared.source.Sources.{Sources}

-- the source of the file of that name
abbrev pub source_of : Sources → List ℕ → Option (List ℕ)
source_of sources file = get_by (λ k. slice_cmp nat_cmp file k.now) sources.texts
