use Rattle.std.proofs.Common.{◌≡◌, ◌+◌, ℕ, List, take}
use Rattle.std.specs.Prelude.{unwrap_or}
use Rattle.std.specs.List.{count_by}
use Rattle.std.specs.Str.{bytes_eq}
use Rattle.tera_site.specs.Views.{names_of, under_name}
use Rattle.tera_site.proofs.above.count.Given as goal

abbrev pub invariant-loop-block : goal.invariant-loop-block
invariant-loop-block l = (n : List ℕ) → unwrap_or (under_name l.counts n) 0 ≡ count_by (bytes_eq n) (names_of (take l.block-index l.block-items)) + unwrap_or (under_name l.fn.counts n) 0
