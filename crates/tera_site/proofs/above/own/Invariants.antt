use Rattle.std.proofs.Common.{◌≡◌, ℕ, List, take}
use Rattle.std.specs.Prelude.{◌&&◌, nat_lt, unwrap_or}
use Rattle.std.specs.List.{list_any}
use Rattle.std.specs.Str.{bytes_eq}
use Rattle.tera_site.specs.Views.{has_name, names_of, under_name}
use Rattle.tera_site.proofs.above.own.Given as goal

abbrev pub invariant-loop-block : goal.invariant-loop-block
invariant-loop-block l =
    (n : List ℕ) → has_name l.own n
    ≡ (list_any (bytes_eq n) (names_of (take l.block-index l.block-items)) && nat_lt 0 (unwrap_or (under_name l.counts n) 0))
