use Rattle.std.proofs.Common.{◌≡◌, ℕ, List, take}
use Rattle.std.specs.Prelude.{◌&&◌}
use Rattle.tera_site.specs.Kept.{is_one_of, names_in}
use Rattle.tera_site.specs.Named.{lacks}
use Rattle.tera_site.specs.Views.{around_view, names_of}
use Rattle.tera_site.proofs.kept.those_lacking.Given as goal

abbrev pub invariant-loop-block : goal.invariant-loop-block
invariant-loop-block l =
    (n : List ℕ) → is_one_of (names_in l.lacking) n ≡ (is_one_of (names_of (take l.block-index l.block-items)) n && lacks (around_view l.around) n)
