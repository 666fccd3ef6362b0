use Rattle.std.proofs.Common.{◌≡◌, ℕ, List, take}
use Rattle.std.specs.Prelude.{◌&&◌}
use Rattle.tera_site.specs.Kept.{is_one_of, names_in}
use Rattle.tera_site.specs.Views.{around_view, names_of}
use Rattle.tera_site.proofs.kept.those_back.Given as goal

abbrev pub invariant-loop-name : goal.invariant-loop-name
invariant-loop-name l =
    (n : List ℕ) → is_one_of (names_in l.back) n ≡ (is_one_of (names_of (take l.name-index l.name-items)) n && (around_view l.around).comes_back n)
