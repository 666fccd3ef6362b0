use Rattle.std.proofs.Common.{◌≡◌, ◌++◌, ℕ, List, Option, length, map}
use Rattle.tera_ast.specs.View.{name_view}
use Rattle.tera_site.specs.Sites.{number_from}
use Rattle.tera_site.specs.Views.{under_name}
use Rattle.tera_site.proofs.site.numbers_of.Given as goal

abbrev pub invariant-names : goal.invariant-names
invariant-names l =
    (done : List (Option (List ℕ))) × (map name_view l.left ++ done ≡ map name_view l.names.items)
    × ((n : List ℕ) → under_name l.numbers n ≡ number_from (length l.left) done n)

abbrev pub decreases-names : goal.decreases-names
decreases-names l = length l.left
