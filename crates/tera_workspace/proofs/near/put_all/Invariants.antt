use Rattle.std.proofs.Common.{◌≡◌, ◌++◌, ℕ, List, length, map}
use Rattle.std.specs.BTreeSet.{keys}
use Rattle.tera_workspace.specs.Near.{Adds, numbers_in}
use Rattle.tera_workspace.proofs.near.put_all.Given as goal

abbrev pub invariant-loop-name : goal.invariant-loop-name
invariant-loop-name l =
    (done : List (List ℕ)) × (done ++ map (λ n. n.now) l.name-iterator ≡ map (λ n. n.now) (keys l.names))
    × Adds (numbers_in l.root (map (λ j. j.now) l.below.items)) (length l.below.items) done l.fn.near.items l.near.items
