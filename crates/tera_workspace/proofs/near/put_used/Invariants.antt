use Rattle.std.proofs.Common.{length, map, take}
use Rattle.tera_site.specs.Views.{names_of}
use Rattle.tera_workspace.specs.Near.{Adds, numbers_in}
use Rattle.tera_workspace.proofs.near.put_used.Given as goal

abbrev pub invariant-loop-name : goal.invariant-loop-name
invariant-loop-name l =
    Adds (numbers_in l.root (map (λ j. j.now) l.below.items)) (length l.below.items) (names_of (take l.name-index l.name-items)) l.fn.near.items l.near.items
