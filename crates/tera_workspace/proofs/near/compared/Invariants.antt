use Rattle.std.proofs.Common.{map}
use Rattle.tera_site.specs.Kept.{names_in}
use Rattle.tera_workspace.specs.KeptSites.{names_before, said_in, said_of}
use Rattle.tera_workspace.proofs.NearSteps.{OtherSoFar, UseSoFar}
use Rattle.tera_workspace.proofs.near.compared.Given as goal

abbrev pub invariant-loop-number : goal.invariant-loop-number
invariant-loop-number l =
    OtherSoFar (map said_of l.kept.items) (map said_in (map (λ j. j.now) l.below.items)) l.number l.other
    × UseSoFar (names_before l.before l.others) (names_in l.others) (map said_of l.kept.items) l.number l.other
