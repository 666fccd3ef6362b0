use Rattle.std.proofs.Common.{map}
use Rattle.tera_site.specs.Kept.{kept_page}
use Rattle.tera_site.specs.Sites.{used_names}
use Rattle.tera_workspace.specs.KeptSites.{said_in}
use Rattle.tera_workspace.specs.Names.{contains_name}
use Rattle.tera_workspace.proofs.NearSteps.{NearSoFar}
use Rattle.tera_workspace.proofs.near.near_of.Given as goal

abbrev pub invariant-loop-number : goal.invariant-loop-number
invariant-loop-number l = NearSoFar l.root (map said_in (map (λ j. j.now) l.below.items)) l.at (used_names (kept_page l.before)) (contains_name l.names) l.number l.near.items
