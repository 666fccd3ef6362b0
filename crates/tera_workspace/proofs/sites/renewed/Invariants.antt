use Rattle.std.proofs.Common.{◌+◌, ◌++◌, ℕ, List, length, map, string_bytes}
use Rattle.tera_workspace.specs.KeptSites.{Renews, around_file}
use Rattle.tera_workspace.proofs.sites.renewed.Given as goal

abbrev pub invariant-files : goal.invariant-files
invariant-files l =
    (names : List (List ℕ)) → Renews (map around_file l.older) (map around_file l.newer) names
    → Renews (map around_file l.before.items) (map around_file l.after.items) (map string_bytes l.files.items ++ names)

abbrev pub decreases-files : goal.decreases-files
decreases-files l = length l.older + length l.newer
