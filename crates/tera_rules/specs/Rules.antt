-- The rules that look at one part of a tree by itself: what they find there depends on nothing else.
use Rattle.std.specs.Prelude.{ℕ, List, ◌++◌}
use Rattle.std.specs.List.{flat_map}
use Rattle.tera_tree.specs.Parts.{PartVal}
use Rattle.tera_tree.specs.Tree.{Output}
use Rattle.tera_findings.specs.Findings.{FindingVal}
use Rattle.tera_rules.specs.RepeatedConditions.{repeated_conditions}
use Rattle.tera_rules.specs.RepeatedKeys.{repeated_keys}
use Rattle.tera_rules.specs.Within.{parts_of}

-- what they find in a part, in the file of this name: a term for each rule
abbrev pub part_findings : List ℕ → PartVal → List FindingVal
part_findings file p = repeated_keys file p ++ repeated_conditions file p

-- .. and in all parts of a tree
abbrev pub small_findings : List ℕ → Output → List FindingVal
small_findings file o = flat_map (part_findings file) (parts_of o)
