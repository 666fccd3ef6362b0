use Rattle.std.proofs.Common.{◌≡◌, ◌++◌, map, take, drop}
use Rattle.tera_check.specs.Levels.{at_level, level_of}
use Rattle.tera_check.proofs.levels.put_levels.Given as goal

-- the findings before the index have their levels, and those from there on are as they were
abbrev pub invariant-loop-finding : goal.invariant-loop-finding
invariant-loop-finding l =
    l.finding-items ≡ map (at_level (level_of l.levels)) (take l.finding-index l.fn.findings.items) ++ drop l.finding-index l.fn.findings.items
