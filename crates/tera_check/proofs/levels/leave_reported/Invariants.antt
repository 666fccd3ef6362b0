use Rattle.std.proofs.Common.{◌≡◌, ◌++◌, map, take, drop}
use Rattle.tera_check.specs.Levels.{in_file, level_of, reported_in}
use Rattle.tera_check.proofs.levels.leave_reported.Given as goal

-- the files before the index have what is reported, and those from there on are as they were
abbrev pub invariant-loop-found : goal.invariant-loop-found
invariant-loop-found l =
    map in_file l.found-items
    ≡ map (reported_in (level_of l.levels)) (take l.found-index (map in_file l.initial.found-items)) ++ drop l.found-index (map in_file l.initial.found-items)
