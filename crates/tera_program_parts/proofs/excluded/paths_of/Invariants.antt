use Rattle.std.proofs.Common.{take}
use Rattle.tera_files.specs.Names.{texts}
use Rattle.tera_program_parts.specs.Excluded.{AreOfPaths}
use Rattle.tera_program_parts.proofs.excluded.paths_of.Given as goal

-- the paths are those so far
abbrev pub invariant-loop-path : goal.invariant-loop-path
invariant-loop-path l = AreOfPaths (take l.path-index (texts l.exclude)) l.paths
