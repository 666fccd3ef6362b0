use Rattle.std.proofs.Common.{string_bytes}
use Rattle.tera_program_parts.specs.Excluded.{AreOutside, IsExcluded}
use Rattle.tera_program_parts.proofs.excluded.kept_files.Given as goal

-- those that are kept, of those that were seen
abbrev pub invariant-loop-file : goal.invariant-loop-file
invariant-loop-file g l = AreOutside (λ file. IsExcluded (g.R.KnownPaths.knows l.rt) l.paths (string_bytes file)) l.yielded l.kept.items
