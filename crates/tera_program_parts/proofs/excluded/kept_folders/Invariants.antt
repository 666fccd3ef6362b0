use Rattle.std.proofs.Common.{string_bytes}
use Rattle.tera_program_parts.specs.Excluded.{AreOutside, IsExcluded}
use Rattle.tera_program_parts.proofs.excluded.kept_folders.Given as goal

-- those that are kept, of those that were seen
abbrev pub invariant-loop-one : goal.invariant-loop-one
invariant-loop-one g l = AreOutside (λ one. IsExcluded (g.R.KnownPaths.knows l.rt) l.paths (string_bytes one.folder)) l.yielded l.kept.items
