use Rattle.std.proofs.Common.{◌≡◌, length}
use Rattle.settings_files.proofs.places.known_paths.Given as goal

-- as many as the paths so far
abbrev pub invariant-loop-path : goal.invariant-loop-path
invariant-loop-path g l = length l.known.items ≡ l.path-index
