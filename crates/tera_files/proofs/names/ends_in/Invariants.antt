use Rattle.std.proofs.Common.{◌<◌, ℕ, [], get_or}
use Rattle.tera_files.specs.Names.{HasExtension, texts}
use Rattle.tera_files.proofs.names.ends_in.Given as goal

abbrev pub invariant-loop-extension : goal.invariant-loop-extension
invariant-loop-extension l = (k : ℕ) → k < l.extension-index → ¬ (HasExtension l.name (get_or (texts l.extensions) k []))
