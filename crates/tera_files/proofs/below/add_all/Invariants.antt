use Rattle.std.proofs.Common.{ℕ, List, take, string_bytes}
use Rattle.tera_files.specs.Below.{AddsEach, AreBelow}
use Rattle.tera_files.specs.Names.{texts}
use Rattle.tera_files.specs.Paths.{IsKnown}
use Rattle.tera_files.proofs.below.add_all.Given as goal

abbrev pub invariant-loop-entry : goal.invariant-loop-entry
invariant-loop-entry l = record {
  each : AddsEach (texts l.extensions) (string_bytes l.folder.path) l.initial.below (take l.entry-index l.entries.items) l.below;
  kept : (top itself : List ℕ) → IsKnown top itself (string_bytes l.folder.path) (string_bytes l.folder.itself)
      → AreBelow (texts l.extensions) top itself l.initial.below → AreBelow (texts l.extensions) top itself l.below;
}
