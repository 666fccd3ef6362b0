use Rattle.std.proofs.Common.{◌≡◌, ℕ, Some, length, slice_get}
use Rattle.tera_check.specs.declared.found.Found.{Found}
use Rattle.tera_fixes.specs.Components.{AreMeanings}
use Rattle.tera_fixes.specs.Names.{component_names}
use Rattle.tera_jobs.specs.Helps.{Help, IsHelpOf}
use Rattle.tera_jobs.proofs.helps.helps_of.Given as goal

abbrev pub invariant-loop-number : goal.invariant-loop-number
invariant-loop-number l = record {
  each : length l.helps.items ≡ l.number;
  are : (i : ℕ) (help : Help) → slice_get l.helps.items i ≡ Some help → (found : Found) → slice_get l.all i ≡ Some found
      → IsHelpOf l.catalogue (slice_get l.templates.items i) (slice_get l.sources i) found help;
  meant : AreMeanings (component_names l.catalogue) l.meanings;
}
