use Rattle.std.proofs.Common.{◌≡◌, ◌||◌, ◌+◌, drop, string_bytes, bytes_eq}
use Rattle.std.specs.List.{list_any}
use Rattle.tera_workspace.specs.Kept.{is_about}
use Rattle.tera_workspace.specs.declared.diagnostics.Related.{Related}
use Rattle.tera_workspace.proofs.touched.is_reported_place_in.Given as goal

abbrev pub invariant-loop-diagnostic : goal.invariant-loop-diagnostic
invariant-loop-diagnostic l = list_any (is_about l.file) l.diagnostic-items ≡ list_any (is_about l.file) (drop l.diagnostic-index l.diagnostic-items)

abbrev pub invariant-loop-related : goal.invariant-loop-related
invariant-loop-related l =
    list_any (is_about l.file) l.diagnostic-items
    ≡ (list_any (λ (r : Related). bytes_eq (string_bytes r.file) l.file) (drop l.related-index l.related-items) || list_any (is_about l.file) (drop (l.diagnostic-index + 1) l.diagnostic-items))
