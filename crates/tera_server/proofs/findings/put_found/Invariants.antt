use Rattle.std.proofs.Common.{◌≡◌, ◌++◌, drop, map}
use Rattle.std.specs.List.{flat_map}
use Rattle.tera_workspace.specs.Diagnostics.{diagnostic_view}
use Rattle.tera_server.specs.Findings.{found_if_on}
use Rattle.tera_editor.specs.Settings.{reported_view}
use Rattle.tera_server.proofs.findings.put_found.Given as goal

abbrev pub invariant-loop-diagnostic : goal.invariant-loop-diagnostic
invariant-loop-diagnostic l = record {
  tokens : l.initial.out.tokens ++ flat_map (found_if_on l.publishing.editor.now l.publishing.related (reported_view l.reported)) (map diagnostic_view l.found) ≡ l.out.tokens ++ flat_map (found_if_on l.publishing.editor.now l.publishing.related (reported_view l.reported)) (map diagnostic_view (drop l.diagnostic-index l.found));
  before : l.out.before ≡ l.initial.out.before;
}
