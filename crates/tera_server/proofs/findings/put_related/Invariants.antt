use Rattle.std.proofs.Common.{◌≡◌, ◌++◌, drop, map}
use Rattle.std.specs.List.{flat_map}
use Rattle.tera_workspace.specs.Diagnostics.{related_view}
use Rattle.tera_server.specs.Findings.{one_related}
use Rattle.tera_server.proofs.findings.put_related.Given as goal

abbrev pub invariant-loop-one : goal.invariant-loop-one
invariant-loop-one l = record {
  tokens : l.initial.out.tokens ++ flat_map (one_related l.publishing.editor.now) (map related_view l.related) ≡ l.out.tokens ++ flat_map (one_related l.publishing.editor.now) (map related_view (drop l.one-index l.related));
  before : l.out.before ≡ l.initial.out.before;
}
