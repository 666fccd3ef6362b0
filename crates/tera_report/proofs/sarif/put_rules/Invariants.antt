use Rattle.std.proofs.Common.{◌≡◌, ◌++◌, drop}
use Rattle.std.specs.List.{flat_map}
use Rattle.tera_report.specs.Logs.{rule}
use Rattle.tera_report.proofs.sarif.put_rules.Given as goal

abbrev pub invariant-loop-kind : goal.invariant-loop-kind
invariant-loop-kind l = record {
  tokens : l.initial.out.tokens ++ flat_map rule l.kinds ≡ l.out.tokens ++ flat_map rule (drop l.kind-index l.kinds);
  before : l.out.before ≡ l.initial.out.before;
}
