use Rattle.std.proofs.Common.{◌≡◌, ◌++◌, drop, map}
use Rattle.std.specs.List.{flat_map}
use Rattle.tera_findings.specs.Findings.{finding_view}
use Rattle.tera_findings.specs.Objects.{object_of}
use Rattle.tera_report.proofs.trees.put_faults.Given as goal

abbrev pub invariant-loop-fault : goal.invariant-loop-fault
invariant-loop-fault l = record {
  tokens : l.initial.out.tokens ++ flat_map (object_of l.file) (map finding_view l.fault-items)
      ≡ l.out.tokens ++ flat_map (object_of l.file) (map finding_view (drop l.fault-index l.fault-items));
  before : l.out.before ≡ l.initial.out.before;
}
