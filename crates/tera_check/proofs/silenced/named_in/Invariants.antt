use Rattle.std.proofs.Common.{◌≡◌, drop, bytes_eq}
use Rattle.std.specs.List.{find}
use Rattle.tera_findings.specs.Findings.{kind_name}
use Rattle.tera_check.proofs.silenced.named_in.Given as goal

abbrev pub invariant-loop-kind : goal.invariant-loop-kind
invariant-loop-kind l = find (λ kind. bytes_eq (kind_name kind) l.rule) (drop l.kind-index l.kinds) ≡ find (λ kind. bytes_eq (kind_name kind) l.rule) l.kinds
