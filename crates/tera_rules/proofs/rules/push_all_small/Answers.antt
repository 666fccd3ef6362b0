use Rattle.std.proofs.Common.{◌++◌, ap, inl, map}
use Rattle.std.specs.List.{flat_map}
use Rattle.tera_findings.specs.Findings.{finding_view}
use Rattle.tera_rules.specs.RepeatedConditions.{kept}
use Rattle.tera_rules.specs.Rules.{part_findings}
use Rattle.tera_rules.specs.Within.{all_parts}
use Rattle.tera_rules.proofs.ConditionsLemmas.{popped}
use Rattle.tera_rules.proofs.Pending.{emptied}
use Rattle.tera_rules.proofs.RulesLemmas.{all_taken, next_part}
use Rattle.tera_rules.proofs.rules.push_all_small.Goals as goal

pub loop-part-init : goal.loop-part-init
loop-part-init c = (
  ap (λ ps. map finding_view c.args.findings.now.items ++ flat_map (part_findings c.args.file.now) (all_parts ps)) c.in_ok-left.ensures,
  inl c.none-chain.ensures,
)

pub take-requires : goal.take-requires
take-requires c = popped (kept c.loop-part.chain) c.loop-part.left.items c.pop.new.self.items c.in-Some.part c.in-Some.ensures.items c.loop-part.invariant.1

pub loop-part-preserved : goal.loop-part-preserved
loop-part-preserved c = (
  next_part c.args.file.now c.loop-part.left.items c.pop.new.self.items c.in-Some.part _ _ _ c.in-Some.ensures.items c.loop-part.invariant.0 c.in_ok-take-in-Some.ensures.findings,
  c.in_ok-take-in-Some.ensures.chain,
)

pub returns-in-None : goal.returns-in-None
returns-in-None c =
    all_taken c.args.file.now c.loop-part.left.items _ _ c.loop-part.invariant.0
    (emptied _ _ _ c.in-None.ensures.cases.0 c.in-None.ensures.items c.in-None.ensures.rest)
