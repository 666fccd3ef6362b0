use Rattle.std.proofs.lemmas.Result.{IfOk-weaker}
use Rattle.tera_tree.specs.Parts.{part_view, parts_view}
use Rattle.tera_rules.specs.RepeatedConditions.{kept}
use Rattle.tera_rules.proofs.ConditionsLemmas.{taken_chain}
use Rattle.tera_rules.proofs.rules.take.Goals as goal

pub returns-clause-chain : goal.returns-clause-chain
returns-clause-chain c =
    IfOk-weaker c.push_inside.result _ _ (λ _ inside.
    taken_chain (kept c.push_found_in.new.chain) (parts_view c.args.left.now.items) (parts_view c.push_inside.new.parts.items) (part_view c.args.part) inside c.in_ok-push_found_in.ensures.chain)
    c.push_inside.ensures
