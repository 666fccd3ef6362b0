use Rattle.tera_tree.specs.Outputs.{output_view}
use Rattle.tera_rules.proofs.Pending.{all_found, begun, emptied}
use Rattle.tera_rules.proofs.calls.calls_of.Goals as goal

pub loop-part-init : goal.loop-part-init
loop-part-init c =
    let o = output_view c.args.output.now in
    begun _ _ o.definitions o.nodes c.in_ok-left.ensures c.new-calls.ensures.items

pub returns-in-None : goal.returns-in-None
returns-in-None c =
    all_found c.loop-part.left.items c.loop-part.calls.items _ _ c.loop-part.invariant (emptied _ _ _ c.in-None.ensures.cases.0 c.in-None.ensures.items c.in-None.ensures.rest) c.turned.ensures
