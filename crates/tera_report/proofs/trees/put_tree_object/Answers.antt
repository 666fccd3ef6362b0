use Rattle.json_members.proofs.Putting.{then_all}
use Rattle.tera_report.specs.Trees.{tree_object}
use Rattle.tera_report.proofs.trees.put_tree_object.Goals as goal

pub returns : goal.returns
unfolding tree_object
returns c =
    then_all _ c.in_ok-put_tokens.ensures (then_all _ c.in_ok-put_tree_or_null.ensures
    (then_all _ (rw c.as_str.ensures.value at c.in_ok-put_faults.ensures) (rw c.has_more.ensures at c.put_tokens-2.ensures)))
