use Rattle.std.proofs.Common.{◌+◌, [], drop, ap, ◌∙◌, arith}
use Rattle.tera_tree.specs.Calls.{texts, place_names}
use Rattle.tera_tree.proofs.CallNames.{Name, place_next}
use Rattle.tera_answers.proofs.completions.once_each.Goals as goal

-- what is in no list
no_name : Name
no_name = record { ref_ptr = (0, 0); now = [] }

pub loop-name-preserved : goal.loop-name-preserved
unfolding no_name
loop-name-preserved c =
    ap (λ ks. place_names (texts (drop (c.loop-name.name-index + 1) c.args.names.now)) (texts ks)) c.in_ok-insert.ensures.keys
    ∙ place_next c.args.names.now c.loop-name.name-index no_name c.loop-name.sorted.keys (omega arith)
    ∙ c.loop-name.invariant
