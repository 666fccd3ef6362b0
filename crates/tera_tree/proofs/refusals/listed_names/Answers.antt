use Rattle.std.proofs.Common.{◌++◌, sym, ap, ◌∙◌, append_assoc, append-nil}
use Rattle.tera_tree.proofs.refusals.listed_names.Goals as goal

pub loop-name-preserved : goal.loop-name-preserved
loop-name-preserved c =
    ap (λ ns. ns ++ c.next.new.self) c.in_ok-push.ensures.items
    ∙ append_assoc c.loop-name.names.items _ _
    ∙ ap (λ ns. c.loop-name.names.items ++ ns) (sym c.in-Some.ensures.steps)
    ∙ c.loop-name.invariant

pub returns : goal.returns
returns c = sym (append-nil c.loop-name.names.items) ∙ ap (λ ns. c.loop-name.names.items ++ ns) (sym c.in-None.ensures.steps.0) ∙ c.loop-name.invariant
