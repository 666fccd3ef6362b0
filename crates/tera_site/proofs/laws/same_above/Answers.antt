use Rattle.std.proofs.Common.{◌∙◌, sym}
use Rattle.tera_site.proofs.KeptLemmas.{above_else, above_then, and_first, and_none, same_blocks, same_parent}
use Rattle.tera_site.proofs.laws.same_above.Goals as goal
use Rattle.tera_site.proofs.laws.same_above.Goals.{then-eq, else-eq}

pub returns-then-eq-2 : goal.returns-then-eq-2
returns-then-eq-2 c =
    let a = c.args.a.now in
    let b = c.args.b.now in
    above_then a b c.if-eq.value (elim c.if-eq.branch [
      | then-eq w ↦ w.value-is ∙ w.eq-then-eq.ensures ∙ and_first (same_parent a b) (same_blocks a b) (sym c.eq.ensures ∙ w.if-eq.true)
      | else-eq w ↦ w.value-is ∙ w.if-eq.false ∙ and_none (same_parent a b) (same_blocks a b) (sym c.eq.ensures ∙ w.if-eq.false)
    ]) c.if-eq-2.true

pub returns-else-eq-2 : goal.returns-else-eq-2
returns-else-eq-2 c =
    let a = c.args.a.now in
    let b = c.args.b.now in
    above_else a b c.if-eq.value (elim c.if-eq.branch [
      | then-eq w ↦ w.value-is ∙ w.eq-then-eq.ensures ∙ and_first (same_parent a b) (same_blocks a b) (sym c.eq.ensures ∙ w.if-eq.true)
      | else-eq w ↦ w.value-is ∙ w.if-eq.false ∙ and_none (same_parent a b) (same_blocks a b) (sym c.eq.ensures ∙ w.if-eq.false)
    ]) c.if-eq-2.false
