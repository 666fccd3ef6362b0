use Rattle.std.proofs.Common.{refl, sym, ◌∙◌}
use Rattle.tera_outline.proofs.PieceSteps.{argument_found, argument_passed}
use Rattle.tera_outline.proofs.completions.argument_at.Goals as goal
use Rattle.tera_outline.proofs.completions.argument_at.Goals.{then-begins_call+in_default-called_at, else-begins_call}

pub returns-in-Some : goal.returns-in-Some
returns-in-Some c =
    argument_found c.args.last c.args.byte c.pieces.before c.piece-item.result c.pieces.rest.now c.begins_call.result c.in-Some.slot _ c.piece-item.is c.in-len1-up.len_at_least
    c.begins_call.ensures (rw c.if-begins_call.true (sym c.called_at.ensures ∙ c.in-Some.is)) c.pieces.invariant

pub pieces-preserved : goal.pieces-preserved
pieces-preserved c =
    argument_passed c.args.last c.args.byte c.pieces.before c.after_token-before.result c.piece-item.result c.pieces.rest.now c.begins_call.result _ c.piece-item.is c.in-len1-up.len_at_least
    c.begins_call.ensures
    (elim c.if-begins_call.branch [
      | then-begins_call+in_default-called_at w ↦ rw w.if-begins_call.true (sym w.called_at.ensures ∙ w.in_default-called_at.is)
      | else-begins_call w ↦ rw w.if-begins_call.false refl
    ]) c.after_token-before.ensures c.pieces.invariant
