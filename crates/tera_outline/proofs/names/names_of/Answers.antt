use Rattle.std.proofs.Common.{◌∷◌, [], map, refl, sym}
use Rattle.std.proofs.lemmas.List.{append-nil, map-append}
use Rattle.tera_outline.specs.Names.{name_view}
use Rattle.tera_outline.proofs.PieceSteps.{names_step}
use Rattle.tera_outline.proofs.names.names_of.Goals as goal
use Rattle.tera_outline.proofs.names.names_of.Goals.{in-Some+in_ok-name+in_ok-push, in_default-name_after}

pub pieces-preserved : goal.pieces-preserved
pieces-preserved c =
    names_step c.pieces.before c.after_token-before.result c.piece-item.result c.pieces.rest.now c.name_after.result
    (map name_view c.pieces.names.items) (map name_view c.match-name_after.names.items) _ c.piece-item.is c.in-len1-up.len_at_least c.name_after.ensures c.after_token-before.ensures
    (elim c.match-name_after.branch [
      | in-Some+in_ok-name+in_ok-push w ↦ rw (w.names-is, w.in-Some.is, w.in_ok-push.ensures.items, map-append name_view c.pieces.names.items (w.in_ok-name.field-0 ∷ []), w.in_ok-name.ensures) refl
      | in_default-name_after w ↦ rw (w.names-is, w.in_default-name_after.is) (sym (append-nil (map name_view c.pieces.names.items)))
    ]) c.pieces.invariant
