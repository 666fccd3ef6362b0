use Rattle.std.proofs.Common.{sym}
use Rattle.std.proofs.lemmas.List.{append-nil}
use Rattle.tera_outline.proofs.PieceSteps.{tokens_step}
use Rattle.tera_outline.proofs.semantic_tokens.tokens_of.Goals as goal
use Rattle.tera_outline.proofs.semantic_tokens.tokens_of.Goals.{in-Some+in_ok-push_lines, in_default-kind_of}

pub pieces-preserved : goal.pieces-preserved
pieces-preserved c =
    tokens_step c.pieces.context c.following-context.result c.args.text.now c.bytes_of-bytes.result.now c.piece-item.result c.pieces.rest.now c.kind_of.result
    c.pieces.tokens.items c.match-kind_of.tokens.items _ c.piece-item.is c.in-len1-up.len_at_least c.bytes_of-bytes.ensures.bytes c.kind_of.ensures c.following-context.ensures
    (elim c.match-kind_of.branch [
      | in-Some+in_ok-push_lines w ↦ rw (w.tokens-is, w.in-Some.is) w.in_ok-push_lines.ensures
      | in_default-kind_of w ↦ rw (w.tokens-is, w.in_default-kind_of.is) (sym (append-nil c.pieces.tokens.items))
    ]) c.pieces.invariant
