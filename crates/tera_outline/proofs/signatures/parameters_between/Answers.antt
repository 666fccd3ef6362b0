use Rattle.std.proofs.Common.{◌∙◌, map, ap, sym}
use Rattle.tera_lexer.specs.code.Seen.{seen}
use Rattle.tera_outline.specs.Pieces.{part_of}
use Rattle.tera_outline.specs.Signatures.{parameter_view, parameters_between}
use Rattle.tera_outline.proofs.HeadSteps.{depth_after, depth_kept, head_ended, piece_outside, piece_within}
use Rattle.tera_outline.proofs.signatures.parameters_between.Goals as goal
use Rattle.tera_outline.proofs.signatures.parameters_between.Goals.{then-is_between+in_ok-push_if_parameter, else-is_between}

pub loop-piece-preserved : goal.loop-piece-preserved
loop-piece-preserved c =
    let xs = c.args.pieces.now in
    let i = c.loop-piece.piece-index in
    let x = c.piece-item.result in
    let place = c.loop-piece.place in
    let next = c.if-is_between.place in
    let before = map parameter_view c.loop-piece.parameters.items in
    let after = map parameter_view c.if-is_between.parameters.items in
    let all = parameters_between c.args.from c.args.to (map part_of xs) in
    record {
      depth = elim c.if-is_between.branch [
        | then-is_between+in_ok-push_if_parameter w ↦ depth_after place next (seen x.token) i (w.place-is ∙ w.after-place.ensures) c.loop-piece.invariant.depth
        | else-is_between w ↦ depth_kept place next i w.place-is c.loop-piece.invariant.depth
      ];
      read = elim c.if-is_between.branch [
        | then-is_between+in_ok-push_if_parameter w ↦
            piece_within c.args.from c.args.to place xs i x c.piece-item.is c.loop-piece-test.true next before after all (sym c.is_between.ensures ∙ w.if-is_between.true)
            (w.place-is ∙ w.after-place.ensures) (ap (λ v. map parameter_view v.items) w.parameters-is ∙ w.in_ok-push_if_parameter.ensures) c.loop-piece.invariant.read
        | else-is_between w ↦
            piece_outside c.args.from c.args.to place xs i x c.piece-item.is c.loop-piece-test.true next before after all (sym c.is_between.ensures ∙ w.if-is_between.false)
            w.place-is (ap (λ v. map parameter_view v.items) w.parameters-is) c.loop-piece.invariant.read
      ];
    }

pub returns : goal.returns
returns c =
    head_ended c.args.from c.args.to c.loop-piece.place c.args.pieces.now c.loop-piece.piece-index (map parameter_view c.loop-piece.parameters.items) _
    c.loop-piece-test.false c.loop-piece.invariant.read
