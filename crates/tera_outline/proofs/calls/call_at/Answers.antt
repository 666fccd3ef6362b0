use Rattle.std.proofs.Common.{Some, ap, map, option_map, sym, ◌∙◌}
use Rattle.tera_outline.specs.Calls.{in_call_view, place_of, stretch_in, stretch_view}
use Rattle.tera_outline.specs.Pieces.{part_of}
use Rattle.tera_outline.specs.declared.names.Before.TheVariants.{Other}
use Rattle.tera_outline.proofs.CallSteps.{or_none, stretch_ended, stretch_passed}
use Rattle.tera_outline.proofs.calls.call_at.Goals as goal

pub pieces-init : goal.pieces-init
pieces-init c = or_none (stretch_in c.args.last c.args.byte Other (map part_of c.args.pieces.now))

pub pieces-preserved : goal.pieces-preserved
pieces-preserved c =
    stretch_passed c.args.last c.args.byte c.pieces.before c.after_token-before.result c.piece-item.result c.pieces.rest.now c.stretch_after.result c.pieces.found c.or-found.result _
    c.piece-item.is c.in-len1-up.len_at_least c.stretch_after.ensures c.after_token-before.ensures c.or-found.ensures c.pieces.invariant

pub returns-in_err-stretch : goal.returns-in_err-stretch
returns-in_err-stretch c =
    ap (option_map in_call_view) c.from_residual.ensures
    ∙ ap (option_map place_of)
    (ap (option_map stretch_view) (sym c.in_err-stretch.was)
    ∙ stretch_ended c.args.last c.args.byte c.pieces.before c.pieces.rest.now (option_map stretch_view c.pieces.found) _ c.in_default.len_below c.pieces.invariant)

pub returns : goal.returns
returns c =
    ap Some c.place.ensures
    ∙ ap (option_map place_of)
    (ap (option_map stretch_view) (sym c.in_ok-stretch.was)
    ∙ stretch_ended c.args.last c.args.byte c.pieces.before c.pieces.rest.now (option_map stretch_view c.pieces.found) _ c.in_default.len_below c.pieces.invariant)
