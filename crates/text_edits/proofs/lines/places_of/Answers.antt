use Rattle.std.proofs.Common.{sym, subst, arith}
use Rattle.std.specs.Prelude.{All}
use Rattle.text_edits.specs.Walks.{IsReached}
use Rattle.text_edits.proofs.lines.places_of.Goals as goal

pub loop-number-init : goal.loop-number-init
loop-number-init c = record {
  places = subst (All (IsReached c.args.encoding c.args.text.now)) (sym c.new-places.ensures.items) (λ k d h. absurd (omega (arith, h)));
  place = c.first-place.ensures c.args.encoding c.args.text.now;
}
