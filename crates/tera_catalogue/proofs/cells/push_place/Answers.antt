use Rattle.std.proofs.Common.{rules, ◌≡◌, decimal}
use Rattle.tera_catalogue.proofs.StepLemmas.{on_ok, five}
use Rattle.tera_catalogue.proofs.cells.push_place.Goals as goal

pub returns : goal.returns
returns c =
    let line : c.as_str.result.now ≡ decimal c.args.place.line = search rules in
    let column : c.as_str-2.result.now ≡ decimal c.args.place.column = search rules in
    on_ok c.push-4.result (rw c.after_place.ensures at c.push-4.ensures) (λ last.
    five _ _ _ _ _ _ _ _ _ _ _ c.in_ok-push_within.ensures (rw line at c.in_ok-push.ensures) c.in_ok-push-2.ensures (rw column at c.in_ok-push-3.ensures) last)
