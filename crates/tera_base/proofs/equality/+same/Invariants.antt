use Rattle.std.proofs.Common.{◌≡◌, drop}
use Rattle.tera_base.specs.Same.{vals_eq}
use Rattle.tera_base.specs.ValueView.{vals_view}
use Rattle.tera_base.proofs.equality.+same.Given as goal

-- two lists are the same where what is left of them is
abbrev pub invariant-same_values-loop-x : goal.invariant-same_values-loop-x
invariant-same_values-loop-x l =
    vals_eq (vals_view l.a) (vals_view l.b) ≡ vals_eq (vals_view (drop l.x-index l.a)) (vals_view l.others.rest.now)
