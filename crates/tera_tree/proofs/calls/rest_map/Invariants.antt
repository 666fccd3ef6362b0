use Rattle.std.proofs.Common.{◌≡◌, List, take}
use Rattle.std.specs.Fn.{FnReturnsAt}
use Rattle.std.specs.List.{AllZip}
use Rattle.tera_tree.specs.Outcomes.{Gives}
use Rattle.tera_base.specs.Values.{NoPairs}
use Rattle.tera_base.specs.ValueView.{pairs_view}
use Rattle.tera_tree.specs.Calls.{Pair, texts, put_pairs, RestNameComesTo}
use Rattle.tera_tree.proofs.calls.rest_map.Given as goal

abbrev pub invariant-loop-name : goal.invariant-loop-name
invariant-loop-name g l =
    (pairs : List Pair)
    × AllZip (λ n p. RestNameComesTo (FnReturnsAt g.G.Fn l.get_value) n (Gives p)) (texts (take l.name-index l.names)) pairs
    × (pairs_view l.map ≡ put_pairs pairs NoPairs)
