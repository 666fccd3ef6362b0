use Rattle.std.proofs.Common.{◌≡◌, None, map, take}
use Rattle.tera_site.proofs.above.none_known.Given as goal

abbrev pub invariant-loop-page : goal.invariant-loop-page
invariant-loop-page l = l.known.items ≡ map (λ p. None) (take l._page-index l.pages)
