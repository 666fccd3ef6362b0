use Rattle.std.proofs.Common.{◌≡◌, ◌++◌, drop, map}
use Rattle.tera_workspace.specs.KeptSites.{documents_below}
use Rattle.tera_workspace.proofs.sites.all_below.Given as goal

abbrev pub invariant-loop-judged : goal.invariant-loop-judged
invariant-loop-judged l =
    documents_below l.root l.documents l.judged-items
    ≡ map (λ j. j.now) l.below.items ++ documents_below l.root l.documents (drop l.judged-index l.judged-items)
