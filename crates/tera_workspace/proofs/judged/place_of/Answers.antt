use Rattle.std.proofs.Common.{length, subst, rules}
use Rattle.std.proofs.lemmas.Fn.{always_returns_same}
use Rattle.std.specs.Cmp.Lexicographic.{slice_cmp}
use Rattle.std.specs.List.Sorted.{IsSearchInRange, IsBinarySearchResult}
use Rattle.std.specs.Ordering.{nat_cmp}
use Rattle.tera_workspace.specs.Kept.{name_of}
use Rattle.tera_workspace.proofs.NumberLemmas.{place_found}
use Rattle.tera_workspace.proofs.judged.place_of.Goals as goal

pub returns : goal.returns
returns c =
    let name = c.args.name.now in
    let found = c.binary_search_by.result in
    place_found name c.args.all.now.items c.requires found
    (subst (λ js. IsSearchInRange found (length js)) c.deref.ensures.value c.binary_search_by.ensures.bound)
    (subst (λ js. IsBinarySearchResult (λ j. slice_cmp nat_cmp (name_of j) name) js found) c.deref.ensures.value
    (c.binary_search_by.ensures.position (λ j. slice_cmp nat_cmp (name_of j) name) (always_returns_same _ _ _ (λ a r f k. search rules))))
