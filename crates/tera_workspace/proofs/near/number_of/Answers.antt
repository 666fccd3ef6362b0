use Rattle.std.proofs.Common.{◌≡◌, ◌<◌, Bor, List, ℕ, get_or, length, Option, None, Some, sym, subst, rules}
use Rattle.std.proofs.lemmas.Fn.{always_returns_same}
use Rattle.std.proofs.lemmas.Result.{MatchResult-at_ok, MatchResult-at_err}
use Rattle.std.specs.Cmp.Lexicographic.{slice_cmp}
use Rattle.std.specs.List.{find}
use Rattle.std.specs.List.Sorted.{IsSearchInRange, IsBinarySearchResult}
use Rattle.std.specs.Ordering.{nat_cmp}
use Rattle.std.specs.Str.{bytes_eq}
use Rattle.tera_workspace.specs.declared.judged.Judged.{Judged}
use Rattle.tera_workspace.proofs.NearNames.{below_ordered, found_none, found_number, own_of}
use Rattle.tera_workspace.proofs.SearchLemmas.{search_found}
use Rattle.tera_workspace.proofs.near.number_of.Goals as goal

abbrev Found : List ℕ → List ℕ → List (Bor Judged) → Option (Bor Judged)
Found root name below = find (λ b. bytes_eq (own_of root b) name) below

pub returns-in-Ok : goal.returns-in-Ok
returns-in-Ok c =
    let root = c.args.root.now in
    let name = c.args.name.now in
    let below = c.args.below.now.items in
    let r = c.binary_search_by.result in
    let at = MatchResult-at_ok (λ k. (k < length below) × ((d : Bor Judged) → Found root name below ≡ Some (get_or below k d))) (λ k. Found root name below ≡ None) c.in-Ok.number c.in-Ok.is
    (search_found (own_of root) name below (below_ordered root below c.requires) r
    (subst (λ bs. IsSearchInRange r (length bs)) c.deref.ensures.value c.binary_search_by.ensures.bound)
    (subst (λ bs. IsBinarySearchResult (λ b. slice_cmp nat_cmp (own_of root b) name) bs r) c.deref.ensures.value
    (c.binary_search_by.ensures.position (λ b. slice_cmp nat_cmp (own_of root b) name) (always_returns_same _ _ _ (λ a r f k. search rules))))) in
    sym (found_number root below name c.in-Ok.number c.requires at.0 at.1)

pub returns-in-Err : goal.returns-in-Err
returns-in-Err c =
    let root = c.args.root.now in
    let name = c.args.name.now in
    let below = c.args.below.now.items in
    let r = c.binary_search_by.result in
    sym (found_none root below name
    (MatchResult-at_err (λ k. (k < length below) × ((d : Bor Judged) → Found root name below ≡ Some (get_or below k d))) (λ k. Found root name below ≡ None) _ c.in-Err.is
    (search_found (own_of root) name below (below_ordered root below c.requires) r
    (subst (λ bs. IsSearchInRange r (length bs)) c.deref.ensures.value c.binary_search_by.ensures.bound)
    (subst (λ bs. IsBinarySearchResult (λ b. slice_cmp nat_cmp (own_of root b) name) bs r) c.deref.ensures.value
    (c.binary_search_by.ensures.position (λ b. slice_cmp nat_cmp (own_of root b) name) (always_returns_same _ _ _ (λ a r f k. search rules)))))))
