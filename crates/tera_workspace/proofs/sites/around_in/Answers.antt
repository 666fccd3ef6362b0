use Rattle.std.proofs.Common.{◌≡◌, ◌∙◌, ◌<◌, List, ℕ, get_or, length, Option, None, Some, ap, sym, subst, rules}
use Rattle.std.proofs.lemmas.Fn.{always_returns_same}
use Rattle.std.proofs.lemmas.List.{get_or_read}
use Rattle.std.proofs.lemmas.Result.{MatchResult-at_ok, MatchResult-at_err}
use Rattle.std.specs.Cmp.Lexicographic.{slice_cmp}
use Rattle.std.specs.List.{find}
use Rattle.std.specs.List.Sorted.{IsSearchInRange, IsBinarySearchResult}
use Rattle.std.specs.Ordering.{nat_cmp}
use Rattle.std.specs.Str.{bytes_eq}
use Rattle.tera_workspace.specs.Sources.{AreInOrder}
use Rattle.tera_workspace.specs.declared.sites.KeptDocument.{KeptDocument}
use Rattle.tera_workspace.proofs.KeptSiteLemmas.{around_found, file_of_kept, kept_in_order}
use Rattle.tera_workspace.proofs.SearchLemmas.{search_found}
use Rattle.tera_workspace.proofs.sites.around_in.Goals as goal

abbrev Found : List ℕ → List KeptDocument → Option KeptDocument
Found name kept = find (λ d. bytes_eq (file_of_kept d) name) kept

pub returns-in-Ok : goal.returns-in-Ok
returns-in-Ok c =
    let name = c.args.name.now in
    let kept = c.args.documents.now.items in
    let r = c.binary_search_by.result in
    let at = MatchResult-at_ok (λ k. (k < length kept) × ((d : KeptDocument) → Found name kept ≡ Some (get_or kept k d))) (λ k. Found name kept ≡ None) c.in-Ok.number c.in-Ok.is
    (search_found file_of_kept name kept (subst AreInOrder (kept_in_order kept) c.requires) r
    (subst (λ ds. IsSearchInRange r (length ds)) c.deref.ensures.value c.binary_search_by.ensures.bound)
    (subst (λ ds. IsBinarySearchResult (λ d. slice_cmp nat_cmp (file_of_kept d) name) ds r) c.deref.ensures.value
    (c.binary_search_by.ensures.position (λ d. slice_cmp nat_cmp (file_of_kept d) name) (always_returns_same _ _ _ (λ a r f k. search rules))))) in
    let d = c.index.result.now in
    let is : d ≡ get_or kept c.in-Ok.number d = get_or_read kept c.in-Ok.number d at.0 c.index.ensures d in
    sym (around_found name kept (Some d) (at.1 d ∙ ap Some (sym is)))

pub returns-in-Err : goal.returns-in-Err
returns-in-Err c =
    let name = c.args.name.now in
    let kept = c.args.documents.now.items in
    let r = c.binary_search_by.result in
    sym (around_found name kept None
    (MatchResult-at_err (λ k. (k < length kept) × ((d : KeptDocument) → Found name kept ≡ Some (get_or kept k d))) (λ k. Found name kept ≡ None) _ c.in-Err.is
    (search_found file_of_kept name kept (subst AreInOrder (kept_in_order kept) c.requires) r
    (subst (λ ds. IsSearchInRange r (length ds)) c.deref.ensures.value c.binary_search_by.ensures.bound)
    (subst (λ ds. IsBinarySearchResult (λ d. slice_cmp nat_cmp (file_of_kept d) name) ds r) c.deref.ensures.value
    (c.binary_search_by.ensures.position (λ d. slice_cmp nat_cmp (file_of_kept d) name) (always_returns_same _ _ _ (λ a r f k. search rules)))))))
