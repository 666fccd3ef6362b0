-- What the suggestions change, in the order of the text.
use Rattle.std.proofs.Common.{◌≡◌, ◌∙◌, ◌≤◌, ℕ, List, [], ◌++◌, Option, drop, length, map, sym, subst, ap}
use Rattle.std.specs.List.{flat_map}
use Rattle.std.specs.List.Sorted.{IsPermutation}
use Rattle.std.specs.Option.{option_map}
use Rattle.std.proofs.lemmas.List.{append-nil, drop_all}
use Rattle.std.proofs.lemmas.List.Sorted.{IsPermutation-map}
use Rattle.tera_fixes.specs.Edited.{edit_view, edits_if_any}
use Rattle.tera_fixes.specs.Suggestions.{suggestion_view}
use Rattle.tera_fixes.specs.declared.edits.Edit.{Edit}
use Rattle.tera_fixes.specs.declared.suggestions.Suggestion.{Suggestion}

-- after the last suggestion all edits are there, and then in another order
pub all_sorted : (ss : List (Option Suggestion)) (i : ℕ) (edits sorted : List Edit)
    → map edit_view edits ++ flat_map edits_if_any (map (option_map suggestion_view) (drop i ss)) ≡ flat_map edits_if_any (map (option_map suggestion_view) ss)
    → length ss ≤ i → IsPermutation edits sorted → IsPermutation (flat_map edits_if_any (map (option_map suggestion_view) ss)) (map edit_view sorted)
all_sorted ss i edits sorted held past same =
    let none : drop i ss ≡ [] = drop_all i ss past in
    let is : map edit_view edits ≡ flat_map edits_if_any (map (option_map suggestion_view) ss) =
    sym (append-nil (map edit_view edits)) ∙ ap (λ ts. map edit_view edits ++ flat_map edits_if_any (map (option_map suggestion_view) ts)) (sym none) ∙ held in
    subst (λ es. IsPermutation es (map edit_view sorted)) is (IsPermutation-map edit_view edits sorted same)
