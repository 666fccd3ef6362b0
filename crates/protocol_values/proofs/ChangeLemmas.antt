-- Changes that are read one after the other.
use Rattle.std.proofs.Common.{◌≡◌, ◌∙◌, ◌<◌, ◌≤◌, ◌+◌, suc, ℕ, List, [], ◌∷◌, ◌++◌, map, drop, length, get_or, Option, None, Some, refl, sym, ap, append_assoc, arith}
use Rattle.std.specs.Option.{option_map, option_and_then}
use Rattle.std.proofs.Math.Seq.{drop-cons}
use Rattle.std.proofs.lemmas.List.{append-nil, drop_all}
use Rattle.json.specs.Value.{value_view}
use Rattle.json.specs.declared.value.Value.{Value}
use Rattle.std.specs.declared.alloc.Global.{Global}
use Rattle.text_edits.specs.Edits.{ChangeView}
use Rattle.protocol_values.specs.Reading.{change_in, each_change}

-- changes, and those that are read of the values from a place on
abbrev pub onward : List ChangeView → ℕ → List (Value Global) → Option (List ChangeView)
onward before i items = option_map (λ changes. before ++ changes) (each_change (map value_view (drop i items)))

-- .. by what is read of the first of these
abbrev by_first : List ChangeView → ℕ → List (Value Global) → Option ChangeView → Option (List ChangeView)
by_first before i items r =
    option_map (λ changes. before ++ changes)
    (option_and_then (λ change. option_map (λ changes. change ∷ changes) (each_change (map value_view (drop i items)))) r)

first_is : (before : List ChangeView) (items : List (Value Global)) (i : ℕ) (v : Value Global) → i < length items
    → v ≡ get_or items i v → by_first before (i + 1) items (change_in (value_view v)) ≡ onward before i items
first_is before items i v lt is =
    let e : suc i ≡ i + 1 = omega arith in
    let at : drop i items ≡ v ∷ drop (i + 1) items =
    drop-cons items i v lt ∙ ap (λ (w : Value Global). w ∷ drop (suc i) items) (sym is) ∙ ap (λ (k : ℕ). v ∷ drop k items) e in
    ap (λ (xs : List (Value Global)). option_map (λ changes. before ++ changes) (each_change (map value_view xs))) (sym at)

pushed : (before : List ChangeView) (one : ChangeView) (r : Option (List ChangeView))
    → option_map (λ changes. (before ++ one ∷ []) ++ changes) r ≡ option_map (λ changes. before ++ changes) (option_map (λ changes. one ∷ changes) r)
pushed before one None = refl
pushed before one (Some changes) = ap Some (append_assoc before (one ∷ []) changes)

pub changes_more : (before now : List ChangeView) (one : ChangeView) (items : List (Value Global)) (i : ℕ) (v : Value Global)
    → i < length items → v ≡ get_or items i v → Some one ≡ change_in (value_view v) → now ≡ before ++ one ∷ []
    → onward before i items ≡ each_change (map value_view items)
    → onward now (i + 1) items ≡ each_change (map value_view items)
changes_more before now one items i v lt is reported new so_far =
    ap (λ (b : List ChangeView). onward b (i + 1) items) new ∙ pushed before one (each_change (map value_view (drop (i + 1) items)))
    ∙ ap (by_first before (i + 1) items) reported ∙ first_is before items i v lt is ∙ so_far

pub changes_none : (before : List ChangeView) (items : List (Value Global)) (i : ℕ) (v : Value Global)
    → i < length items → v ≡ get_or items i v → None ≡ change_in (value_view v)
    → onward before i items ≡ each_change (map value_view items) → None ≡ each_change (map value_view items)
changes_none before items i v lt is reported so_far =
    ap (by_first before (i + 1) items) reported ∙ first_is before items i v lt is ∙ so_far

pub changes_end : (before : List ChangeView) (items : List (Value Global)) (i : ℕ) → length items ≤ i
    → onward before i items ≡ each_change (map value_view items) → Some before ≡ each_change (map value_view items)
changes_end before items i past so_far =
    ap Some (sym (append-nil before))
    ∙ ap (λ (xs : List (Value Global)). option_map (λ changes. before ++ changes) (each_change (map value_view xs))) (sym (drop_all i items past))
    ∙ so_far
