-- What is meant by words, and by one more.
use Rattle.std.proofs.Common.{◌≡◌, ◌∙◌, ℕ, List, [], Bool, true, false, cond, Option, None, Some, String, Global, refl, sym, ap, subst, string_bytes}
use Rattle.std.specs.Prelude.{IfSome}
use Rattle.std.specs.BTreeMap as tree
use Rattle.std.specs.BTreeMap.{BTreeMap, get_by_text}
use Rattle.std.specs.Cmp.Lexicographic.{slice_cmp}
use Rattle.std.specs.Ordering.{nat_cmp}
use Rattle.std.specs.Str.{bytes_eq}
use Rattle.std.specs.String.{string_cmp}
use Rattle.std.proofs.lemmas.Map.Text.{btree_map_updates_text}
use Rattle.std.proofs.lemmas.Slice.Eq.{bytes_eq-Decides}
use Rattle.tera_fixes.specs.Components.{AreMeanings, meaning_view}
use Rattle.tera_fixes.specs.Meant.{meant}

abbrev Meanings : Type 0
Meanings = BTreeMap (String Global) (Option (String Global))

abbrev pub Means : List (List ℕ) → List ℕ → Option (String Global) → Type 0
Means names word name = meaning_view name ≡ meant word names

pub no_meanings : (names : List (List ℕ)) (m : Meanings) → m.entries ≡ [] → AreMeanings names m
no_meanings names m empty word =
    let none : get_by_text m word ≡ None = rw empty refl in
    subst (λ o. IfSome o (Means names word)) (sym none) tt

pub same_meanings : (names : List (List ℕ)) (old new : Meanings) → new.entries ≡ old.entries → AreMeanings names old → AreMeanings names new
same_meanings names old new same held word =
    let is : get_by_text new word ≡ get_by_text old word = rw same refl in
    subst (λ o. IfSome o (Means names word)) (sym is) (held word)

pub found_meaning : (names : List (List ℕ)) (m : Meanings) (word : List ℕ) (name : Option (String Global)) → AreMeanings names m → Some name ≡ get_by_text m word → Means names word name
found_meaning names m word name are found = subst (λ o. IfSome o (Means names word)) (sym found) (are word)

pub meaning_added : (names : List (List ℕ)) (old new : Meanings) (key word : List ℕ) (name : Option (String Global)) → key ≡ word
    → tree.UpdatesBy string_cmp (λ k. slice_cmp nat_cmp key (string_bytes k)) old new (Some name) → Means names word name → AreMeanings names old → AreMeanings names new
meaning_added names old new key word name same updates is held q =
    subst (λ o. IfSome o (Means names q)) (sym (btree_map_updates_text key old new (Some name) updates q)) (by (bytes_eq key q) refl)
  where
    by : (b : Bool) → bytes_eq key q ≡ b → IfSome (cond b (Some name) (get_by_text old q)) (Means names q)
    by true e = is ∙ ap (λ w. meant w names) (sym same ∙ (bytes_eq-Decides key q).0 e)
    by false e = held q
