-- Names in the parts of a tree, part by part.
use Rattle.std.proofs.Common.{◌≡◌, ◌∙◌, ℕ, List, [], ◌∷◌, ◌++◌, sym, ap, append_assoc, append-nil}
use Rattle.std.specs.List.{flat_map}
use Rattle.tera_tree.specs.Parts.{PartVal, children, parts_view}
use Rattle.tera_tree.specs.declared.parts.Part.{Part}
use Rattle.tera_rules.specs.Within.{all_parts}
use Rattle.tera_rules.proofs.RulesLemmas.{last_part}

-- the names of a part, and then of what is to come, where those in it are in its place
pub taken : (f : PartVal → List (List ℕ)) (old now : List PartVal) (p : PartVal) (start found : List (List ℕ)) → now ≡ old ++ children p → found ≡ start ++ f p
    → found ++ flat_map f (all_parts now) ≡ start ++ flat_map f (all_parts (old ++ p ∷ []))
taken f old now p start found h k =
    (λ i. k i ++ flat_map f (all_parts (h i)))
    ∙ append_assoc start (f p) (flat_map f (all_parts (old ++ children p)))
    ∙ ap (λ ps. start ++ flat_map f ps) (sym (last_part old p))

-- no part is left
pub all_taken : (f : PartVal → List (List ℕ)) (ps : List Part) (found all : List (List ℕ)) → found ++ flat_map f (all_parts (parts_view ps)) ≡ all → ps ≡ [] → found ≡ all
all_taken f ps found all taken none =
    sym (append-nil found) ∙ sym (ap (λ qs. found ++ flat_map f (all_parts (parts_view qs))) none) ∙ taken
