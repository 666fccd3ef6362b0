-- The name that is found at a byte.
use Rattle.std.proofs.Common.{◌≡◌, Bool, Option, Some, None, List, [], ◌∷◌, map, option_map, inl, inr, refl, ap, sym, ◌∙◌}
use Rattle.std.specs.List.{find}
use Rattle.std.proofs.lemmas.Bool.{cases_Bool}
use Rattle.tera_outline.specs.declared.names.Name.{Name}
use Rattle.tera_outline.specs.Names.{Named, name_view}

same_option : (r : Option Name) → option_map (λ (n : Name). n) r ≡ r
same_option None = refl
same_option (Some n) = refl

find_view : (p : Named → Bool) (xs : List Name) → option_map name_view (find (λ (n : Name). p (name_view n)) xs) ≡ find p (map name_view xs)
find_view p [] = refl
find_view p (x ∷ xs) = elim (cases_Bool (p (name_view x))) [
  | inl passes ↦ rw passes refl
  | inr fails ↦ rw fails (find_view p xs)
]

pub found_view_of : (p : Named → Bool) (r : Option Name) (xs : List Name) (all : List Named)
    → option_map (λ (n : Name). n) r ≡ find (λ (n : Name). p (name_view n)) xs → map name_view xs ≡ all → option_map name_view r ≡ find p all
found_view_of p r xs all is view =
    ap (option_map name_view) (sym (same_option r) ∙ is) ∙ (find_view p xs ∙ ap (find p) view)
