-- Parts of a body that are still to be taken, each in its scope, and the names that were found.
use Rattle.std.specs.Prelude.{◌≡◌, ℕ, List, Bool, ◌||◌}
use Rattle.std.specs.Borrow.{Bor}
use Rattle.std.specs.List.{list_any}
use Rattle.std.specs.Option.{is_some}
use Rattle.std.specs.Str.{bytes_eq}
use Rattle.tera_tree.specs.Parts.{PartVal, NodePart, ExpressionPart, parts_view}
use Rattle.tera_tree.specs.declared.parts.Part.{Part}
use Rattle.tera_rules.specs.Repeated.{span_under}
use Rattle.tera_check.specs.Parameters.{Taking, named_in, named_in_node}
use Rattle.tera_check.specs.declared.parameters.Naming.{Naming}
use Rattle.tera_check.specs.declared.parameters.Scope.{Scope}

-- the name is one of these, so it is hidden
abbrev pub is_hidden : List (Bor (List ℕ)) → List ℕ → Bool
is_hidden hidden n = list_any (λ m. bytes_eq m.now n) hidden

-- the parameter is named in a part; and in one of some parts
abbrev pub named_in_part : Taking → Bool → List ℕ → PartVal → Bool
named_in_part takes hidden n (NodePart s) = named_in_node takes hidden n s
named_in_part takes hidden n (ExpressionPart e) = named_in takes hidden n e

abbrev pub named_in_parts : Taking → Bool → List ℕ → List PartVal → Bool
named_in_parts takes hidden n ps = list_any (named_in_part takes hidden n) ps

-- it is named in a part of a scope that is still to be taken; and in one of some scopes
abbrev pub named_in_scope : Taking → List ℕ → Scope → Bool
named_in_scope takes n s = named_in_parts takes (is_hidden s.hidden.items n) n (parts_view s.parts.items)

abbrev pub is_to_come : Taking → List ℕ → List Scope → Bool
is_to_come takes n ss = list_any (named_in_scope takes n) ss

-- it was named, or may be taken
abbrev pub is_named : Naming → List ℕ → Bool
is_named s n = s.all || (is_some (span_under s.names n) || is_some (span_under s.taken n))

-- What is named after a step, or in what is still to be taken then, is what was so before the step and what is named in
-- the part that was taken.
abbrev pub AreTaken : Taking → List (Bor (List ℕ)) → (Bool → List ℕ → Bool)
    → Naming → List Scope → List Part → Naming → List Scope → List Part → Type 0
AreTaken takes hidden taken s ss ps t ts qs = (n : List ℕ) → let h = is_hidden hidden n in
    (is_named t n || (is_to_come takes n ts || named_in_parts takes h n (parts_view qs)))
    ≡ (is_named s n || (is_to_come takes n ss || (named_in_parts takes h n (parts_view ps) || taken h n)))
