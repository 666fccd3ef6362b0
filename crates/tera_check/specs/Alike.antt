-- When what is known under the names of a tree makes no difference to what is found in it.
use Rattle.std.specs.Prelude.{◌≡◌, ℕ, List, [], ◌∷◌, ◌++◌, map, Option, None, Some, nat_eq}
use Rattle.std.specs.List.{flat_map, AllByRecursion}
use Rattle.tera_ast.specs.Tree.{Expr, ComponentCall}
use Rattle.tera_tree.specs.Tree.{Output}
use Rattle.tera_rules.specs.Calls.{calls_of}
use Rattle.tera_rules.specs.Judged.{KnownVal}

-- the names of the components that a tree defines and calls
abbrev pub name_called : Expr → List (List ℕ)
name_called (ComponentCall name es body closed span) = name ∷ []
name_called _ = []

abbrev pub names_in : Output → List (List ℕ)
names_in o = map (λ d. d.name) o.definitions ++ flat_map name_called (calls_of o)

-- components with which the same is found in the templates of two numbers: they have one name, the same parameters, and
-- one span in a file of one name; both may show their body, or neither; and both are in the template of their number,
-- or neither is
pub record AreAlike (number other : ℕ) (k j : KnownVal) : Type 0 where
  pub name : k.definition.name ≡ j.definition.name
  pub arguments : k.definition.arguments ≡ j.definition.arguments
  pub rest : k.definition.rest ≡ j.definition.rest
  pub file : k.file ≡ j.file
  pub span : k.span ≡ j.span
  pub own : nat_eq k.template number ≡ nat_eq j.template other
  pub shows_body : k.shows_body ≡ j.shows_body

-- two such components, or none
abbrev pub AreAlikeIfAny : ℕ → ℕ → Option KnownVal → Option KnownVal → Type 0
AreAlikeIfAny number other None None = Unit {0}
AreAlikeIfAny number other (Some k) (Some j) = AreAlike number other k j
AreAlikeIfAny number other _ _ = ⊥

-- such components, or none, are known under each of these names
abbrev pub AgreeOn : List (List ℕ) → ℕ → ℕ → (List ℕ → Option KnownVal) → (List ℕ → Option KnownVal) → Type 0
AgreeOn names number other known others = AllByRecursion (λ n. AreAlikeIfAny number other (known n) (others n)) names
