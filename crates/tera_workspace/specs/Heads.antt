-- The heads of components: what the findings in their calls depend on.
use Rattle.std.specs.Prelude.{◌≡◌, ℕ, List, [], ◌∷◌, cond, Option, None, Some}
use Rattle.std.specs.Str.{bytes_eq}
use Rattle.tera_tree.specs.Tree.{Definition}
use Rattle.tera_templates.specs.Templates.{definitions_of, shows_in}
use Rattle.tera_templates.specs.declared.templates.Template.{Template}

-- the first definition of a name
abbrev pub definition_named : List ℕ → List Definition → Option Definition
definition_named n [] = None
definition_named n (d ∷ ds) = cond (bytes_eq d.name n) (Some d) (definition_named n ds)

-- two definitions with one name and the same parameters
pub record HaveOneHead (d e : Definition) : Type 0 where
  pub name : d.name ≡ e.name
  pub arguments : d.arguments ≡ e.arguments
  pub rest : d.rest ≡ e.rest

-- two such definitions, or none
abbrev pub HaveOneHeadIfAny : Option Definition → Option Definition → Type 0
HaveOneHeadIfAny None None = Unit {0}
HaveOneHeadIfAny (Some d) (Some e) = HaveOneHead d e
HaveOneHeadIfAny _ _ = ⊥

-- two lists of definitions differ only within these two: a name has one head in those if it has one in these
abbrev pub DifferWithin : List Definition → List Definition → List Definition → List Definition → Type 0
DifferWithin left right before after =
    (n : List ℕ) → HaveOneHeadIfAny (definition_named n left) (definition_named n right)
    → HaveOneHeadIfAny (definition_named n before) (definition_named n after)

-- in calls of the component of a name the same is found by both templates: the definitions have one head, and both may
-- show the body, or neither does
abbrev pub HaveOneHeadIn : List ℕ → Template → Template → Type 0
HaveOneHeadIn n t u =
    HaveOneHeadIfAny (definition_named n (definitions_of t)) (definition_named n (definitions_of u)) × (shows_in t n ≡ shows_in u n)
