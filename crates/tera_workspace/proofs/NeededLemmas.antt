-- The components of the names that are wanted, one by one.
use Rattle.std.proofs.Common.{◌≡◌, ◌∙◌, ◌<◌, ◌≤◌, ◌+◌, ℕ, zero, suc, List, [], ◌∷◌, length, map, drop, get_or, Bool, true, false, cond, Option, Some, None, BTreeSet, Bor, string_bytes, refl, sym, ap, arith}
use Rattle.std.specs.Str.{bytes_eq}
use Rattle.std.proofs.lemmas.List.{at_drop_more, at_drop_all}
use Rattle.tera_tree.specs.View.{definition_view}
use Rattle.tera_tree.specs.declared.ast.ComponentDefinition.{ComponentDefinition}
use Rattle.tera_rules.specs.Judged.{KnownVal}
use Rattle.tera_check.specs.Named.{known_at, defined_from, defined_in, defined_by, first_named, or_else}
use Rattle.tera_templates.specs.Templates.{definitions_of}
use Rattle.tera_templates.specs.declared.templates.Template.{Template}
use Rattle.tera_check.proofs.CatalogueLemmas.{or_none, more_known, template_next}
use Rattle.tera_workspace.specs.Kept.{templates_of}
use Rattle.tera_workspace.specs.Names.{contains_name}
use Rattle.tera_workspace.specs.declared.judged.Judged.{Judged}
use Rattle.tera_workspace.proofs.PlaceLemmas.{false_true, differ}

-- ---- documents

templates_from : (js : List Judged) (i : ℕ) → templates_of (drop i js) ≡ drop i (templates_of js)
templates_from [] zero = refl
templates_from [] (suc i) = refl
templates_from (j ∷ js) zero = refl
templates_from (j ∷ js) (suc i) = templates_from js i

template_at : (js : List Judged) (i : ℕ) (j : Judged) → i < length js → j ≡ get_or js i j → j.template ≡ get_or (templates_of js) i j.template
template_at [] i j h is = absurd (omega arith)
template_at (k ∷ js) zero j h is = ap (λ (x : Judged). x.template) is
template_at (k ∷ js) (suc i) j h is = template_at js i j (omega arith) is

as_many : (js : List Judged) → length (templates_of js) ≡ length js
as_many [] = refl
as_many (j ∷ js) = ap suc (as_many js)

pub document_next : (n : List ℕ) (js : List Judged) (i : ℕ) (j : Judged) (before now all : Option KnownVal) → i < length js → j ≡ get_or js i j
    → all ≡ or_else before (first_named n (defined_by i (templates_of (drop i js)))) → now ≡ or_else before (first_named n (defined_in i j.template))
    → all ≡ or_else now (first_named n (defined_by (i + 1) (templates_of (drop (i + 1) js))))
document_next n js i j before now all h is held step =
    template_next n (templates_of js) i j.template before now all (omega (arith, as_many js)) (template_at js i j h is)
    (held ∙ ap (λ ts. or_else before (first_named n (defined_by i ts))) (templates_from js i)) step
    ∙ ap (λ ts. or_else now (first_named n (defined_by (i + 1) ts))) (sym (templates_from js (i + 1)))

-- ---- the definitions of one document

-- a component whose name is not wanted
pub unwanted : (needed : BTreeSet (Bor (List ℕ))) (k : KnownVal) (n name : List ℕ) (o : Option KnownVal) → name ≡ k.definition.name → contains_name needed name ≡ false → contains_name needed n ≡ true
    → o ≡ or_else o (first_named n (k ∷ []))
unwanted needed k n name o named not has =
    let other : bytes_eq k.definition.name n ≡ false = differ k.definition.name n (λ e. false_true (sym not ∙ (ap (contains_name needed) (named ∙ e) ∙ has))) in
    sym (ap (λ b. or_else o (cond b (Some k) None)) other ∙ or_none o)

module _ (n : List ℕ) (number : ℕ) (t : Template) (ds : List ComponentDefinition) where
  abbrev pub first_from : ℕ → Option KnownVal
  first_from i = first_named n (defined_from number t i (map definition_view (drop i ds)))

  first_step : (i : ℕ) (d : ComponentDefinition) → i < length ds → d ≡ get_or ds i d
      → first_from i ≡ first_named n (known_at number t i (definition_view d) ∷ defined_from number t (i + 1) (map definition_view (drop (i + 1) ds)))
  first_step i d within is =
      let next : suc i ≡ i + 1 = omega arith in
      at_drop_more (λ es. first_named n (defined_from number t i (map definition_view es))) ds i d within
      ∙ ap (λ e. first_named n (known_at number t i (definition_view e) ∷ defined_from number t (suc i) (map definition_view (drop (i + 1) ds)))) (sym is)
      ∙ ap (λ m. first_named n (known_at number t i (definition_view d) ∷ defined_from number t m (map definition_view (drop (i + 1) ds)))) next

  pub definition_next : (i : ℕ) (d : ComponentDefinition) (before now all : Option KnownVal) → i < length ds → d ≡ get_or ds i d
      → all ≡ or_else before (first_from i) → now ≡ or_else before (first_named n (known_at number t i (definition_view d) ∷ [])) → all ≡ or_else now (first_from (i + 1))
  definition_next i d before now all within is held step =
      more_known n before now all (known_at number t i (definition_view d) ∷ []) (defined_from number t (i + 1) (map definition_view (drop (i + 1) ds)))
      (held ∙ ap (or_else before) (first_step i d within is)) step

  -- where one after the other is looked at, and more after them
  module _ (i : ℕ) (d : ComponentDefinition) (all rest : Option KnownVal) (within : i < length ds) (is : d ≡ get_or ds i d) (held : all ≡ or_else (first_from i) rest) where
    tested : (b : Bool) → bytes_eq (string_bytes d.name) n ≡ b → all ≡ or_else (cond b (Some (known_at number t i (definition_view d))) (first_from (i + 1))) rest
    tested b e =
        held ∙ ap (λ o. or_else o rest) (first_step i d within is)
        ∙ ap (λ x. or_else (cond x (Some (known_at number t i (definition_view d))) (first_from (i + 1))) rest) e

    pub is_this : bytes_eq (string_bytes d.name) n ≡ true → all ≡ Some (known_at number t i (definition_view d))
    is_this e = tested true e

    pub not_this : bytes_eq (string_bytes d.name) n ≡ false → all ≡ or_else (first_from (i + 1)) rest
    not_this e = tested false e

  pub all_begun : (i : ℕ) (all rest : Option KnownVal) → length ds ≤ i → all ≡ or_else (first_from i) rest → all ≡ rest
  all_begun i all rest over held = held ∙ at_drop_all (λ es. or_else (first_named n (defined_from number t i (map definition_view es))) rest) ds i over

  pub none_left : (i : ℕ) (all before : Option KnownVal) → length ds ≤ i → all ≡ or_else before (first_from i) → all ≡ before
  none_left i all before over held = held ∙ at_drop_all (λ es. or_else before (first_named n (defined_from number t i (map definition_view es)))) ds i over ∙ or_none before

-- the definitions of the next document, and those of the others
pub document_begun : (n : List ℕ) (js : List Judged) (number : ℕ) (j : Judged) (ds : List ComponentDefinition) (all : Option KnownVal) → number < length js → j ≡ get_or js number j
    → map definition_view ds ≡ definitions_of j.template → all ≡ first_named n (defined_by number (templates_of (drop number js)))
    → all ≡ or_else (first_from n number j.template ds 0) (first_named n (defined_by (number + 1) (templates_of (drop (number + 1) js))))
document_begun n js number j ds all within is same held =
    document_next n js number j None (first_named n (defined_in number j.template)) all within is held refl
    ∙ ap (λ es. or_else (first_named n (defined_from number j.template 0 es)) (first_named n (defined_by (number + 1) (templates_of (drop (number + 1) js))))) (sym same)
