-- The components that documents define, by their names.
use Rattle.std.proofs.Common.{◌≡◌, ◌∙◌, ◌⊎◌, ◌+◌, ℕ, zero, suc, List, [], ◌∷◌, ◌++◌, map, cond, Bool, true, false, true≢false, Option, None, Some, option_map, string_bytes, slice_get, inl, inr, refl, sym, ap, subst, arith}
use Rattle.std.specs.List.{Contains}
use Rattle.std.specs.Option.{option_map_or}
use Rattle.std.specs.Str.{bytes_eq}
use Rattle.std.proofs.lemmas.List.{map-append}
use Rattle.std.proofs.lemmas.Slice.Eq.{bytes_eq-Decides}
use Rattle.tera_base.specs.declared.utils.Span.{Span}
use Rattle.tera_tree.specs.Tree.{Argument, Definition}
use Rattle.tera_rules.specs.Judged.{KnownVal}
use Rattle.tera_check.specs.Named.{known_at, span_at, defined_from, defined_in, defined_by, first_named}
use Rattle.tera_templates.specs.Templates.{definitions_of}
use Rattle.tera_templates.specs.declared.templates.Template.{Template}
use Rattle.text_edits.specs.declared.positions.Encoding.{Encoding}
use Rattle.tera_workspace.specs.Components.{names_defined, components_by, parameters_of}
use Rattle.tera_workspace.specs.Definitions.{DefinitionVal, definition_at, IsDefinedIn, IsParameterIn}
use Rattle.tera_workspace.specs.Diagnostics.{position_in}
use Rattle.tera_workspace.specs.Sources.{Source, text_named}
use Rattle.tera_workspace.proofs.ContainLemmas.{first_in, later_in, none_in, in_turn, in_map}

names_from : (number : ℕ) (t : Template) (at : ℕ) (ds : List Definition) → map (λ (k : KnownVal). k.definition.name) (defined_from number t at ds) ≡ map (λ d. d.name) ds
names_from number t at [] = refl
names_from number t at (d ∷ ds) = ap (λ ns. d.name ∷ ns) (names_from number t (suc at) ds)

names_by : (number : ℕ) (ts : List Template) → map (λ (k : KnownVal). k.definition.name) (defined_by number ts) ≡ components_by ts
names_by number [] = refl
names_by number (t ∷ ts) =
    map-append (λ (k : KnownVal). k.definition.name) (defined_in number t) (defined_by (suc number) ts)
    ∙ (ap (λ ns. ns ++ map (λ (k : KnownVal). k.definition.name) (defined_by (suc number) ts)) (names_from number t 0 (definitions_of t))
    ∙ ap (λ ns. names_defined t ++ ns) (names_by (suc number) ts))

first_of_name : (n : List ℕ) (ks : List KnownVal) → Contains (map (λ (k : KnownVal). k.definition.name) ks) n → (k : KnownVal) × (first_named n ks ≡ Some k)
first_of_name n [] c = absurd (none_in n c)
first_of_name n (k ∷ ks) c = by (first_of_name n ks) (bytes_eq k.definition.name n) refl
  where
    by : (Contains (map (λ (k : KnownVal). k.definition.name) ks) n → (j : KnownVal) × (first_named n ks ≡ Some j)) → (b : Bool) → bytes_eq k.definition.name n ≡ b → (j : KnownVal) × (cond b (Some k) (first_named n ks) ≡ Some j)
    by more true is = (k, refl)
    by more false is = elim (in_turn k.definition.name (map (λ (k : KnownVal). k.definition.name) ks) n c) [
      | inl same ↦ absurd (true≢false (sym ((bytes_eq-Decides k.definition.name n).1 same) ∙ is))
      | inr there ↦ more there
    ]

-- a component whose name is among those that templates define is found
is_defined : (ts : List Template) (n : List ℕ) → Contains (components_by ts) n → (k : KnownVal) × (first_named n (defined_by 0 ts) ≡ Some k)
is_defined ts n c = first_of_name n (defined_by 0 ts) (subst (λ ns. Contains ns n) (sym (names_by 0 ts)) c)

-- ---- where one that is found is defined

record IsFrom (number : ℕ) (t : Template) (at : ℕ) (ds : List Definition) (n : List ℕ) (k : KnownVal) : Type 0 where
  i : ℕ
  here : slice_get ds i ≡ Some k.definition
  named : k.definition.name ≡ n
  file : k.file ≡ string_bytes t.file
  span : k.span ≡ span_at t (i + at)

is_from : (number : ℕ) (t : Template) (at : ℕ) (ds : List Definition) (n : List ℕ) (k : KnownVal) → first_named n (defined_from number t at ds) ≡ Some k → IsFrom number t at ds n k
is_from number t at [] n k e = absurd (cc)
is_from number t at (d ∷ ds) n k e = by (is_from number t (suc at) ds n k) (bytes_eq d.name n) refl e
  where
    by : (first_named n (defined_from number t (suc at) ds) ≡ Some k → IsFrom number t (suc at) ds n k) → (b : Bool) → bytes_eq d.name n ≡ b
        → cond b (Some (known_at number t at d)) (first_named n (defined_from number t (suc at) ds)) ≡ Some k → IsFrom number t at (d ∷ ds) n k
    by more true is e =
        let same : known_at number t at d ≡ k = cc in
        subst (λ j. IsFrom number t at (d ∷ ds) n j) same (record { i = 0; here = refl; named = (bytes_eq-Decides d.name n).0 is; file = refl; span = ap (span_at t) (omega arith) })
    by more false is e =
        let h = more e in
        record { i = suc h.i; here = h.here; named = h.named; file = h.file; span = h.span ∙ ap (span_at t) (omega arith) }

of_two : (n : List ℕ) (ks js : List KnownVal) (k : KnownVal) → first_named n (ks ++ js) ≡ Some k → (first_named n ks ≡ Some k) ⊎ (first_named n js ≡ Some k)
of_two n [] js k e = inr e
of_two n (j ∷ ks) js k e = by (of_two n ks js k) (bytes_eq j.definition.name n) e
  where
    by : (first_named n (ks ++ js) ≡ Some k → (first_named n ks ≡ Some k) ⊎ (first_named n js ≡ Some k)) → (b : Bool) → cond b (Some j) (first_named n (ks ++ js)) ≡ Some k
        → (cond b (Some j) (first_named n ks) ≡ Some k) ⊎ (first_named n js ≡ Some k)
    by more true e = inl e
    by more false e = more e

-- a component that a template defines, by the number of its definition there
record IsOf (ts : List Template) (n : List ℕ) (k : KnownVal) : Type 0 where
  template : Template
  among : Contains ts template
  at : ℕ
  here : slice_get (definitions_of template) at ≡ Some k.definition
  named : k.definition.name ≡ n
  file : k.file ≡ string_bytes template.file
  span : k.span ≡ span_at template at

of_one : (number : ℕ) (t : Template) (ts : List Template) (n : List ℕ) (k : KnownVal) → Contains ts t → IsFrom number t 0 (definitions_of t) n k → IsOf ts n k
of_one number t ts n k among h = record {
  template = t;
  among = among;
  at = h.i;
  here = h.here;
  named = h.named;
  file = h.file;
  span = h.span ∙ ap (span_at t) (omega arith);
}

found_in : (number : ℕ) (ts : List Template) (n : List ℕ) (k : KnownVal) → first_named n (defined_by number ts) ≡ Some k → IsOf ts n k
found_in number [] n k e = absurd (cc)
found_in number (t ∷ ts) n k e = elim (of_two n (defined_in number t) (defined_by (suc number) ts) k e) [
  | inl e ↦ of_one number t (t ∷ ts) n k (first_in t ts) (is_from number t 0 (definitions_of t) n k e)
  | inr e ↦
      let h = found_in (suc number) ts n k e in
      record { template = h.template; among = later_in t ts h.template h.among; at = h.at; here = h.here; named = h.named; file = h.file; span = h.span }
]

-- ---- what is reported for one

get_name : (ds : List Definition) (i : ℕ) (d : Definition) → slice_get ds i ≡ Some d → slice_get (map (λ (e : Definition). e.name) ds) i ≡ Some d.name
get_name [] i d e = absurd (cc)
get_name (x ∷ xs) zero d e = ap (option_map (λ (e : Definition). e.name)) e
get_name (x ∷ xs) (suc i) d e = get_name xs i d e

module _ (e : Encoding) (sources : List Source) (ts : List Template) (n : List ℕ) where
  place_of : (k : KnownVal) → IsOf ts n k → (t : Template) × Contains ts t × IsDefinedIn e sources t n (definition_at e sources k)
  place_of k h = (
    h.template,
    h.among,
    record {
      file = h.file;
      at = h.at;
      named = get_name (definitions_of h.template) h.at k.definition h.here ∙ ap Some h.named;
      start = ap (λ (s : Span). position_in e (text_named k.file sources) s.range.start) h.span;
      end = ap (λ (s : Span). position_in e (text_named k.file sources) s.range.end) h.span;
    },
  )

  pub reported_there : (d : DefinitionVal) → option_map (definition_at e sources) (first_named n (defined_by 0 ts)) ≡ Some d → (t : Template) × Contains ts t × IsDefinedIn e sources t n d
  reported_there d is = by (first_named n (defined_by 0 ts)) refl is
    where
      by : (o : Option KnownVal) → first_named n (defined_by 0 ts) ≡ o → option_map (definition_at e sources) o ≡ Some d → (t : Template) × Contains ts t × IsDefinedIn e sources t n d
      by None found is = absurd (cc)
      by (Some k) found is =
          let same : definition_at e sources k ≡ d = cc in
          subst (λ (p : DefinitionVal). (t : Template) × Contains ts t × IsDefinedIn e sources t n p) same (place_of k (found_in 0 ts n k found))

  pub reported_of_defined : Contains (components_by ts) n → (d : DefinitionVal) × (option_map (definition_at e sources) (first_named n (defined_by 0 ts)) ≡ Some d)
  reported_of_defined c = let (k, is) = is_defined ts n c in (definition_at e sources k, ap (option_map (definition_at e sources)) is)

  pub parameter_there : (p : List ℕ) → Contains (option_map_or parameters_of (first_named n (defined_by 0 ts)) []) p → IsParameterIn ts n p
  parameter_there p c = by (first_named n (defined_by 0 ts)) refl c
    where
      by : (o : Option KnownVal) → first_named n (defined_by 0 ts) ≡ o → Contains (option_map_or parameters_of o []) p → IsParameterIn ts n p
      by None found c = absurd (none_in p c)
      by (Some k) found c =
          let h = found_in 0 ts n k found in
          let (a, there, is) = in_map (λ (a : List ℕ × Argument). a.0) k.definition.arguments p c in
          record { template = h.template; among = h.among; definition = k.definition; at = h.at; here = h.here; named = h.named; argument = a; there = there; is = is }
