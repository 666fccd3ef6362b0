-- What is so of what is answered: of what is offered, of the head that is reported, and of the places that refer to a
-- name.
use Rattle.std.proofs.Common.{◌≡◌, ◌∙◌, ◌⊎◌, ◌++◌, ◌&&◌, ◌||◌, ℕ, List, [], ◌∷◌, map, filter, not, if◌then◌else◌, Bool, true, false, true≢false, Option, None, Some, inl, inr, refl, sym, ap, subst}
use Rattle.std.specs.List.{Contains, find}
use Rattle.std.specs.Option.{option_map_or, option_map}
use Rattle.std.specs.Str.{bytes_eq}
use Rattle.std.proofs.lemmas.List.Elements.{Contains-append_left, Contains-append_right, Contains-append_cases}
use Rattle.std.proofs.lemmas.Slice.Eq.{bytes_eq-Decides}
use Rattle.json.specs.Json.{Json}
use Rattle.tera_outline.specs.Names.{Named, names_of, holds}
use Rattle.tera_outline.specs.Pieces.{Part}
use Rattle.tera_outline.specs.declared.completions.CompletionKind.TheVariants.{Component, Template, Argument}
use Rattle.text_edits.specs.Documents.{text_of}
use Rattle.text_edits.specs.Stored.{document_of}
use Rattle.tera_workspace.specs.Components.{components_of, parameters_of_name, files_of}
use Rattle.tera_workspace.specs.Definitions.{DefinitionVal, definition_of_name, IsParameterIn}
use Rattle.tera_workspace.specs.Kept.{sources_of, templates_of}
use Rattle.tera_workspace.specs.Sources.{Source}
use Rattle.tera_workspace.specs.declared.workspace.Workspace.{Workspace}
use Rattle.tera_workspace.proofs.ContainLemmas.{first_in, later_in, none_in, in_turn, map_in, in_map, in_filter_map, in_filter, filter_in}
use Rattle.tera_workspace.proofs.DefinedLemmas.{reported_of_defined, parameter_there}
use Rattle.tera_answers.specs.Completions.{offered, defined_names}
use Rattle.tera_answers.specs.Definitions.{first_of, is_component, template_place, place_of}
use Rattle.tera_answers.specs.Hovers.{component_in, text_at, IsHeadIn, IsHeadBy, IsHead, IsOfDefinition}
use Rattle.tera_answers.specs.References.{LookedFor, refers, is_definition, reference_json, AreReferences, AreReferencesIn, IsLookedFor, IsReferenceIn, AreAllOf}
use Rattle.tera_editor.specs.Settings.{RegisteredVal}
use Rattle.tera_editor.specs.Templates.{RootsVal, template_name, template_in}
use Rattle.tera_server.proofs.NearestLemmas.{has_its_name, leads}

-- ---- what is offered

module _ (w : Workspace) (roots : RootsVal) (r : RegisteredVal) (named : List Named) (bound : List (List ℕ)) (n : List ℕ) where
  pub offered_component : Contains (offered w roots r named bound Component) n → ((d : DefinitionVal) × (definition_of_name w n ≡ Some d)) ⊎ Contains (defined_names named) n
  offered_component c = elim (Contains-append_cases (components_of w) (defined_names named) n c) [
    | inl c ↦ inl (reported_of_defined w.encoding (sources_of w.judged.items) (templates_of w.judged.items) n c)
    | inr c ↦ inr c
  ]

  pub offered_template : Contains (offered w roots r named bound Template) n → (f : List ℕ) × Contains (files_of w) f × (template_name roots f ≡ Some n) × (template_place w roots n ≡ Some (first_of f))
  offered_template c =
      let (file, there, has) = in_filter_map (template_name roots) (files_of w) n c in
      let (f, is, named) = leads roots (files_of w) n file there has in
      (f, (has_its_name roots (files_of w) n f is).there, named, ap (option_map first_of) is)

  pub offered_parameter : (call : ℕ) → Contains (offered w roots r named bound (Argument call)) n → (m : Named) × (find (holds call) named ≡ Some m) × IsParameterIn (templates_of w.judged.items) m.text n
  offered_parameter call c = by (find (holds call) named) c
    where
      by : (o : Option Named) → Contains (option_map_or (λ m. parameters_of_name w m.text) o []) n → (m : Named) × (o ≡ Some m) × IsParameterIn (templates_of w.judged.items) m.text n
      by None c = absurd (none_in n c)
      by (Some m) c = (m, refl, parameter_there w.encoding (sources_of w.judged.items) (templates_of w.judged.items) m.text n c)

-- ---- the head that is reported

module _ (w : Workspace) (roots : RootsVal) (reported : List ℕ) where
  head_of_component : (n : Named) (o : Option DefinitionVal) → is_component n.kind ≡ true → definition_of_name w n.text ≡ o → IsHeadIn (text_at w o) n.text (Some reported) → IsOfDefinition w roots (Some n) reported
  head_of_component n None is found h = absurd (cc)
  head_of_component n (Some d) is found h = record {
    name = n.text;
    component = ap (λ b. if b then Some n.text else None) is;
    place = d;
    leads = ap (λ b. if b then definition_of_name w n.text else template_place w roots n.text) is ∙ found;
    head = h;
  }

  pub of_definition : (named : Option Named) → IsHead w named (Some reported) → IsOfDefinition w roots named reported
  of_definition None h = absurd (cc)
  of_definition (Some n) h = by (is_component n.kind) refl h
    where
      by : (b : Bool) → is_component n.kind ≡ b → IsHeadBy w (if b then Some n.text else None) (Some reported) → IsOfDefinition w roots (Some n) reported
      by true is h = head_of_component n (definition_of_name w n.text) is refl h
      by false is h = absurd (cc)

-- ---- the places that refer to a name

so : (a b c d e : Bool) → ((if a then b else not b) && (c && (d || not e))) ≡ true → (b ≡ a) × (c ≡ true) × (d ≡ false → e ≡ false)
so true true true true e h = (refl, refl, λ x. absurd (true≢false x))
so true true true false true h = absurd (true≢false (sym h))
so true true true false false h = (refl, refl, λ x. refl)
so true true false d e h = absurd (true≢false (sym h))
so true false c d e h = absurd (true≢false (sym h))
so false true c d e h = absurd (true≢false (sym h))
so false false true true e h = (refl, refl, λ x. absurd (true≢false x))
so false false true false true h = absurd (true≢false (sym h))
so false false true false false h = (refl, refl, λ x. refl)
so false false false d e h = absurd (true≢false (sym h))

if_so : (a b c d e : Bool) → b ≡ a → c ≡ true → (d ≡ false → e ≡ false) → ((if a then b else not b) && (c && (d || not e))) ≡ true
if_so true b c true e alike same counts = rw (alike, same) refl
if_so true b c false e alike same counts = rw (alike, same, counts refl) refl
if_so false b c true e alike same counts = rw (alike, same) refl
if_so false b c false e alike same counts = rw (alike, same, counts refl) refl

module _ (k : LookedFor) where
  is_looked_for : (n : Named) → refers k n ≡ true → IsLookedFor k n
  is_looked_for n h =
      let (alike, same, counts) = so (is_component k.named.kind) (is_component n.kind) (bytes_eq n.text k.named.text) k.declared (is_definition n.kind) h in
      record { text = (bytes_eq-Decides n.text k.named.text).0 same; alike = alike; counts = counts }

  it_refers : (n : Named) → IsLookedFor k n → refers k n ≡ true
  it_refers n h =
      if_so (is_component k.named.kind) (is_component n.kind) (bytes_eq n.text k.named.text) k.declared (is_definition n.kind)
      h.alike ((bytes_eq-Decides n.text k.named.text).1 h.text) h.counts

  reference_in : (s : Source) (js : List Json) → AreReferencesIn k s js → (j : Json) → Contains js j → IsReferenceIn k s j
  reference_in s js (parts, are, is) j c =
      let (n, there, reported) = in_map (reference_json k s) (filter (refers k) (names_of parts)) j (subst (λ xs. Contains xs j) is c) in
      let (among, looked_for) = in_filter (refers k) (names_of parts) n there in
      record { parts = parts; are = are; named = n; there = among; looked_for = is_looked_for n looked_for; location = sym reported }

  pub each_refers : (ss : List Source) (js : List Json) → AreReferences k ss js → (j : Json) → Contains js j → (s : Source) × Contains ss s × IsReferenceIn k s j
  each_refers [] js is j c = absurd (none_in j (subst (λ xs. Contains xs j) is c))
  each_refers (s ∷ ss) js (first, rest, one, more, is) j c = elim (Contains-append_cases first rest j (subst (λ xs. Contains xs j) is c)) [
    | inl c ↦ (s, first_in s ss, reference_in s first one j c)
    | inr c ↦ let (t, there, h) = each_refers ss rest more j c in (t, later_in s ss t there, h)
  ]

  all_in : (s : Source) (js : List Json) → AreReferencesIn k s js → AreAllOf k s js
  all_in s js (parts, are, is) = record {
    parts = parts;
    are = are;
    each = λ n there h. subst (λ xs. Contains xs (reference_json k s n)) (sym is)
        (map_in (reference_json k s) (filter (refers k) (names_of parts)) n (filter_in (refers k) (names_of parts) n there (it_refers n h)));
  }

  among : (s : Source) (js all : List Json) → ((j : Json) → Contains js j → Contains all j) → AreAllOf k s js → AreAllOf k s all
  among s js all more h = record { parts = h.parts; are = h.are; each = λ n there looked_for. more (reference_json k s n) (h.each n there looked_for) }

  pub all_refer : (ss : List Source) (js : List Json) → AreReferences k ss js → (s : Source) → Contains ss s → AreAllOf k s js
  all_refer [] js is s c = absurd (none_in s c)
  all_refer (t ∷ ss) js (first, rest, one, more, is) s c = elim (in_turn t ss s c) [
    | inl same ↦ subst (λ u. AreAllOf k u js) same
        (among t first js (λ j there. subst (λ xs. Contains xs j) (sym is) (Contains-append_left first rest j there)) (all_in t first one))
    | inr there ↦ among s rest js (λ j c. subst (λ xs. Contains xs j) (sym is) (Contains-append_right first rest j c)) (all_refer ss rest more s there)
  ]
