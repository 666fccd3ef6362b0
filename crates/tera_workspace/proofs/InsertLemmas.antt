-- What was reported stays as it would be found, where a document is put among others and those are marked that name
-- what it defines.
use Rattle.std.proofs.Common.{◌≡◌, ◌∙◌, ◌+◌, ◌<◌, ◌≤◌, ◌==◌, ℕ, zero, suc, List, [], ◌∷◌, ◌++◌, length, get_or, map, Bool, true, false, cond, Option, None, Some, MatchOption, refl, sym, ap, subst, inl, inr, arith, nat_eq, add-one}
use Rattle.std.specs.List.{insert}
use Rattle.std.specs.List.{AllByRecursion, list_any}
use Rattle.std.specs.Str.{bytes_eq}
use Rattle.std.proofs.lemmas.Bool.{cases_eq}
use Rattle.std.proofs.lemmas.Bool.Decides.{leb_tells, eqb_tells}
use Rattle.std.proofs.lemmas.List.Edits.{get_or-insert_at, get_or-insert_below, get_or-insert_above}
use Rattle.tera_tree.specs.Outputs.{output_view}
use Rattle.tera_tree.specs.Tree.{Definition}
use Rattle.tera_tree.specs.declared.outputs.ParserOutput.{ParserOutput}
use Rattle.tera_check.specs.Alike.{names_in, AreAlike, AreAlikeIfAny, AgreeOn}
use Rattle.tera_check.specs.Due.{due_findings}
use Rattle.tera_findings.specs.Findings.{finding_view}
use Rattle.tera_rules.specs.Judged.{KnownVal}
use Rattle.tera_templates.specs.Lost.{are_open}
use Rattle.tera_check.specs.Named.{known_at, first_named, defined_from, defined_in, defined_by, or_else}
use Rattle.tera_templates.specs.Templates.{definitions_of, tree_of}
use Rattle.tera_templates.specs.declared.templates.Template.{Template}
use Rattle.text_edits.specs.declared.positions.Encoding.{Encoding}
use Rattle.tera_workspace.specs.Fresh.{IsReported}
use Rattle.tera_workspace.specs.Heads.{definition_named, HaveOneHeadIfAny}
use Rattle.tera_workspace.specs.Kept.{source_of, sources_of, templates_of, reported_of, HasNames, IsWhole, IsCurrent, AreCurrent, is_reported_in, marked}
use Rattle.tera_workspace.specs.Names.{is_among}
use Rattle.tera_workspace.specs.Sources.{Source, text_named}
use Rattle.tera_workspace.specs.declared.judged.Judged.{Judged}
use Rattle.tera_workspace.proofs.CurrentLemmas.{not_among, marked_sources, marked_templates, marked_at, marked_length, map_length, all_at, unmarked, false_true}
use Rattle.tera_workspace.proofs.FoundLemmas.{due_alike, found_if}
use Rattle.tera_workspace.proofs.KnownLemmas.{IsFirst, first_is, named_append}
use Rattle.tera_workspace.proofs.NameSets.{all_among}
use Rattle.tera_workspace.proofs.PlaceLemmas.{findings_same, all_beside, none_reported}

-- two pairs of numbers of which both are equal, or neither is
eq_same : (a b c d : ℕ) → (a ≡ b → c ≡ d) → (c ≡ d → a ≡ b) → nat_eq a b ≡ nat_eq c d
eq_same a b c d there back = elim (eqb_tells a b) [
  | inl x ↦ elim (eqb_tells c d) [ inl y ↦ x.0 ∙ sym y.0 | inr y ↦ absurd (y.1 (there x.1)) ]
  | inr x ↦ elim (eqb_tells c d) [ inl y ↦ absurd (x.1 (back y.1)) | inr y ↦ x.0 ∙ sym y.0 ]
]

-- ---- what is known under a name that the template among the others does not define

module _ (number other : ℕ) where
  or_alike : (a b c d : Option KnownVal) → AreAlikeIfAny number other a b → AreAlikeIfAny number other c d → AreAlikeIfAny number other (or_else a c) (or_else b d)
  or_alike None None c d h g = g
  or_alike (Some k) (Some j) c d h g = h
  or_alike None (Some j) c d h g = absurd h
  or_alike (Some k) None c d h g = absurd h

  append_alike : (n : List ℕ) (ks js ms is : List KnownVal) → AreAlikeIfAny number other (first_named n ks) (first_named n js) → AreAlikeIfAny number other (first_named n ms) (first_named n is)
      → AreAlikeIfAny number other (first_named n (ks ++ ms)) (first_named n (js ++ is))
  append_alike n ks js ms is h g =
      subst (λ o. AreAlikeIfAny number other o (first_named n (js ++ is))) (sym (named_append n ks ms))
      (subst (λ o. AreAlikeIfAny number other (or_else (first_named n ks) (first_named n ms)) o) (sym (named_append n js is))
      (or_alike (first_named n ks) (first_named n js) (first_named n ms) (first_named n is) h g))

  if_alike : (b : Bool) (k j : KnownVal) (o p : Option KnownVal) → AreAlike number other k j → AreAlikeIfAny number other o p → AreAlikeIfAny number other (cond b (Some k) o) (cond b (Some j) p)
  if_alike true k j o p h g = h
  if_alike false k j o p h g = g

  -- a template of two numbers
  numbered_alike : (m l : ℕ) (t : Template) (n : List ℕ) (at : ℕ) (ds : List Definition) → nat_eq m number ≡ nat_eq l other
      → AreAlikeIfAny number other (first_named n (defined_from m t at ds)) (first_named n (defined_from l t at ds))
  numbered_alike m l t n at [] own = tt
  numbered_alike m l t n at (d ∷ ds) own =
      if_alike (bytes_eq d.name n) (known_at m t at d) (known_at l t at d) (first_named n (defined_from m t (suc at) ds)) (first_named n (defined_from l t (suc at) ds))
      (record { name = refl; arguments = refl; rest = refl; file = refl; span = refl; own = own; shows_body = refl }) (numbered_alike m l t n (suc at) ds own)

  none_first : (m : ℕ) (u : Template) (o : Option Definition) (r : Option KnownVal) → IsFirst m u o r → HaveOneHeadIfAny None o → AreAlikeIfAny number other None r
  none_first m u None None is h = tt
  none_first m u None (Some j) is h = absurd is
  none_first m u (Some d) r is h = absurd h

  later_alike : (n : List ℕ) (from : ℕ) (ts : List Template) → ((m : ℕ) → from ≤ m → nat_eq m number ≡ nat_eq (suc m) other)
      → AreAlikeIfAny number other (first_named n (defined_by from ts)) (first_named n (defined_by (suc from) ts))
  later_alike n from [] own = tt
  later_alike n from (t ∷ ts) own =
      append_alike n (defined_in from t) (defined_in (suc from) t) (defined_by (suc from) ts) (defined_by (suc (suc from)) ts)
      (numbered_alike from (suc from) t n 0 (definitions_of t) (own from (omega arith))) (later_alike n (suc from) ts (λ m h. own m (omega arith)))

  insert_alike : (n : List ℕ) (u : Template) (from : ℕ) (ts : List Template) (i : ℕ) → i ≤ length ts → HaveOneHeadIfAny None (definition_named n (definitions_of u))
      → ((m : ℕ) → m < from + i → nat_eq m number ≡ nat_eq m other) → ((m : ℕ) → from + i ≤ m → nat_eq m number ≡ nat_eq (suc m) other)
      → AreAlikeIfAny number other (first_named n (defined_by from ts)) (first_named n (defined_by from (insert ts i u)))
  insert_alike n u from ts zero within none before following =
      append_alike n [] (defined_in from u) (defined_by from ts) (defined_by (suc from) ts)
      (none_first from u (definition_named n (definitions_of u)) (first_named n (defined_in from u)) (first_is from u n 0 (definitions_of u)) none)
      (later_alike n from ts (λ m h. following m (omega arith)))
  insert_alike n u from [] (suc i) within none before following = absurd (omega arith)
  insert_alike n u from (t ∷ ts) (suc i) within none before following =
      append_alike n (defined_in from t) (defined_in from t) (defined_by (suc from) ts) (defined_by (suc from) (insert ts i u))
      (numbered_alike from from t n 0 (definitions_of t) (before from (omega arith)))
      (insert_alike n u (suc from) ts i (omega arith) none (λ m h. before m (omega arith)) (λ m h. following m (omega arith)))

-- ---- a document that was not marked, and has another number then

module _ (number other : ℕ) (ts us : List Template) where
  abbrev before : List ℕ → Option KnownVal
  before n = first_named n (defined_by 0 ts)

  abbrev now : List ℕ → Option KnownVal
  now n = first_named n (defined_by 0 us)

  agree_by : (names : List (List ℕ)) (touched : List (List ℕ)) → list_any (λ m. is_among m names) touched ≡ false
      → ((n : List ℕ) → is_among n touched ≡ false → AreAlikeIfAny number other (before n) (now n))
      → (r : Option ParserOutput) → MatchOption r (Unit {0}) (λ o. names ≡ names_in (output_view o))
      → MatchOption r (Unit {0}) (λ o. AgreeOn (names_in (output_view o)) number other before now)
  agree_by names touched none alike None has = tt
  agree_by names touched none alike (Some o) has =
      all_among (λ n. AreAlikeIfAny number other (before n) (now n)) (names_in (output_view o))
      (λ n among. alike n (not_among names n (ap (is_among n) has ∙ among) touched none))

  moved_reported : (e : Encoding) (file : List ℕ) (ss rs : List Source) (j : Judged) (touched : List (List ℕ))
      → HasNames j.names j.template → list_any (λ n. is_among n j.names) touched ≡ false → is_reported_in file j ≡ false
      → are_open ts ≡ are_open us
      → ((n : List ℕ) → is_among n touched ≡ false → AreAlikeIfAny number other (before n) (now n))
      → ((name : List ℕ) → (name ≡ file → ⊥) → text_named name rs ≡ text_named name ss)
      → IsReported e ss ts number j.text j.template (reported_of j) → IsReported e rs us other j.text j.template (reported_of j)
  moved_reported e file ss rs j touched has none unreported opened alike same (fs, found, reported) =
      let quiet = none_reported e file ss j.text j.reported.items (map finding_view fs) reported unreported in
      let agree = agree_by j.names touched none alike (tree_of j.template) has in (
        fs,
        found_if ts us number other j.template fs found
            (due_alike number other before now (are_open ts) j.template (tree_of j.template) agree ∙ ap (λ b. due_findings now b other j.template) opened),
        reported ∙ sym (findings_same e file ss rs same j.text (map finding_view fs) (all_beside file (map finding_view fs) quiet)),
      )

-- ---- one document more, and marks

map_insert : {X Y : Type 0} (f : X → Y) (xs : List X) (i : ℕ) (x : X) → map f (insert xs i x) ≡ insert (map f xs) i (f x)
map_insert f xs zero x = refl
map_insert f [] (suc i) x = refl
map_insert f (y ∷ xs) (suc i) x = ap (λ ys. f y ∷ ys) (map_insert f xs i x)

insert_length : (js : List Judged) (i : ℕ) (j : Judged) → i ≤ length js → length (insert js i j) ≡ suc (length js)
insert_length js zero j h = refl
insert_length [] (suc i) j h = absurd (omega arith)
insert_length (x ∷ js) (suc i) j h = ap suc (insert_length js i j (omega arith))

module _ (e : Encoding) (name : List ℕ) (touched : List (List ℕ)) (js : List Judged) (i : ℕ) (j : Judged) (within : i ≤ length js) (stale : j.stale ≡ true) (whole : AllByRecursion IsWhole js)
    (heads : (n : List ℕ) → is_among n touched ≡ false → HaveOneHeadIfAny None (definition_named n (definitions_of j.template)))
    (same : (n : List ℕ) → (n ≡ name → ⊥) → text_named n (sources_of (insert js i j)) ≡ text_named n (sources_of js)) where
  abbrev after : List Judged
  after = map (marked touched name) (insert js i j)

  -- one of the others, which had a number and has another now
  other_current : (k l : ℕ) (x : Judged) → are_open (templates_of js) ≡ are_open (templates_of after) → k < length js → IsCurrent e js k (get_or js k x) → IsWhole (get_or js k x)
      → ((m : ℕ) → m < i → nat_eq m k ≡ nat_eq m l) → ((m : ℕ) → i ≤ m → nat_eq m k ≡ nat_eq (suc m) l)
      → IsCurrent e after l (marked touched name (get_or js k x))
  other_current k l x opened in_it current is_whole before following fresh =
      let one = get_or js k x in
      let (none, unreported, was) = unmarked (list_any (λ n. is_among n one.names) touched) (is_reported_in name one) one.stale fresh in
      let alike : (n : List ℕ) → is_among n touched ≡ false → AreAlikeIfAny k l (first_named n (defined_by 0 (templates_of js))) (first_named n (defined_by 0 (templates_of (insert js i j)))) =
      λ n free. subst (λ ts. AreAlikeIfAny k l (first_named n (defined_by 0 (templates_of js))) (first_named n (defined_by 0 ts))) (sym (map_insert (λ (y : Judged). y.template) js i j))
      (insert_alike k l n j.template 0 (templates_of js) i (omega (arith, within, map_length (λ (y : Judged). y.template) js)) (heads n free) (λ m h. before m (omega (arith, h))) (λ m h. following m (omega (arith, h)))) in
      let reported : IsReported e (sources_of (insert js i j)) (templates_of (insert js i j)) l one.text one.template (reported_of one) =
      moved_reported k l (templates_of js) (templates_of (insert js i j)) e name (sources_of js) (sources_of (insert js i j)) one touched is_whole.names none unreported
      (opened ∙ ap are_open (marked_templates touched name (insert js i j))) alike same (current was) in
      subst (λ ss. IsReported e ss (templates_of after) l one.text one.template (reported_of one)) (sym (marked_sources touched name (insert js i j)))
      (subst (λ ts. IsReported e (sources_of (insert js i j)) ts l one.text one.template (reported_of one)) (sym (marked_templates touched name (insert js i j))) reported)

  fresh_not : IsCurrent e after i (marked touched name j)
  fresh_not fresh =
      let (_, _, was) = unmarked (list_any (λ n. is_among n j.names) touched) (is_reported_in name j) j.stale fresh in absurd (false_true (sym was ∙ stale))

  after_it : (k : ℕ) (x : Judged) → are_open (templates_of js) ≡ are_open (templates_of after) → k < length (insert js i j) → AreCurrent e js → i < k → IsCurrent e after k (marked touched name (get_or (insert js i j) k x))
  after_it zero x opened in_it current above = absurd (omega arith)
  after_it (suc k) x opened in_it current above =
      let before : k < length js = omega (arith, in_it, insert_length js i j within) in
      subst (λ y. IsCurrent e after (suc k) (marked touched name y)) (sym (ap (λ m. get_or (insert js i j) m x) (sym (add-one k)) ∙ get_or-insert_above js i j x k (omega (arith, above)) within))
      (other_current k (suc k) x opened before (current k x before) (all_at IsWhole js k x whole before)
      (λ m h. eq_same m k m (suc k) (λ e. absurd (omega (arith, e, h, above))) (λ e. absurd (omega (arith, e, h, above))))
      (λ m h. eq_same m k (suc m) (suc k) (λ e. ap suc e) (λ e. omega (arith, e))))

  at_place : (k : ℕ) (x : Judged) → are_open (templates_of js) ≡ are_open (templates_of after) → k < length (insert js i j) → AreCurrent e js → IsCurrent e after k (marked touched name (get_or (insert js i j) k x))
  at_place k x opened in_it current = elim (leb_tells (suc k) i) [
    | inl below ↦
        let before : k < length js = omega (arith, below.1, within) in
        subst (λ y. IsCurrent e after k (marked touched name y)) (sym (get_or-insert_below js i j x k below.1 within))
        (other_current k k x opened before (current k x before) (all_at IsWhole js k x whole before) (λ m h. refl)
        (λ m h. eq_same m k (suc m) k (λ e. absurd (omega (arith, e, h, below.1))) (λ e. absurd (omega (arith, e, h, below.1)))))
    | inr above ↦ elim (cases_eq k i) [
      | inl is ↦
          subst (λ y. IsCurrent e after k (marked touched name y)) (sym (ap (λ m. get_or (insert js i j) m x) is ∙ get_or-insert_at js i j x within))
          (subst (λ m. IsCurrent e after m (marked touched name j)) (sym is) fresh_not)
      | inr not ↦ after_it k x opened in_it current (omega (arith, above.1, not))
    ]
  ]

  pub inserted_current : are_open (templates_of js) ≡ are_open (templates_of after) → AreCurrent e js → AreCurrent e after
  inserted_current opened current k x in_it =
      let inside : k < length (insert js i j) = omega (arith, in_it, marked_length touched name (insert js i j)) in
      subst (λ y. IsCurrent e after k y) (sym (marked_at touched name (insert js i j) k x inside)) (at_place k x opened inside current)
