-- What was reported stays as it would be found, where another text of one file is read and those are marked that name
-- what it changes, or have a finding with a place in it.
use Rattle.std.proofs.Common.{◌≡◌, ◌∙◌, ◌<◌, ℕ, zero, suc, List, [], ◌∷◌, ◌++◌, ◌||◌, length, get_or, set, map, Bool, true, false, Option, None, Some, MatchOption, refl, sym, ap, subst, inl, inr, arith}
use Rattle.std.proofs.lemmas.Bool.{cases_eq}
use Rattle.std.proofs.Common.{if◌then◌else◌}
use Rattle.std.specs.List.{AllByRecursion, list_any}
use Rattle.std.proofs.lemmas.List.Sorted.{list_any-IsPermutation}
use Rattle.tera_tree.specs.Outputs.{output_view}
use Rattle.tera_tree.specs.declared.outputs.ParserOutput.{ParserOutput}
use Rattle.tera_check.specs.Alike.{names_in}
use Rattle.tera_check.specs.Due.{due_findings}
use Rattle.tera_findings.specs.Findings.{finding_view}
use Rattle.tera_rules.specs.Judged.{KnownVal}
use Rattle.tera_templates.specs.Lost.{are_open}
use Rattle.tera_check.specs.Named.{first_named, defined_in, defined_by}
use Rattle.tera_templates.specs.Templates.{tree_of}
use Rattle.tera_findings.specs.declared.finding.Finding.{Finding}
use Rattle.tera_templates.specs.declared.templates.Template.{Template}
use Rattle.tera_check.proofs.TakenLemmas.{all_append}
use Rattle.text_edits.specs.declared.positions.Encoding.{Encoding}
use Rattle.tera_workspace.specs.Beside.{AreAlikeButIfAny, AgreeBut, HasNoNoteIn}
use Rattle.tera_workspace.specs.Fresh.{IsFound, IsReported}
use Rattle.tera_workspace.specs.Heads.{HaveOneHeadIn}
use Rattle.tera_workspace.specs.Kept.{name_of, source_of, sources_of, templates_of, reported_of, HasNames, IsWhole, IsCurrent, AreCurrent, is_reported_in, marked}
use Rattle.tera_workspace.specs.Names.{is_among}
use Rattle.tera_workspace.specs.Sources.{Source, text_named}
use Rattle.tera_workspace.specs.declared.judged.Judged.{Judged}
use Rattle.tera_workspace.proofs.BesideLemmas.{due_but}
use Rattle.tera_workspace.proofs.FoundLemmas.{due_in, found_if}
use Rattle.tera_workspace.proofs.KnownLemmas.{template_alike, all_alike}
use Rattle.tera_workspace.proofs.NameSets.{all_among}
use Rattle.tera_workspace.proofs.PlaceLemmas.{first_false, second_false, differ, other_text, findings_same, reports, all_beside, none_reported}

-- ---- a document that was not marked

pub false_true : false ≡ true → ⊥
false_true e = cc

-- a name that the document has is not among those that are touched
pub not_among : (names : List (List ℕ)) (n : List ℕ) → is_among n names ≡ true → (touched : List (List ℕ)) → list_any (λ m. is_among m names) touched ≡ false → is_among n touched ≡ false
not_among names n has [] none = refl
not_among names n has (m ∷ ms) none =
    let here = first_false (is_among m names) (list_any (λ x. is_among x names) ms) none in
    let apart = differ m n (λ same. false_true (sym here ∙ ap (λ x. is_among x names) same ∙ has)) in
    ap (λ (b : Bool). if b then true else is_among n ms) apart ∙ not_among names n has ms (second_false (is_among m names) (list_any (λ x. is_among x names) ms) none)

module _ (file : List ℕ) (k : ℕ) (ts us : List Template) where
  abbrev before : List ℕ → Option KnownVal
  before n = first_named n (defined_by 0 ts)

  abbrev now : List ℕ → Option KnownVal
  now n = first_named n (defined_by 0 us)

  agree_by : (names : List (List ℕ)) (touched : List (List ℕ)) → list_any (λ m. is_among m names) touched ≡ false
      → ((n : List ℕ) → is_among n touched ≡ false → AreAlikeButIfAny file k (before n) (now n))
      → (r : Option ParserOutput) → MatchOption r (Unit {0}) (λ o. names ≡ names_in (output_view o))
      → MatchOption r (Unit {0}) (λ o. AgreeBut (names_in (output_view o)) file k before now)
  agree_by names touched none alike None has = tt
  agree_by names touched none alike (Some o) has =
      all_among (λ n. AreAlikeButIfAny file k (before n) (now n)) (names_in (output_view o))
      (λ n among. alike n (not_among names n (ap (is_among n) has ∙ among) touched none))

  due_same : (open_text : Bool) (t : Template) (r : Option ParserOutput)
      → MatchOption r (Unit {0}) (λ o. AgreeBut (names_in (output_view o)) file k before now)
      → AllByRecursion (HasNoNoteIn file) (due_in before open_text k t r) → due_in before open_text k t r ≡ due_in now open_text k t r
  due_same open_text t None agree beside = refl
  due_same open_text t (Some o) agree beside = due_but file k before now open_text t (output_view o) agree beside

  found_by : (t : Template) (fs : List Finding) → list_any (reports file) (map finding_view fs) ≡ false → are_open ts ≡ are_open us
      → MatchOption (tree_of t) (Unit {0}) (λ o. AgreeBut (names_in (output_view o)) file k before now)
      → IsFound ts k t fs → IsFound us k t fs
  found_by t fs none opened agree found =
      let due = due_findings before (are_open ts) k t in
      let beside = all_beside file (found.faults ++ due) (list_any-IsPermutation (reports file) (found.faults ++ due) (map finding_view fs) found.found ∙ none) in
      let (_, due_beside) = all_append (HasNoNoteIn file) found.faults due beside in
      found_if ts us k k t fs found (due_same (are_open ts) t (tree_of t) agree due_beside ∙ ap (λ b. due_findings now b k t) opened)

  pub still_reported : (e : Encoding) (ss rs : List Source) (j : Judged) (touched : List (List ℕ))
      → HasNames j.names j.template → list_any (λ n. is_among n j.names) touched ≡ false → is_reported_in file j ≡ false
      → are_open ts ≡ are_open us
      → ((n : List ℕ) → is_among n touched ≡ false → AreAlikeButIfAny file k (before n) (now n))
      → ((name : List ℕ) → (name ≡ file → ⊥) → text_named name rs ≡ text_named name ss)
      → IsReported e ss ts k j.text j.template (reported_of j) → IsReported e rs us k j.text j.template (reported_of j)
  still_reported e ss rs j touched has none unreported opened alike same (fs, found, reported) =
      let quiet = none_reported e file ss j.text j.reported.items (map finding_view fs) reported unreported in (
        fs,
        found_by j.template fs quiet opened (agree_by j.names touched none alike (tree_of j.template) has) found,
        reported ∙ sym (findings_same e file ss rs same j.text (map finding_view fs) (all_beside file (map finding_view fs) quiet)),
      )

-- ---- lists of documents

get_map : {X Y : Type 0} (f : X → Y) (xs : List X) (k : ℕ) (d : X) (e : Y) → k < length xs → get_or (map f xs) k e ≡ f (get_or xs k d)
get_map f [] k d e h = absurd (omega arith)
get_map f (x ∷ xs) zero d e h = refl
get_map f (x ∷ xs) (suc k) d e h = get_map f xs k d e (omega arith)

map_set : {X Y : Type 0} (f : X → Y) (xs : List X) (i : ℕ) (x : X) → map f (set xs i x) ≡ set (map f xs) i (f x)
map_set f [] i x = refl
map_set f (y ∷ xs) zero x = refl
map_set f (y ∷ xs) (suc i) x = ap (λ ys. f y ∷ ys) (map_set f xs i x)

set_other : {X : Type 0} (xs : List X) (i k : ℕ) (x d : X) → (k ≡ i → ⊥) → get_or (set xs i x) k d ≡ get_or xs k d
set_other [] i k x d h = refl
set_other (y ∷ xs) zero zero x d h = absurd (h refl)
set_other (y ∷ xs) zero (suc k) x d h = refl
set_other (y ∷ xs) (suc i) zero x d h = refl
set_other (y ∷ xs) (suc i) (suc k) x d h = set_other xs i k x d (λ e. h (ap suc e))

set_here : {X : Type 0} (xs : List X) (i : ℕ) (x d : X) → i < length xs → get_or (set xs i x) i d ≡ x
set_here [] i x d h = absurd (omega arith)
set_here (y ∷ xs) zero x d h = refl
set_here (y ∷ xs) (suc i) x d h = set_here xs i x d (omega arith)

set_length : {X : Type 0} (xs : List X) (i : ℕ) (x : X) → length (set xs i x) ≡ length xs
set_length [] i x = refl
set_length (y ∷ xs) zero x = refl
set_length (y ∷ xs) (suc i) x = ap suc (set_length xs i x)

pub map_length : {X Y : Type 0} (f : X → Y) (xs : List X) → length (map f xs) ≡ length xs
map_length f [] = refl
map_length f (x ∷ xs) = ap suc (map_length f xs)

pub marked_sources : (touched : List (List ℕ)) (file : List ℕ) (js : List Judged) → sources_of (map (marked touched file) js) ≡ sources_of js
marked_sources touched file [] = refl
marked_sources touched file (j ∷ js) = ap (λ ss. source_of j ∷ ss) (marked_sources touched file js)

pub marked_templates : (touched : List (List ℕ)) (file : List ℕ) (js : List Judged) → templates_of (map (marked touched file) js) ≡ templates_of js
marked_templates touched file [] = refl
marked_templates touched file (j ∷ js) = ap (λ ts. j.template ∷ ts) (marked_templates touched file js)

pub marked_at : (touched : List (List ℕ)) (file : List ℕ) (js : List Judged) (k : ℕ) (d : Judged) → k < length js → get_or (map (marked touched file) js) k d ≡ marked touched file (get_or js k d)
marked_at touched file [] k d h = absurd (omega arith)
marked_at touched file (j ∷ js) zero d h = refl
marked_at touched file (j ∷ js) (suc k) d h = marked_at touched file js k d (omega arith)

pub marked_length : (touched : List (List ℕ)) (file : List ℕ) (js : List Judged) → length (map (marked touched file) js) ≡ length js
marked_length touched file [] = refl
marked_length touched file (j ∷ js) = ap suc (marked_length touched file js)

pub all_at : {X : Type 0} (P : X → Type 0) (xs : List X) (k : ℕ) (d : X) → AllByRecursion P xs → k < length xs → P (get_or xs k d)
all_at P [] k d h within = absurd (omega arith)
all_at P (x ∷ xs) zero d h within = h.0
all_at P (x ∷ xs) (suc k) d h within = all_at P xs k d h.1 (omega arith)

pub sources_set : (js : List Judged) (i : ℕ) (j : Judged) → sources_of (set js i j) ≡ set (sources_of js) i (source_of j)
sources_set js i j = map_set source_of js i j

-- what a mark that was not set says
pub unmarked : (b c s : Bool) → (if b || c then true else s) ≡ false → (b ≡ false) × (c ≡ false) × (s ≡ false)
unmarked true c s h = absurd (false_true (sym h))
unmarked false true s h = absurd (false_true (sym h))
unmarked false false s h = (refl, refl, h)

-- ---- another text of one document, and marks on the others

module _ (e : Encoding) (touched : List (List ℕ)) (js : List Judged) (i : ℕ) (j d : Judged) (within : i < length js)
    (old : name_of (get_or js i d) ≡ name_of j) (stale : j.stale ≡ true) (whole : AllByRecursion IsWhole js)
    (heads : (n : List ℕ) → is_among n touched ≡ false → HaveOneHeadIn n (get_or js i d).template j.template) where
  abbrev after : List Judged
  after = set (map (marked touched (name_of j)) js) i j

  sources_after : sources_of after ≡ set (sources_of js) i (source_of j)
  sources_after = map_set source_of (map (marked touched (name_of j)) js) i j ∙ ap (λ ss. set ss i (source_of j)) (marked_sources touched (name_of j) js)

  templates_after : templates_of after ≡ set (templates_of js) i j.template
  templates_after = map_set (λ x. x.template) (map (marked touched (name_of j)) js) i j ∙ ap (λ ts. set ts i j.template) (marked_templates touched (name_of j) js)

  alike : (k : ℕ) (n : List ℕ) → is_among n touched ≡ false
      → AreAlikeButIfAny (name_of j) k (first_named n (defined_by 0 (templates_of js))) (first_named n (defined_by 0 (set (templates_of js) i j.template)))
  alike k n free =
      all_alike (name_of j) k n j.template d.template 0 (templates_of js) i (omega (arith, map_length (λ (x : Judged). x.template) js))
      (λ m. subst (λ t. AreAlikeButIfAny (name_of j) k (first_named n (defined_in m t)) (first_named n (defined_in m j.template)))
      (sym (get_map (λ (x : Judged). x.template) js i d d.template within))
      (template_alike (name_of j) k (get_or js i d).template j.template old refl n (heads n free) m))

  same : (name : List ℕ) → (name ≡ name_of j → ⊥) → text_named name (set (sources_of js) i (source_of j)) ≡ text_named name (sources_of js)
  same name other =
      other_text (name_of j) name (sources_of js) i (source_of j) (source_of d) (omega (arith, map_length source_of js))
      (ap (λ s. s.name) (get_map source_of js i d (source_of d) within) ∙ old) refl other

  others_current : (k : ℕ) (x : Judged) → are_open (templates_of js) ≡ are_open (templates_of after) → k < length js → IsCurrent e js k (get_or js k x)
      → IsWhole (get_or js k x) → IsCurrent e after k (marked touched (name_of j) (get_or js k x))
  others_current k x opened in_it current is_whole fresh =
      let one = get_or js k x in
      let (none, unreported, was) = unmarked (list_any (λ n. is_among n one.names) touched) (is_reported_in (name_of j) one) one.stale fresh in
      let reported : IsReported e (set (sources_of js) i (source_of j)) (set (templates_of js) i j.template) k one.text one.template (reported_of one) =
      still_reported (name_of j) k (templates_of js) (set (templates_of js) i j.template) e (sources_of js) (set (sources_of js) i (source_of j)) one touched
      is_whole.names none unreported (opened ∙ ap are_open templates_after) (alike k) same (current was) in
      subst (λ ss. IsReported e ss (templates_of after) k one.text one.template (reported_of one)) (sym sources_after)
      (subst (λ ts. IsReported e (set (sources_of js) i (source_of j)) ts k one.text one.template (reported_of one)) (sym templates_after) reported)

  pub replaced_current : are_open (templates_of js) ≡ are_open (templates_of after) → AreCurrent e js → AreCurrent e after
  replaced_current opened current k x in_it =
      let in_js : k < length js = omega (arith, set_length (map (marked touched (name_of j)) js) i j, map_length (marked touched (name_of j)) js) in
      elim (cases_eq k i) [
        | inl is ↦ subst (λ y. IsCurrent e after k y) (sym (ap (λ m. get_or after m x) is ∙ set_here (map (marked touched (name_of j)) js) i j x (omega (arith, map_length (marked touched (name_of j)) js))))
            (λ fresh. absurd (false_true (sym fresh ∙ stale)))
        | inr not ↦ subst (λ y. IsCurrent e after k y)
            (sym (set_other (map (marked touched (name_of j)) js) i k j x not ∙ get_map (marked touched (name_of j)) js k x x in_js))
            (others_current k x opened in_js (current k x in_js) (all_at IsWhole js k x whole in_js))
      ]
