-- What stays so where a document is put in the place of another, or among others.
use Rattle.std.proofs.Common.{◌≡◌, ◌∙◌, ◌<◌, ◌≤◌, ℕ, zero, suc, List, [], ◌∷◌, length, get_or, set, map, Bool, true, false, cond, None, Vec, string_bytes, refl, sym, ap, subst, arith}
use Rattle.std.specs.Cmp.Lexicographic.{slice_cmp, nat_list_cmp_total}
use Rattle.std.specs.List.{AllByRecursion, insert}
use Rattle.std.specs.Ordering.{nat_cmp, is_gt, is_eq, ordering_reverse}
use Rattle.std.specs.declared.alloc.Global.{Global}
use Rattle.std.specs.declared.cmp.Ordering.{Ordering}
use Rattle.std.specs.declared.cmp.Ordering.TheVariants.{Less, Equal, Greater}
use Rattle.std.proofs.lemmas.Map.Text.{is_eq-slice_cmp}
use Rattle.std.specs.Str.{bytes_eq}
use Rattle.std.proofs.lemmas.Slice.Eq.{bytes_eq-Decides}
use Rattle.tera_templates.specs.Lost.{are_open}
use Rattle.tera_templates.specs.Templates.{definitions_of}
use Rattle.tera_workspace.specs.Diagnostics.{DiagnosticVal}
use Rattle.tera_workspace.specs.Heads.{definition_named, HaveOneHeadIfAny, HaveOneHeadIn}
use Rattle.tera_workspace.specs.Kept.{source_of, sources_of, templates_of, reported_of, reported_named, has_name, IsNumbered, IsNewPlace, IsWhole, IsNewlyRead, AllWhole, AreCurrent, StayKept, IsTextAt, marked}
use Rattle.tera_workspace.specs.Names.{is_among}
use Rattle.tera_workspace.specs.Sources.{Source, AreInOrder, AreAscending, text_named}
use Rattle.tera_workspace.specs.declared.diagnostics.Diagnostic.{Diagnostic}
use Rattle.tera_workspace.specs.declared.judged.Judged.{Judged}
use Rattle.tera_workspace.proofs.NumberLemmas.{text_numbered}
use Rattle.tera_workspace.proofs.OrderLemmas.{all_above}
use Rattle.tera_workspace.proofs.PlaceLemmas.{differ}
use Rattle.tera_workspace.proofs.CurrentLemmas.{replaced_current, marked_sources, marked_at, marked_length, sources_set}
use Rattle.tera_workspace.proofs.InsertLemmas.{inserted_current}
use Rattle.tera_workspace.proofs.OpenedLemmas.{StayIf, now_marked, kept_if, text_if}

false_true : false ≡ true → ⊥
false_true e = cc

pub stay_same : (js : List Judged) → StayKept js js
stay_same js = record { whole = λ w. w; current = λ e w c. c; ordered = λ o. o; reported = λ n. refl }

pub stay_after : (a b c : List Judged) → StayKept a b → StayKept b c → StayKept a c
stay_after a b c h g = record {
  whole = λ w. g.whole (h.whole w);
  current = λ e w current. g.current e (h.whole w) (h.current e w current);
  ordered = λ o. g.ordered (h.ordered o);
  reported = λ n. g.reported n ∙ h.reported n;
}

-- ---- values by tests

again_same : {X : Type 0} (b : Bool) (x y z : X) → cond b x z ≡ cond b x (cond b y z)
again_same true x y z = refl
again_same false x y z = refl

-- two tests of which one fails
swapped : {X : Type 0} (a b : Bool) (x y z : X) → (a ≡ true → b ≡ true → ⊥) → cond a x (cond b y z) ≡ cond b y (cond a x z)
swapped true true x y z h = absurd (h refl refl)
swapped true false x y z h = refl
swapped false true x y z h = refl
swapped false false x y z h = refl

both : (a name n : List ℕ) → bytes_eq a name ≡ false → bytes_eq a n ≡ true → bytes_eq name n ≡ true → ⊥
both a name n apart e g =
    let same : a ≡ name = (bytes_eq-Decides a n).0 e ∙ sym ((bytes_eq-Decides name n).0 g) in
    false_true (sym apart ∙ (bytes_eq-Decides a name).1 same)

equal : (a n : List ℕ) → bytes_eq a n ≡ true → a ≡ n
equal a n e = (bytes_eq-Decides a n).0 e

-- ---- the text and what was reported for each name, where one of a name is put in the place of the first

module _ (name : List ℕ) (j : Judged) (named : string_bytes j.template.file ≡ name) where
  pub text_set : (js : List Judged) (i : ℕ) → i < length js → has_name name (get_or js i j) ≡ true → ((m : ℕ) → m < i → has_name name (get_or js m j) ≡ false)
      → (n : List ℕ) → text_named n (set (sources_of js) i (source_of j)) ≡ cond (bytes_eq name n) j.text (text_named n (sources_of js))
  text_set [] i within is first n = absurd (omega arith)
  text_set (x ∷ js) zero within is first n =
      ap (λ m. cond (bytes_eq m n) j.text (text_named n (sources_of js))) named
      ∙ again_same (bytes_eq name n) j.text x.text (text_named n (sources_of js))
      ∙ ap (λ m. cond (bytes_eq name n) j.text (cond (bytes_eq m n) x.text (text_named n (sources_of js)))) (sym (equal (string_bytes x.template.file) name is))
  text_set (x ∷ js) (suc i) within is first n =
      ap (cond (bytes_eq (string_bytes x.template.file) n) x.text) (text_set js i (omega arith) is (λ m h. first (suc m) (omega arith)) n)
      ∙ swapped (bytes_eq (string_bytes x.template.file) n) (bytes_eq name n) x.text j.text (text_named n (sources_of js)) (both (string_bytes x.template.file) name n (first 0 (omega arith)))

  pub reported_set : (js : List Judged) (i : ℕ) → i < length js → has_name name (get_or js i j) ≡ true → reported_of j ≡ reported_of (get_or js i j)
      → (n : List ℕ) → reported_named n (set js i j) ≡ reported_named n js
  reported_set [] i within is same n = refl
  reported_set (x ∷ js) zero within is same n =
      ap (λ m. cond (bytes_eq m n) (reported_of j) (reported_named n js)) (named ∙ sym (equal (string_bytes x.template.file) name is))
      ∙ ap (λ ds. cond (bytes_eq (string_bytes x.template.file) n) ds (reported_named n js)) same
  reported_set (x ∷ js) (suc i) within is same n =
      ap (cond (bytes_eq (string_bytes x.template.file) n) (reported_of x)) (reported_set js i (omega arith) is same n)

  -- where it is put among others, of which none has the name
  pub text_insert : (js : List Judged) (i : ℕ) → i ≤ length js → ((m : ℕ) → m < length js → has_name name (get_or js m j) ≡ false)
      → (n : List ℕ) → text_named n (sources_of (insert js i j)) ≡ cond (bytes_eq name n) j.text (text_named n (sources_of js))
  text_insert js zero within none n = ap (λ m. cond (bytes_eq m n) j.text (text_named n (sources_of js))) named
  text_insert [] (suc i) within none n = absurd (omega arith)
  text_insert (x ∷ js) (suc i) within none n =
      ap (cond (bytes_eq (string_bytes x.template.file) n) x.text) (text_insert js i (omega arith) (λ m h. none (suc m) (omega arith)) n)
      ∙ swapped (bytes_eq (string_bytes x.template.file) n) (bytes_eq name n) x.text j.text (text_named n (sources_of js)) (both (string_bytes x.template.file) name n (none 0 (omega arith)))

  none_reported : (js : List Judged) → ((m : ℕ) → m < length js → has_name name (get_or js m j) ≡ false) → reported_named name js ≡ []
  none_reported [] none = refl
  none_reported (x ∷ js) none =
      ap (λ b. cond b (reported_of x) (reported_named name js)) (none 0 (omega arith)) ∙ none_reported js (λ m h. none (suc m) (omega arith))

  reported_insert_at : (js : List Judged) (i : ℕ) → i ≤ length js → reported_of j ≡ [] → ((m : ℕ) → m < length js → has_name name (get_or js m j) ≡ false)
      → (n : List ℕ) → reported_named n (insert js i j) ≡ cond (bytes_eq name n) [] (reported_named n js)
  reported_insert_at js zero within unreported none n =
      ap (λ m. cond (bytes_eq m n) (reported_of j) (reported_named n js)) named ∙ ap (λ ds. cond (bytes_eq name n) ds (reported_named n js)) unreported
  reported_insert_at [] (suc i) within unreported none n = absurd (omega arith)
  reported_insert_at (x ∷ js) (suc i) within unreported none n =
      ap (cond (bytes_eq (string_bytes x.template.file) n) (reported_of x)) (reported_insert_at js i (omega arith) unreported (λ m h. none (suc m) (omega arith)) n)
      ∙ swapped (bytes_eq (string_bytes x.template.file) n) (bytes_eq name n) (reported_of x) [] (reported_named n js) (both (string_bytes x.template.file) name n (none 0 (omega arith)))

  if_nothing : (b : Bool) (ds : List DiagnosticVal) → (b ≡ true → ds ≡ []) → cond b [] ds ≡ ds
  if_nothing true ds h = sym (h refl)
  if_nothing false ds h = refl

  pub reported_insert : (js : List Judged) (i : ℕ) → i ≤ length js → reported_of j ≡ [] → ((m : ℕ) → m < length js → has_name name (get_or js m j) ≡ false)
      → (n : List ℕ) → reported_named n (insert js i j) ≡ reported_named n js
  reported_insert js i within unreported none n =
      reported_insert_at js i within unreported none n
      ∙ if_nothing (bytes_eq name n) (reported_named n js) (λ e. ap (λ m. reported_named m js) (sym (equal name n e)) ∙ none_reported js none)

-- ---- all of them whole

whole_with : (j : Judged) (touched : List (List ℕ)) (file : List ℕ) → IsWhole j → IsWhole (marked touched file j)
whole_with j touched file w = record { read = w.read; names = w.names; page = w.page }

marked_whole : (touched : List (List ℕ)) (file : List ℕ) (js : List Judged) → AllWhole js → AllWhole (map (marked touched file) js)
marked_whole touched file [] w = tt
marked_whole touched file (j ∷ js) w = (whole_with j touched file w.0, marked_whole touched file js w.1)

set_whole : (js : List Judged) (i : ℕ) (j : Judged) → IsWhole j → AllWhole js → AllWhole (set js i j)
set_whole [] i j one w = tt
set_whole (x ∷ js) zero j one w = (one, w.1)
set_whole (x ∷ js) (suc i) j one w = (w.0, set_whole js i j one w.1)

insert_whole : (js : List Judged) (i : ℕ) (j : Judged) → i ≤ length js → IsWhole j → AllWhole js → AllWhole (insert js i j)
insert_whole js zero j within one w = (one, w)
insert_whole [] (suc i) j within one w = absurd (omega arith)
insert_whole (x ∷ js) (suc i) j within one w = (w.0, insert_whole js i j (omega arith) one w.1)

marked_reported : (n : List ℕ) (touched : List (List ℕ)) (file : List ℕ) (js : List Judged) → reported_named n (map (marked touched file) js) ≡ reported_named n js
marked_reported n touched file [] = refl
marked_reported n touched file (j ∷ js) = ap (cond (bytes_eq (string_bytes j.template.file) n) (reported_of j)) (marked_reported n touched file js)

pub default_same : (js : List Judged) (k : ℕ) (d e : Judged) → k < length js → get_or js k d ≡ get_or js k e
default_same [] k d e h = absurd (omega arith)
default_same (j ∷ js) zero d e h = refl
default_same (j ∷ js) (suc k) d e h = default_same js k d e (omega arith)

set_again : {X : Type 0} (xs : List X) (i : ℕ) (x y : X) → set (set xs i x) i y ≡ set xs i y
set_again [] i x y = refl
set_again (z ∷ xs) zero x y = refl
set_again (z ∷ xs) (suc i) x y = ap (λ ys. z ∷ ys) (set_again xs i x y)

-- ---- the order of the names

names_set : (js : List Judged) (i : ℕ) (j : Judged) → string_bytes (get_or js i j).template.file ≡ string_bytes j.template.file
    → map (λ (s : Source). s.name) (sources_of (set js i j)) ≡ map (λ (s : Source). s.name) (sources_of js)
names_set [] i j h = refl
names_set (x ∷ js) zero j h = ap (λ n. n ∷ map (λ (s : Source). s.name) (sources_of js)) (sym h)
names_set (x ∷ js) (suc i) j h = ap (λ ns. string_bytes x.template.file ∷ ns) (names_set js i j h)

less_if : (r : Ordering) → is_gt r ≡ false → is_eq r ≡ false → r ≡ Less
less_if Less g e = refl
less_if Equal g e = absurd (false_true (sym e))
less_if Greater g e = absurd (false_true (sym g))

turned : (r : Ordering) → is_gt r ≡ true → ordering_reverse r ≡ Less
turned Less g = absurd (false_true g)
turned Equal g = absurd (false_true g)
turned Greater g = refl

all_insert : (a : List ℕ) (js : List Judged) (i : ℕ) (j : Judged) → AllByRecursion (λ n. slice_cmp nat_cmp a n ≡ Less) (map (λ (s : Source). s.name) (sources_of js)) → slice_cmp nat_cmp a (string_bytes j.template.file) ≡ Less
    → i ≤ length js → AllByRecursion (λ n. slice_cmp nat_cmp a n ≡ Less) (map (λ (s : Source). s.name) (sources_of (insert js i j)))
all_insert a js zero j all h within = (h, all)
all_insert a [] (suc i) j all h within = absurd (omega arith)
all_insert a (x ∷ js) (suc i) j all h within = (all.0, all_insert a js i j all.1 h (omega arith))

module _ (name : List ℕ) (j : Judged) (named : string_bytes j.template.file ≡ name) where
  less_named : (x : Judged) → is_gt (slice_cmp nat_cmp (string_bytes x.template.file) name) ≡ false → has_name name x ≡ false → slice_cmp nat_cmp (string_bytes x.template.file) (string_bytes j.template.file) ≡ Less
  less_named x g e =
      ap (slice_cmp nat_cmp (string_bytes x.template.file)) named
      ∙ less_if (slice_cmp nat_cmp (string_bytes x.template.file) name) g (is_eq-slice_cmp (string_bytes x.template.file) name ∙ e)

  insert_ordered : (js : List Judged) (i : ℕ) → i ≤ length js
      → ((m : ℕ) → m < i → is_gt (slice_cmp nat_cmp (string_bytes (get_or js m j).template.file) name) ≡ false)
      → (i < length js → is_gt (slice_cmp nat_cmp (string_bytes (get_or js i j).template.file) name) ≡ true)
      → ((m : ℕ) → m < length js → has_name name (get_or js m j) ≡ false)
      → AreInOrder (map (λ (s : Source). s.name) (sources_of js)) → AreInOrder (map (λ (s : Source). s.name) (sources_of (insert js i j)))
  insert_ordered [] zero within before following none o = (tt, tt)
  insert_ordered (x ∷ js) zero within before following none o =
      let below : slice_cmp nat_cmp (string_bytes j.template.file) (string_bytes x.template.file) ≡ Less =
      ap (λ n. slice_cmp nat_cmp n (string_bytes x.template.file)) named
      ∙ nat_list_cmp_total.antisymm name (string_bytes x.template.file)
      ∙ turned (slice_cmp nat_cmp (string_bytes x.template.file) name) (following (omega arith)) in
      ((below, all_above (string_bytes j.template.file) (string_bytes x.template.file) below (map (λ (s : Source). s.name) (sources_of js)) o.0), o)
  insert_ordered [] (suc i) within before following none o = absurd (omega arith)
  insert_ordered (x ∷ js) (suc i) within before following none o = (
    all_insert (string_bytes x.template.file) js i j o.0 (less_named x (before 0 (omega arith)) (none 0 (omega arith))) (omega arith),
    insert_ordered js i (omega arith) (λ m h. before (suc m) (omega arith)) (λ h. following (omega arith)) (λ m h. none (suc m) (omega arith)) o.1,
  )

  insert_sorted : (js : List Judged) (i : ℕ) → IsNewPlace name js i → AreAscending (sources_of js) → AreAscending (sources_of (insert js i j))
  insert_sorted js i place o = insert_ordered js i place.within (λ m h. place.before m j h) (λ h. place.following j h) (λ m h. place.none m j h) o

-- ---- another text of one that is among them

module _ (name : List ℕ) (touched : List (List ℕ)) (js : List Judged) (i : ℕ) (j d : Judged) (number : IsNumbered name js i) (newly_read : IsNewlyRead name j.text j)
    (heads : (n : List ℕ) → is_among n touched ≡ false → HaveOneHeadIn n (get_or js i d).template j.template) where
  -- it keeps what was reported
  abbrev pub with_reported : Judged
  with_reported = record j { reported = (get_or js i d).reported }

  abbrev pub put_there : List Judged
  put_there = set (map (marked touched name) js) i with_reported

  whole_reported : IsWhole with_reported
  whole_reported = record { read = newly_read.whole.read; names = newly_read.whole.names; page = newly_read.whole.page }

  reported_same : reported_of with_reported ≡ reported_of (get_or (map (marked touched name) js) i with_reported)
  reported_same = ap reported_of (default_same js i d with_reported number.within) ∙ sym (ap reported_of (marked_at touched name js i with_reported number.within))

  put_stays : StayIf js put_there
  put_stays = record {
    whole = λ w. set_whole (map (marked touched name) js) i with_reported whole_reported (marked_whole touched name js w);
    current = λ e w opened current.
        subst (λ file. AreCurrent e (set (map (marked touched file) js) i with_reported)) newly_read.named
        (replaced_current e touched js i with_reported d number.within (equal (string_bytes (get_or js i d).template.file) name (number.is d) ∙ sym newly_read.named) newly_read.stale w heads
        (subst (λ file. are_open (templates_of js) ≡ are_open (templates_of (set (map (marked touched file) js) i with_reported))) (sym newly_read.named) opened) current);
    ordered = λ o. subst AreInOrder (sym (names_set (map (marked touched name) js) i with_reported
        (ap (λ x. string_bytes x.template.file) (marked_at touched name js i with_reported number.within) ∙ equal (string_bytes (get_or js i with_reported).template.file) name (number.is with_reported) ∙ sym newly_read.named)
        ∙ ap (map (λ (s : Source). s.name)) (marked_sources touched name js))) o;
    reported = λ n.
        reported_set name with_reported newly_read.named (map (marked touched name) js) i (omega (arith, number.within, marked_length touched name js))
        (ap (has_name name) (marked_at touched name js i with_reported number.within) ∙ number.is with_reported)
        reported_same n
        ∙ marked_reported n touched name js;
  }

  put_text : IsTextAt name j.text js put_there
  put_text n =
      ap (text_named n) (sources_set (map (marked touched name) js) i with_reported ∙ ap (λ ss. set ss i (source_of j)) (marked_sources touched name js))
      ∙ text_set name j newly_read.named js i number.within (number.is j) (λ m h. number.first m j h) n

  pub put_kept : StayKept js (now_marked js put_there)
  put_kept = kept_if js put_there put_stays

  pub put_read : IsTextAt name j.text js (now_marked js put_there)
  put_read = text_if js put_there name j.text put_text

  -- as the code puts it there: the mark, and then the other text
  pub put_is : (items : List Judged) (m n : Judged) (reported : Vec Diagnostic Global) → items ≡ map (marked touched name) js → m ≡ get_or items i m → reported ≡ m.reported
      → set (set items i n) i (record j { reported = reported }) ≡ put_there
  put_is items m n reported are is same =
      let one : reported ≡ (get_or js i d).reported =
      same ∙ ap (λ x. x.reported) (is ∙ ap (λ xs. get_or xs i m) are ∙ marked_at touched name js i m number.within) ∙ ap (λ x. x.reported) (default_same js i m d number.within) in
      set_again items i n (record j { reported = reported }) ∙ λ k. set (are k) i (record j { reported = one k })

-- ---- the same text again

stays_if : {X : Type 0} (b : Bool) (x y : X) → (b ≡ true → y ≡ x) → y ≡ cond b x y
stays_if true x y h = h refl
stays_if false x y h = refl

pub text_stays : (name text : List ℕ) (js : List Judged) (i : ℕ) (d : Judged) → IsNumbered name js i → (get_or js i d).text ≡ text → IsTextAt name text js js
text_stays name text js i d number same n =
    stays_if (bytes_eq name n) text (text_named n (sources_of js)) (λ e. ap (λ m. text_named m (sources_of js)) (sym (equal name n e)) ∙ text_numbered name js i d number ∙ same)

-- ---- one more

module _ (name : List ℕ) (touched : List (List ℕ)) (js : List Judged) (i : ℕ) (j : Judged) (place : IsNewPlace name js i) (newly_read : IsNewlyRead name j.text j)
    (heads : (n : List ℕ) → is_among n touched ≡ false → HaveOneHeadIfAny None (definition_named n (definitions_of j.template))) where
  text_more : (n : List ℕ) → text_named n (sources_of (insert js i j)) ≡ cond (bytes_eq name n) j.text (text_named n (sources_of js))
  text_more n = text_insert name j newly_read.named js i place.within (λ m h. place.none m j h) n

  abbrev pub inserted : List Judged
  inserted = map (marked touched name) (insert js i j)

  insert_stays : StayIf js inserted
  insert_stays = record {
    whole = λ w. marked_whole touched name (insert js i j) (insert_whole js i j place.within newly_read.whole w);
    current = λ e w opened current.
        inserted_current e name touched js i j place.within newly_read.stale w heads
        (λ n other. text_more n ∙ ap (λ b. cond b j.text (text_named n (sources_of js))) (differ name n (λ same. other (sym same)))) opened current;
    ordered = λ o. subst AreAscending (sym (marked_sources touched name (insert js i j))) (insert_sorted name j newly_read.named js i place o);
    reported = λ n. marked_reported n touched name (insert js i j) ∙ reported_insert name j newly_read.named js i place.within newly_read.unreported (λ m h. place.none m j h) n;
  }

  insert_text : IsTextAt name j.text js inserted
  insert_text n = ap (text_named n) (marked_sources touched name (insert js i j)) ∙ text_more n

  pub insert_kept : StayKept js (now_marked js inserted)
  insert_kept = kept_if js inserted insert_stays

  pub insert_read : IsTextAt name j.text js (now_marked js inserted)
  insert_read = text_if js inserted name j.text insert_text
