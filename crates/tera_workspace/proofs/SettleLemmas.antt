-- Documents of which all was reported.
use Rattle.std.proofs.Common.{◌≡◌, ◌∙◌, ◌<◌, ℕ, zero, suc, List, [], ◌∷◌, length, get_or, map, false, cond, Option, None, Some, Vec, string_bytes, refl, sym, ap, subst, arith}
use Rattle.std.specs.Cmp.Lexicographic.{slice_cmp}
use Rattle.std.specs.List.{AllByRecursion}
use Rattle.std.specs.Ordering.{nat_cmp, is_eq}
use Rattle.std.specs.Str.{bytes_eq}
use Rattle.std.specs.declared.alloc.Global.{Global}
use Rattle.std.specs.declared.cmp.Ordering.TheVariants.{Less}
use Rattle.std.proofs.lemmas.Map.Text.{is_eq-slice_cmp}
use Rattle.std.proofs.lemmas.Slice.Eq.{bytes_eq-Decides}
use Rattle.text_edits.specs.declared.positions.Encoding.{Encoding}
use Rattle.tera_templates.specs.declared.templates.Template.{Template}
use Rattle.tera_workspace.specs.Fresh.{IsRead, IsReported, AreTemplates, AreFresh}
use Rattle.tera_workspace.specs.Kept.{source_of, sources_of, templates_of, reported_of, reported_named, IsWhole, AllWhole, AreCurrent}
use Rattle.tera_workspace.specs.Sources.{Source, AreAscending}
use Rattle.tera_workspace.specs.Reported.{IsNewsBy, AreNews, reported_one, reported_each}
use Rattle.tera_workspace.specs.declared.diagnostics.Diagnostic.{Diagnostic}
use Rattle.tera_workspace.specs.declared.judged.Judged.{Judged}
use Rattle.tera_workspace.proofs.CurrentLemmas.{all_at}

abbrev pub News : Type 0
News = Option (Vec Diagnostic Global)

-- ---- what reporting leaves

one_source : (j : Judged) (v : News) → source_of (reported_one j v) ≡ source_of j
one_source j None = refl
one_source j (Some v) = refl

pub one_template : (j : Judged) (v : News) → (reported_one j v).template ≡ j.template
one_template j None = refl
one_template j (Some v) = refl

one_whole : (j : Judged) (v : News) → IsWhole j → IsWhole (reported_one j v)
one_whole j None w = w
one_whole j (Some v) w = record { read = w.read; names = w.names; page = w.page }

pub reported_sources : (js : List Judged) (news : List News) → sources_of (reported_each js news) ≡ sources_of js
reported_sources [] news = refl
reported_sources (j ∷ js) [] = refl
reported_sources (j ∷ js) (v ∷ news) = λ i. one_source j v i ∷ reported_sources js news i

-- so they are in the same order
pub still_ordered : (js now : List Judged) (news : List News) → now ≡ reported_each js news → AreAscending (sources_of js) → AreAscending (sources_of now)
still_ordered js now news is ordered = subst (λ (xs : List Judged). AreAscending (sources_of xs)) (sym is) (subst AreAscending (sym (reported_sources js news)) ordered)

pub reported_templates : (js : List Judged) (news : List News) → templates_of (reported_each js news) ≡ templates_of js
reported_templates [] news = refl
reported_templates (j ∷ js) [] = refl
reported_templates (j ∷ js) (v ∷ news) = λ i. one_template j v i ∷ reported_templates js news i

pub reported_whole : (js : List Judged) (news : List News) → AllWhole js → AllWhole (reported_each js news)
reported_whole [] news w = tt
reported_whole (j ∷ js) [] w = w
reported_whole (j ∷ js) (v ∷ news) w = (one_whole j v w.0, reported_whole js news w.1)

reported_length : (js : List Judged) (news : List News) → length (reported_each js news) ≡ length js
reported_length [] news = refl
reported_length (j ∷ js) [] = refl
reported_length (j ∷ js) (v ∷ news) = ap suc (reported_length js news)

reported_at : (js : List Judged) (news : List News) (k : ℕ) (d : Judged) → k < length js → length news ≡ length js → get_or (reported_each js news) k d ≡ reported_one (get_or js k d) (get_or news k None)
reported_at [] news k d h same = absurd (omega arith)
reported_at (j ∷ js) [] k d h same = absurd (omega arith)
reported_at (j ∷ js) (v ∷ news) zero d h same = refl
reported_at (j ∷ js) (v ∷ news) (suc k) d h same = reported_at js news k d (omega arith) (omega arith)

-- ---- each is reported as it is found

module _ (e : Encoding) (js : List Judged) (news : List News) (current : AreCurrent e js) (are : AreNews e js news) where
  abbrev now : List Judged
  now = reported_each js news

  one_reported : (ss : List Source) (ts : List Template) (k : ℕ) (j : Judged) (v : News) → (j.stale ≡ false → IsReported e ss ts k j.text j.template (reported_of j))
      → IsNewsBy e ss ts k j v → IsReported e ss ts k (reported_one j v).text (reported_one j v).template (reported_of (reported_one j v))
  one_reported ss ts k j None current h = current h
  one_reported ss ts k j (Some v) current h = h

  pub all_reported : (k : ℕ) (d : Judged) → k < length now → IsReported e (sources_of now) (templates_of now) k (get_or now k d).text (get_or now k d).template (reported_of (get_or now k d))
  all_reported k d h =
      let within : k < length js = omega (arith, reported_length js news) in
      let made = one_reported (sources_of js) (templates_of js) k (get_or js k d) (get_or news k None) (current k d within) (are.each k d within) in
      subst (λ j. IsReported e (sources_of now) (templates_of now) k j.text j.template (reported_of j)) (sym (reported_at js news k d within are.as_many))
      (subst (λ ss. IsReported e ss (templates_of now) k (reported_one (get_or js k d) (get_or news k None)).text (reported_one (get_or js k d) (get_or news k None)).template (reported_of (reported_one (get_or js k d) (get_or news k None)))) (sym (reported_sources js news))
      (subst (λ ts. IsReported e (sources_of js) ts k (reported_one (get_or js k d) (get_or news k None)).text (reported_one (get_or js k d) (get_or news k None)).template (reported_of (reported_one (get_or js k d) (get_or news k None)))) (sym (reported_templates js news)) made))

  pub now_current : AreCurrent e now
  now_current k d h fresh = all_reported k d h

-- ---- each name is once

pub not_equal : (a b : List ℕ) → slice_cmp nat_cmp a b ≡ Less → bytes_eq a b ≡ false
not_equal a b h = sym (is_eq-slice_cmp a b) ∙ ap is_eq h

pub names_at : (js : List Judged) (k : ℕ) (d : Judged) (P : List ℕ → Type 0) → k < length js → AllByRecursion P (map (λ (s : Source). s.name) (sources_of js)) → P (string_bytes (get_or js k d).template.file)
names_at [] k d P h all = absurd (omega arith)
names_at (j ∷ js) zero d P h all = all.0
names_at (j ∷ js) (suc k) d P h all = names_at js k d P (omega arith) all.1

pub reported_once : (js : List Judged) (k : ℕ) (d : Judged) → k < length js → AreAscending (sources_of js) → reported_named (string_bytes (get_or js k d).template.file) js ≡ reported_of (get_or js k d)
reported_once [] k d h o = absurd (omega arith)
reported_once (j ∷ js) zero d h o =
    ap (λ b. cond b (reported_of j) (reported_named (string_bytes j.template.file) js)) ((bytes_eq-Decides (string_bytes j.template.file) (string_bytes j.template.file)).1 refl)
reported_once (j ∷ js) (suc k) d h o =
    ap (λ b. cond b (reported_of j) (reported_named (string_bytes (get_or js k d).template.file) js))
    (not_equal (string_bytes j.template.file) (string_bytes (get_or js k d).template.file) (names_at js k d (λ n. slice_cmp nat_cmp (string_bytes j.template.file) n ≡ Less) (omega arith) o.0))
    ∙ reported_once js k d (omega arith) o.1

-- ---- what was reported is fresh

at_map : {Y : Type 0} (f : Judged → Y) (js : List Judged) (k : ℕ) (e : Y) → k < length js → (d : Judged) → get_or (map f js) k e ≡ f (get_or js k d)
at_map f [] k e h d = absurd (omega arith)
at_map f (j ∷ js) zero e h d = refl
at_map f (j ∷ js) (suc k) e h d = at_map f js k e (omega arith) d

map_length : {Y : Type 0} (f : Judged → Y) (js : List Judged) → length (map f js) ≡ length js
map_length f [] = refl
map_length f (j ∷ js) = ap suc (map_length f js)

some_of : (js : List Judged) (k : ℕ) → k < length js → Judged
some_of [] k h = absurd (omega arith)
some_of (j ∷ js) k h = j

module _ (js : List Judged) (whole : AllWhole js) where
  at_read : (k : ℕ) (s : Source) (t : Template) → k < length (sources_of js) → IsRead (get_or (sources_of js) k s) (get_or (templates_of js) k t)
  at_read k s t h =
      let within : k < length js = omega (arith, map_length source_of js) in
      let d = some_of js k within in
      subst (λ x. IsRead x (get_or (templates_of js) k t)) (sym (at_map source_of js k s within d))
      (subst (IsRead (source_of (get_or js k d))) (sym (at_map (λ j. j.template) js k t within d)) (all_at IsWhole js k d whole within).read)

  pub all_read : AreTemplates (sources_of js) (templates_of js)
  all_read = record { as_many = map_length (λ j. j.template) js ∙ sym (map_length source_of js); read = at_read }

module _ (e : Encoding) (js : List Judged) (whole : AllWhole js) (ordered : AreAscending (sources_of js))
    (reported : (k : ℕ) (d : Judged) → k < length js → IsReported e (sources_of js) (templates_of js) k (get_or js k d).text (get_or js k d).template (reported_of (get_or js k d))) where
  at_reported : (k : ℕ) (s : Source) (t : Template) → k < length (sources_of js)
      → IsReported e (sources_of js) (templates_of js) k (get_or (sources_of js) k s).text (get_or (templates_of js) k t) (reported_named (get_or (sources_of js) k s).name js)
  at_reported k s t h =
      let within : k < length js = omega (arith, map_length source_of js) in
      let d = some_of js k within in
      subst (λ x. IsReported e (sources_of js) (templates_of js) k x.text (get_or (templates_of js) k t) (reported_named x.name js)) (sym (at_map source_of js k s within d))
      (subst (λ x. IsReported e (sources_of js) (templates_of js) k (get_or js k d).text x (reported_named (string_bytes (get_or js k d).template.file) js)) (sym (at_map (λ j. j.template) js k t within d))
      (subst (IsReported e (sources_of js) (templates_of js) k (get_or js k d).text (get_or js k d).template) (sym (reported_once js k d within ordered)) (reported k d within)))

  pub all_fresh : AreFresh e (sources_of js) (λ n. reported_named n js)
  all_fresh = record {
    templates = templates_of js;
    are = all_read js whole;
    reported = at_reported;
  }
