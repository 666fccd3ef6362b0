-- What is to be reported for documents, and of which of them it is another list than was reported.
use Rattle.std.proofs.Common.{◌≡◌, ◌≢◌, ◌∙◌, ◌<◌, ◌≤◌, ◌+◌, ℕ, zero, suc, List, [], ◌∷◌, ◌++◌, length, get_or, set, take, drop, map, Bool, true, false, cond, None, String, string_bytes, refl, sym, ap, subst, inl, inr, arith, append_assoc}
use Rattle.std.proofs.Common.{if◌then◌else◌}
use Rattle.std.proofs.lemmas.Bool.{cases_eq}
use Rattle.std.proofs.lemmas.List.{map-append, get_or_push, get_or_append_left, length_push}
use Rattle.std.proofs.lemmas.Slice.Eq.{bytes_eq-Decides}
use Rattle.std.specs.Bool.{Decides}
use Rattle.std.specs.Cmp.Lexicographic.{slice_cmp}
use Rattle.std.specs.List.{AllByRecursion}
use Rattle.std.specs.Ordering.{nat_cmp}
use Rattle.std.specs.Str.{bytes_eq}
use Rattle.std.specs.declared.alloc.Global.{Global}
use Rattle.std.specs.declared.cmp.Ordering.TheVariants.{Less}
use Rattle.text_edits.specs.declared.positions.Encoding.{Encoding}
use Rattle.tera_workspace.specs.Diagnostics.{DiagnosticVal}
use Rattle.tera_workspace.specs.Kept.{sources_of, reported_of, reported_named}
use Rattle.tera_workspace.specs.Names.{is_among}
use Rattle.tera_workspace.specs.Sources.{Source, AreInOrder, AreAscending}
use Rattle.tera_workspace.specs.Reported.{IsNews, AreNews, AreOfOthers, reported_one, reported_each}
use Rattle.tera_workspace.specs.Workspaces.{AreOthers}
use Rattle.tera_workspace.specs.declared.judged.Judged.{Judged}
use Rattle.tera_workspace.proofs.NameSets.{drop_next, drop_end}
use Rattle.tera_workspace.proofs.PlaceLemmas.{differ}
use Rattle.tera_workspace.proofs.ReadingLemmas.{default_same}
use Rattle.tera_workspace.proofs.SettleLemmas.{News, one_template, not_equal}

false_true : false ≡ true → ⊥
false_true e = cc

-- ---- what is to be reported for the first ones

pub record AreNewsSoFar (e : Encoding) (js : List Judged) (news : List News) : Type 0 where
  pub within : length news ≤ length js
  pub each : (k : ℕ) (d : Judged) → k < length news → IsNews e js k (get_or js k d) (get_or news k None)

module _ (e : Encoding) (js : List Judged) (news : List News) (v : News) (j : Judged) (within : length news < length js) (is : j ≡ get_or js (length news) j)
    (one : IsNews e js (length news) j v) (h : AreNewsSoFar e js news) where
  at_last : (d : Judged) → IsNews e js (length news) (get_or js (length news) d) (get_or (news ++ v ∷ []) (length news) None)
  at_last d =
      subst (λ (y : News). IsNews e js (length news) (get_or js (length news) d) y) (sym (get_or_push news v None (length news) refl))
      (subst (λ (y : Judged). IsNews e js (length news) y v) (is ∙ default_same js (length news) j d within) one)

  before : (m : ℕ) (d : Judged) → m < length news → IsNews e js m (get_or js m d) (get_or (news ++ v ∷ []) m None)
  before m d below = subst (λ (y : News). IsNews e js m (get_or js m d) y) (sym (get_or_append_left news (v ∷ []) None m below)) (h.each m d below)

  each_now : (m : ℕ) (d : Judged) → m < length (news ++ v ∷ []) → IsNews e js m (get_or js m d) (get_or (news ++ v ∷ []) m None)
  each_now m d below = elim (cases_eq m (length news)) [
    | inl last ↦ subst (λ (x : ℕ). IsNews e js x (get_or js x d) (get_or (news ++ v ∷ []) x None)) (sym last) (at_last d)
    | inr other ↦ before m d (smaller m (length news) (omega (arith, length_push news v, below)) other)
  ]
    where
      smaller : (m k : ℕ) → m ≤ k → (m ≡ k → ⊥) → m < k
      smaller m k h other = omega arith

  news_more : AreNewsSoFar e js (news ++ v ∷ [])
  news_more = record { within = omega (arith, length_push news v); each = each_now }

pub news_next : (e : Encoding) (js : List Judged) (news : List News) (v : News) (k : ℕ) (j : Judged) → length news ≡ k → k < length js → j ≡ get_or js k j → IsNews e js k j v
    → AreNewsSoFar e js news → AreNewsSoFar e js (news ++ v ∷ [])
news_next e js news v k j at within is one h =
    news_more e js news v j (omega (arith, at, within)) (subst (λ (m : ℕ). j ≡ get_or js m j) (sym at) is) (subst (λ (m : ℕ). IsNews e js m j v) (sym at) one) h

pub all_news : (e : Encoding) (js : List Judged) (news : List News) → length news ≡ length js → AreNewsSoFar e js news → AreNews e js news
all_news e js news same h = record { as_many = same; each = λ k d below. h.each k d (omega (arith, below)) }

-- ---- the names of those of which it is another list

module _ (js : List Judged) (news : List News) (i : ℕ) (j : Judged) (v : News) (in_js : i < length js) (in_news : i < length news) (is : j ≡ get_or js i j) (is_v : v ≡ get_or news i v) where
  from_here : (names : List (List ℕ)) → AreOfOthers (j ∷ drop (suc i) js) (v ∷ drop (suc i) news) names → AreOfOthers (drop i js) (drop i news) names
  from_here names h =
      subst (λ (xs : List Judged). AreOfOthers xs (drop i news) names) (sym (drop_next js i j in_js is))
      (subst (λ (vs : List News). AreOfOthers (j ∷ drop (suc i) js) vs names) (sym (drop_next news i v in_news is_v)) h)

  following : (rest : List (List ℕ)) → AreOfOthers (drop (i + 1) js) (drop (i + 1) news) rest → AreOfOthers (drop (suc i) js) (drop (suc i) news) rest
  following rest h = let next : i + 1 ≡ suc i = omega arith in subst (λ (k : ℕ). AreOfOthers (drop k js) (drop k news) rest) next h

  pub is_other : reported_of (reported_one j v) ≢ reported_of j → (rest : List (List ℕ)) → AreOfOthers (drop (i + 1) js) (drop (i + 1) news) rest → AreOfOthers (drop i js) (drop i news) (string_bytes j.template.file ∷ rest)
  is_other apart rest h = from_here (string_bytes j.template.file ∷ rest) (inr (apart, rest, refl, following rest h))

  pub is_same : reported_of (reported_one j v) ≡ reported_of j → (rest : List (List ℕ)) → AreOfOthers (drop (i + 1) js) (drop (i + 1) news) rest → AreOfOthers (drop i js) (drop i news) rest
  is_same same rest h = from_here rest (inl (same, following rest h))

pub name_pushed : (names now : List (String Global)) (s : String Global) (name : List ℕ) (rest : List (List ℕ)) → now ≡ names ++ s ∷ [] → string_bytes s ≡ name
    → map string_bytes names ++ (name ∷ rest) ≡ map string_bytes now ++ rest
name_pushed names now s name rest is same =
    ap (λ (n : List ℕ). map string_bytes names ++ (n ∷ rest)) (sym same)
    ∙ sym (append_assoc (map string_bytes names) (string_bytes s ∷ []) rest)
    ∙ ap (λ ns. ns ++ rest) (sym (map-append string_bytes names (s ∷ [])))
    ∙ ap (λ ns. map string_bytes ns ++ rest) (sym is)

nil_end : {X : Type 0} (xs : List X) → xs ++ [] ≡ xs
nil_end [] = refl
nil_end (x ∷ xs) = ap (λ ys. x ∷ ys) (nil_end xs)

pub others_done : (js : List Judged) (news : List News) (names : List (List ℕ)) (i : ℕ) → length js ≤ i
    → ((rest : List (List ℕ)) → AreOfOthers (drop i js) (drop i news) rest → AreOfOthers js news (names ++ rest)) → AreOfOthers js news names
others_done js news names i all h =
    subst (AreOfOthers js news) (nil_end names) (h [] (subst (λ (xs : List Judged). AreOfOthers xs (drop i news) []) (sym (drop_end js i all)) refl))

-- ---- each list that is reported, and reported before

abbrev Reports : Bool → List DiagnosticVal → List DiagnosticVal → Type 0
Reports true x y = x ≢ y
Reports false x y = x ≡ y

same_first : (b among : Bool) (t u r s : List DiagnosticVal) → t ≡ u → (b ≡ true → among ≡ false) → Reports among r s → Reports among (cond b t r) (cond b u s)
same_first true among t u r s e none h = subst (λ (c : Bool). Reports c t u) (sym (none refl)) e
same_first false among t u r s e none h = h

other_first : (b among : Bool) (t u r s : List DiagnosticVal) → t ≢ u → Reports among r s → Reports (if b then true else among) (cond b t r) (cond b u s)
other_first true among t u r s apart h = apart
other_first false among t u r s apart h = h

all_of : (P : List ℕ → Type 0) (js : List Judged) (news : List News) (names : List (List ℕ)) → AreOfOthers js news names → AllByRecursion P (map (λ (s : Source). s.name) (sources_of js)) → AllByRecursion P names
all_of P [] news names h all = subst (AllByRecursion P) (sym h) tt
all_of P (j ∷ js) [] names h all = subst (AllByRecursion P) (sym h) tt
all_of P (j ∷ js) (v ∷ news) names h all = elim h [
  | inl w ↦ all_of P js news names w.1 all.1
  | inr w ↦ subst (AllByRecursion P) (sym w.2) (all.0, all_of P js news w.1 w.3 all.1)
]

in_order : (js : List Judged) (news : List News) (names : List (List ℕ)) → AreOfOthers js news names → AreInOrder (map (λ (s : Source). s.name) (sources_of js)) → AreInOrder names
in_order [] news names h o = subst AreInOrder (sym h) tt
in_order (j ∷ js) [] names h o = subst AreInOrder (sym h) tt
in_order (j ∷ js) (v ∷ news) names h o = elim h [
  | inl w ↦ in_order js news names w.1 o.1
  | inr w ↦ subst AreInOrder (sym w.2)
      (all_of (λ m. slice_cmp nat_cmp (string_bytes j.template.file) m ≡ Less) js news w.1 w.3 o.0, in_order js news w.1 w.3 o.1)
]

not_among : (a : List ℕ) (names : List (List ℕ)) → AllByRecursion (λ m. slice_cmp nat_cmp a m ≡ Less) names → is_among a names ≡ false
not_among a [] all = refl
not_among a (m ∷ ms) all =
    ap (λ (b : Bool). if b then true else is_among a ms) (differ m a (λ same. false_true (sym (not_equal a m all.0) ∙ (bytes_eq-Decides a m).1 (sym same))))
    ∙ not_among a ms all.1

reports : (js : List Judged) (news : List News) (names : List (List ℕ)) → length news ≡ length js → AreInOrder (map (λ (s : Source). s.name) (sources_of js)) → AreOfOthers js news names
    → (n : List ℕ) → Reports (is_among n names) (reported_named n (reported_each js news)) (reported_named n js)
reports [] news names as_many o h n = subst (λ ns. Reports (is_among n ns) [] []) (sym h) refl
reports (j ∷ js) [] names as_many o h n = absurd (omega arith)
reports (j ∷ js) (v ∷ news) names as_many o h n =
    let name = string_bytes j.template.file in
    let now = reported_named n (reported_each js news) in
    let was = reported_named n js in
    subst (λ t. Reports (is_among n names) (cond (bytes_eq (string_bytes t.file) n) (reported_of (reported_one j v)) now) (cond (bytes_eq name n) (reported_of j) was)) (sym (one_template j v))
    (elim h [
      | inl w ↦ same_first (bytes_eq name n) (is_among n names) (reported_of (reported_one j v)) (reported_of j) now was w.0
          (λ e. ap (λ m. is_among m names) (sym ((bytes_eq-Decides name n).0 e)) ∙ not_among name names (all_of (λ m. slice_cmp nat_cmp name m ≡ Less) js news names w.1 o.0))
          (reports js news names (omega arith) o.1 w.1 n)
      | inr w ↦ subst (λ ns. Reports (is_among n ns) (cond (bytes_eq name n) (reported_of (reported_one j v)) now) (cond (bytes_eq name n) (reported_of j) was)) (sym w.2)
          (other_first (bytes_eq name n) (is_among n w.1) (reported_of (reported_one j v)) (reported_of j) now was w.0 (reports js news w.1 (omega arith) o.1 w.3 n))
    ])

pub others_are : (js : List Judged) (news : List News) (names : List (List ℕ)) → length news ≡ length js → AreAscending (sources_of js) → AreOfOthers js news names
    → AreOthers names (λ n. reported_named n js) (λ n. reported_named n (reported_each js news))
others_are js news names as_many o h = record {
  ordered = in_order js news names h o;
  others = λ n among. subst (λ (b : Bool). Reports b (reported_named n (reported_each js news)) (reported_named n js)) among (reports js news names as_many o h n);
  same = λ n free. subst (λ (b : Bool). Reports b (reported_named n (reported_each js news)) (reported_named n js)) free (reports js news names as_many o h n);
}

-- ---- those before a number were reported

pub record AreReportedSoFar (number : ℕ) (old : List Judged) (all : List News) (now : List Judged) (left : List News) : Type 0 where
  pub as_many : length left ≡ length now
  pub whole : length now ≡ length old
  pub done : now ≡ reported_each (take number old) (take number all) ++ drop number old
  pub to_come : drop number left ≡ drop number all

first_left : {X : Type 0} (xs : List X) (i : ℕ) (d : X) → get_or xs i d ≡ get_or (drop i xs) 0 d
first_left [] zero d = refl
first_left [] (suc i) d = refl
first_left (x ∷ xs) zero d = refl
first_left (x ∷ xs) (suc i) d = first_left xs i d

any_default : {X : Type 0} (xs : List X) (k : ℕ) (d e : X) → k < length xs → get_or xs k d ≡ get_or xs k e
any_default [] k d e h = absurd (omega arith)
any_default (x ∷ xs) zero d e h = refl
any_default (x ∷ xs) (suc k) d e h = any_default xs k d e (omega arith)

drop_set : {X : Type 0} (xs : List X) (i : ℕ) (x : X) → drop (suc i) (set xs i x) ≡ drop (suc i) xs
drop_set [] i x = refl
drop_set (y ∷ xs) zero x = refl
drop_set (y ∷ xs) (suc i) x = drop_set xs i x

drop_one : {X : Type 0} (xs : List X) (i : ℕ) → drop (suc i) xs ≡ drop 1 (drop i xs)
drop_one xs zero = refl
drop_one [] (suc i) = refl
drop_one (x ∷ xs) (suc i) = drop_one xs i

length_set : {X : Type 0} (xs : List X) (i : ℕ) (x : X) → length (set xs i x) ≡ length xs
length_set [] i x = refl
length_set (y ∷ xs) zero x = refl
length_set (y ∷ xs) (suc i) x = ap suc (length_set xs i x)

reported_next : (old : List Judged) (all : List News) (i : ℕ) (d : Judged) → i < length old → length all ≡ length old
    → set (reported_each (take i old) (take i all) ++ drop i old) i (reported_one (get_or (reported_each (take i old) (take i all) ++ drop i old) i d) (get_or all i None))
    ≡ reported_each (take (suc i) old) (take (suc i) all) ++ drop (suc i) old
reported_next [] all i d h same = absurd (omega arith)
reported_next (j ∷ js) [] i d h same = absurd (omega arith)
reported_next (j ∷ js) (v ∷ all) zero d h same = refl
reported_next (j ∷ js) (v ∷ all) (suc i) d h same = ap (λ xs. reported_one j v ∷ xs) (reported_next js all i d (omega arith) (omega arith))

pub one_reported_more : (i : ℕ) (old now next : List Judged) (all left rest : List News) (j : Judged) (v : News) → i < length old → length all ≡ length old
    → j ≡ get_or now i j → v ≡ get_or left i v → next ≡ set now i (reported_one j v) → rest ≡ set left i None
    → AreReportedSoFar i old all now left → AreReportedSoFar (i + 1) old all next rest
one_reported_more i old now next all left rest j v within same is is_v next_is rest_is h =
    let step : suc i ≡ i + 1 = omega arith in
    let here : v ≡ get_or all i None =
    is_v ∙ any_default left i v None (omega (arith, h.as_many, h.whole)) ∙ first_left left i None ∙ ap (λ vs. get_or vs 0 None) h.to_come ∙ sym (first_left all i None) in
    let reported : next ≡ reported_each (take (suc i) old) (take (suc i) all) ++ drop (suc i) old =
    next_is ∙ ap (λ x. set now i (reported_one x v)) is ∙ ap (λ x. set now i (reported_one (get_or now i j) x)) here
    ∙ ap (λ xs. set xs i (reported_one (get_or xs i j) (get_or all i None))) h.done ∙ reported_next old all i j within same in
    subst (λ (k : ℕ). AreReportedSoFar k old all next rest) step
    (record {
      as_many = ap length rest_is ∙ length_set left i None ∙ h.as_many ∙ sym (ap length next_is ∙ length_set now i (reported_one j v));
      whole = ap length next_is ∙ length_set now i (reported_one j v) ∙ h.whole;
      done = reported;
      to_come = ap (drop (suc i)) rest_is ∙ drop_set left i None ∙ drop_one left i ∙ ap (drop 1) h.to_come ∙ sym (drop_one all i);
    })

-- where nothing is to be reported for the next one
some_at : (xs : List Judged) (i : ℕ) → i < length xs → (j : Judged) × (j ≡ get_or xs i j)
some_at [] i h = absurd (omega arith)
some_at (x ∷ xs) zero h = (x, refl)
some_at (x ∷ xs) (suc i) h = some_at xs i (omega arith)

set_same : {X : Type 0} (xs : List X) (i : ℕ) (x : X) → x ≡ get_or xs i x → xs ≡ set xs i x
set_same [] i x is = refl
set_same (y ∷ xs) zero x is = ap (λ z. z ∷ xs) (sym is)
set_same (y ∷ xs) (suc i) x is = ap (λ ys. y ∷ ys) (set_same xs i x is)

pub none_reported_more : (i : ℕ) (old now next : List Judged) (all left rest : List News) (v : News) → i < length old → length all ≡ length old
    → v ≡ get_or left i v → v ≡ None → next ≡ now → rest ≡ set left i None
    → AreReportedSoFar i old all now left → AreReportedSoFar (i + 1) old all next rest
none_reported_more i old now next all left rest v within same is_v none next_is rest_is h =
    let (j, is) = some_at now i (omega (arith, h.whole)) in
    one_reported_more i old now next all left rest j v within same is is_v (next_is ∙ set_same now i j is ∙ ap (λ x. set now i (reported_one j x)) (sym none)) rest_is h

-- ---- a test that failed

pub refused : {P : Type 0} (r : Bool) → Decides r P → r ≡ false → P → ⊥
refused r d e p = false_true (sym e ∙ d.1 p)
