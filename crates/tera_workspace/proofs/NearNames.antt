-- The documents of a site by the names of their templates.
use Rattle.std.proofs.Common.{◌≡◌, ◌∙◌, ◌∷◌, ◌++◌, ◌<◌, ℕ, zero, suc, List, [], Bor, length, get_or, map, Bool, true, false, cond, codes, Option, None, Some, Result, Ok, Err, MatchResult, refl, sym, ap, subst, arith}
use Rattle.std.specs.Prelude.{◌&&◌, slice_get, is_some, unwrap_or}
use Rattle.std.specs.Cmp.{nat_cmp_is}
use Rattle.std.specs.Cmp.Lexicographic.{slice_cmp}
use Rattle.std.specs.List.{filter, find}
use Rattle.std.specs.Ordering.{nat_cmp, ordering_then}
use Rattle.std.specs.Str.{bytes_eq}
use Rattle.std.specs.declared.cmp.Ordering.TheVariants.{Less, Equal}
use Rattle.std.proofs.lemmas.Option.{get_or_from_slice_get}
use Rattle.std.proofs.lemmas.Slice.Eq.{bytes_eq-Decides}
use Rattle.text_edits.specs.declared.documents.Documents.{Documents}
use Rattle.tera_workspace.specs.Kept.{name_of, sources_of}
use Rattle.tera_workspace.specs.KeptSites.{documents_below, is_below, is_there, said_in}
use Rattle.tera_workspace.specs.Near.{AreInSite, number_in, numbers_in, own_name}
use Rattle.tera_workspace.specs.Sites.{Said, name_below, names_said}
use Rattle.tera_workspace.specs.Sources.{AreAscending, AreInOrder}
use Rattle.tera_workspace.specs.declared.judged.Judged.{Judged}
use Rattle.tera_workspace.proofs.BelowLemmas.{names_are}
use Rattle.tera_workspace.proofs.OrderLemmas.{IsBefore, in_order_filter, same_text}
use Rattle.tera_workspace.proofs.PlaceLemmas.{false_true}
use Rattle.tera_workspace.proofs.RenewedLemmas.{file_below, name_at, names_once, none_some, number_at, same_some, seen_at, viewed}

-- ---- names in the order of the files

front_cmp : (front a b : List ℕ) → slice_cmp nat_cmp (front ++ a) (front ++ b) ≡ slice_cmp nat_cmp a b
front_cmp [] a b = refl
front_cmp (x ∷ front) a b = ap (λ o. ordering_then o (slice_cmp nat_cmp (front ++ a) (front ++ b))) (sym (nat_cmp_is x x Equal refl)) ∙ front_cmp front a b

abbrev path : List ℕ → List ℕ → List ℕ
path root n = root ++ (codes "/" ++ n)

path_cmp : (root a b : List ℕ) → slice_cmp nat_cmp (path root a) (path root b) ≡ slice_cmp nat_cmp a b
path_cmp root a b = front_cmp root (codes "/" ++ a) (codes "/" ++ b) ∙ front_cmp (codes "/") a b

own_is : (root : List ℕ) (j : Judged) → is_some (name_below root (name_of j)) ≡ true → name_below root (name_of j) ≡ Some (own_name root j)
own_is root j is = by (name_below root (name_of j)) is
  where
    by : (o : Option (List ℕ)) → is_some o ≡ true → o ≡ Some (unwrap_or o [])
    by None e = absurd (false_true e)
    by (Some n) e = refl

own_path : (root : List ℕ) (j : Judged) → is_some (name_below root (name_of j)) ≡ true → name_of j ≡ path root (own_name root j)
own_path root j is = file_below root (name_of j) (own_name root j) (own_is root j is)

own_before : (root : List ℕ) (j : Judged) (js : List Judged) → is_some (name_below root (name_of j)) ≡ true → ((k : ℕ) (i : Judged) → slice_get js k ≡ Some i → is_some (name_below root (name_of i)) ≡ true)
    → IsBefore (name_of j) (map name_of js) → IsBefore (own_name root j) (map (own_name root) js)
own_before root j [] is all before = tt
own_before root j (i ∷ js) is all before = (
  sym (path_cmp root (own_name root j) (own_name root i)) ∙ sym (λ k. slice_cmp nat_cmp (own_path root j is k) (own_path root i (all 0 i refl) k)) ∙ before.0,
  own_before root j js is (λ k. all (suc k)) before.1,
)

own_ordered : (root : List ℕ) (js : List Judged) → ((k : ℕ) (j : Judged) → slice_get js k ≡ Some j → is_some (name_below root (name_of j)) ≡ true) → AreInOrder (map name_of js) → AreInOrder (map (own_name root) js)
own_ordered root [] all ordered = tt
own_ordered root (j ∷ js) all ordered = (own_before root j js (all 0 j refl) (λ k. all (suc k)) ordered.0, own_ordered root js (λ k. all (suc k)) ordered.1)

names_ordered : (root : List ℕ) (js : List Judged) → AreInSite root js → AreInOrder (map (own_name root) js)
names_ordered root js site = own_ordered root js site.below site.ordered

-- ---- the number of a name, by what a search finds

found_passes : {X : Type 0} (test : X → Bool) (xs : List X) (x : X) → find test xs ≡ Some x → test x ≡ true
found_passes test [] x found = absurd (none_some x found)
found_passes test (y ∷ ys) x found = by (test y) refl (found_passes test ys x) found
  where
    by : (b : Bool) → test y ≡ b → (find test ys ≡ Some x → test x ≡ true) → cond b (Some y) (find test ys) ≡ Some x → test x ≡ true
    by true is rest e = subst (λ z. test z ≡ true) (same_some y x e) is
    by false is rest e = rest e

none_passes : {X : Type 0} (test : X → Bool) (xs : List X) (k : ℕ) (x : X) → find test xs ≡ None → slice_get xs k ≡ Some x → test x ≡ true → ⊥
none_passes test [] k x none here does = none_some x here
none_passes test (y ∷ ys) k x none here does = by (test y) refl (λ m. none_passes test ys m x) none k here
  where
    by : (b : Bool) → test y ≡ b → ((m : ℕ) → find test ys ≡ None → slice_get ys m ≡ Some x → test x ≡ true → ⊥) → cond b (Some y) (find test ys) ≡ None → (i : ℕ) → slice_get (y ∷ ys) i ≡ Some x → ⊥
    by true is rest e i at = none_some y (sym e)
    by false is rest e zero at = false_true (sym is ∙ ap test (same_some y x at) ∙ does)
    by false is rest e (suc i) at = rest i e at does

pub name_there : (root : List ℕ) (js : List Judged) (k : ℕ) (j : Judged) → slice_get js k ≡ Some j → slice_get (names_said root (map said_in js)) k ≡ Some (name_below root (name_of j))
name_there root js k j here = viewed (λ (s : Said). name_below root s.file) (map said_in js) k (said_in j) (viewed said_in js k j here)

number_found : (root : List ℕ) (js : List Judged) (name : List ℕ) (k : ℕ) (j : Judged) → AreInSite root js → slice_get js k ≡ Some j → bytes_eq (own_name root j) name ≡ true → numbers_in root js name ≡ Some k
number_found root js name k j site here named =
    number_at (names_said root (map said_in js)) (names_once root js site.ordered) name k
    (name_there root js k j here ∙ ap Some (own_is root j (site.below k j here) ∙ ap Some ((bytes_eq-Decides (own_name root j) name).0 named)))

no_number : (root : List ℕ) (js : List Judged) (name : List ℕ) → ((k : ℕ) (j : Judged) → slice_get js k ≡ Some j → bytes_eq (own_name root j) name ≡ true → ⊥) → numbers_in root js name ≡ None
no_number root js name none = by (numbers_in root js name) refl
  where
    by : (o : Option ℕ) → numbers_in root js name ≡ o → numbers_in root js name ≡ None
    by None is = is
    by (Some k) is =
        let there = name_at (names_said root (map said_in js)) name k is in
        let (x, here, named) = seen_at (λ (s : Said). name_below root s.file) (map said_in js) k (Some name) there in
        let (j, at, said) = seen_at said_in js k x here in
        let own : name_below root (name_of j) ≡ Some name = ap (λ (s : Said). name_below root s.file) said ∙ named in
        absurd (none k j at ((bytes_eq-Decides (own_name root j) name).1 (ap (λ o. unwrap_or o []) own)))

-- of documents that are borrowed
abbrev pub own_of : List ℕ → Bor Judged → List ℕ
own_of root b = own_name root b.now

own_map : (root : List ℕ) (below : List (Bor Judged)) → map (own_name root) (map (λ b. b.now) below) ≡ map (own_of root) below
own_map root [] = refl
own_map root (b ∷ below) = ap (λ ns. own_name root b.now ∷ ns) (own_map root below)

pub below_ordered : (root : List ℕ) (below : List (Bor Judged)) → AreInSite root (map (λ b. b.now) below) → AreInOrder (map (own_of root) below)
below_ordered root below site = subst AreInOrder (own_map root below) (names_ordered root (map (λ b. b.now) below) site)

some_at : {X : Type 0} (xs : List X) (k : ℕ) → k < length xs → (x : X) × (slice_get xs k ≡ Some x)
some_at [] k within = absurd (omega (arith, within))
some_at (x ∷ xs) zero within = (x, refl)
some_at (x ∷ xs) (suc k) within = some_at xs k (omega (arith, within))

pub found_number : (root : List ℕ) (below : List (Bor Judged)) (name : List ℕ) (k : ℕ) → AreInSite root (map (λ b. b.now) below) → k < length below
    → ((d : Bor Judged) → find (λ b. bytes_eq (own_of root b) name) below ≡ Some (get_or below k d)) → numbers_in root (map (λ b. b.now) below) name ≡ Some k
found_number root below name k site within found =
    let (b, here) = some_at below k within in
    let is : get_or below k b ≡ b = get_or_from_slice_get below k b b here in
    number_found root (map (λ x. x.now) below) name k b.now site (viewed (λ (x : Bor Judged). x.now) below k b here)
    (found_passes (λ x. bytes_eq (own_of root x) name) below b (found b ∙ ap Some is))

pub found_none : (root : List ℕ) (below : List (Bor Judged)) (name : List ℕ) → find (λ b. bytes_eq (own_of root b) name) below ≡ None → numbers_in root (map (λ b. b.now) below) name ≡ None
found_none root below name none = no_number root (map (λ x. x.now) below) name (λ k j here named.
    let (b, at, is) = seen_at (λ (x : Bor Judged). x.now) below k j here in
    none_passes (λ x. bytes_eq (own_of root x) name) below k b none at (subst (λ (i : Judged). bytes_eq (own_name root i) name ≡ true) (sym is) named))

-- ---- the documents of a site are below its root, in order

passes : {X : Type 0} (test : X → Bool) (xs : List X) (k : ℕ) (x : X) → slice_get (filter test xs) k ≡ Some x → test x ≡ true
passes test [] k x here = absurd (none_some x here)
passes test (y ∷ ys) k x here = by (test y) refl (λ m. passes test ys m x) k here
  where
    by : (b : Bool) → test y ≡ b → ((m : ℕ) → slice_get (filter test ys) m ≡ Some x → test x ≡ true) → (i : ℕ) → slice_get (cond b (y ∷ filter test ys) (filter test ys)) i ≡ Some x → test x ≡ true
    by true is rest zero at = subst (λ z. test z ≡ true) (same_some y x at) is
    by true is rest (suc i) at = rest i at
    by false is rest i at = rest i at

first_true : (a b : Bool) → (a && b) ≡ true → a ≡ true
first_true true b h = refl
first_true false b h = h

pub in_site : (root : List ℕ) (ds : Documents) (js below : List Judged) → AreAscending (sources_of js) → below ≡ documents_below root ds js → AreInSite root below
in_site root ds js below ordered is = subst (AreInSite root) (sym is) (record {
  ordered = in_order_filter name_of (is_below root ds) js (subst AreInOrder (sym (names_are js)) ordered);
  below = λ k j here. first_true (is_some (name_below root (name_of j))) (is_there ds j) (passes (is_below root ds) js k j here);
})
