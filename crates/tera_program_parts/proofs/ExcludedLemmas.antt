-- Paths that are left out, one by one, and what is below them.
use Rattle.std.proofs.Common.{◌≡◌, ◌∙◌, ◌+◌, ◌<◌, ◌≤◌, inl, inr, ℕ, Bool, true, false, List, [], ◌∷◌, ◌++◌, String, Global, drop, get_or, length, map, string_cmp, string_bytes, take, refl, sym, ap, arith}
use Rattle.std.specs.Prelude.{◌||◌, ◌&&◌, ◌↔◌, Any, IsTrue}
use Rattle.std.specs.BTreeMap.{is_at}
use Rattle.std.specs.BTreeSet.{BTreeSet, insert_key}
use Rattle.std.specs.Cmp.Lexicographic.{bytes_decides, pointwise_decides, slice_cmp}
use Rattle.std.specs.List.{list_any}
use Rattle.std.specs.Ordering.{is_eq, match_ordering, ordering_then}
use Rattle.std.specs.Path.{PathStartsWith, path_components}
use Rattle.std.specs.declared.cmp.Ordering.{Ordering}
use Rattle.std.specs.declared.cmp.Ordering.TheVariants.{Less, Equal, Greater}
use Rattle.std.proofs.lemmas.Bool.{cases_lt}
use Rattle.std.proofs.lemmas.List.{length-append, length-map, take-append-drop, take-map, take_all, take_at}
use Rattle.std.proofs.lemmas.List.Folds.{Any-from_list_any, list_any-from_Any, list_any_more}
use Rattle.std.proofs.lemmas.Map.Text.{is_eq-slice_cmp}
use Rattle.tera_program_parts.specs.Excluded.{AreOfPaths, Names, are_names, has_names, names_of}

-- ---- a comparison by the components

then_eq : (a b : Ordering) → is_eq (ordering_then a b) ≡ (is_eq a && is_eq b)
then_eq Less b = refl
then_eq Equal b = refl
then_eq Greater b = refl

tied : (xs ys : List (String Global)) → is_eq (slice_cmp string_cmp xs ys) ≡ are_names (map string_bytes xs) (map string_bytes ys)
tied [] [] = refl
tied [] (y ∷ ys) = refl
tied (x ∷ xs) [] = refl
tied (x ∷ xs) (y ∷ ys) =
    then_eq (string_cmp x y) (slice_cmp string_cmp xs ys) ∙ (λ i. is_eq-slice_cmp (string_bytes x) (string_bytes y) i && tied xs ys i)

same_names : (names others : List (List ℕ)) → are_names names others ≡ true → names ≡ others
same_names names others is = (pointwise_decides bytes_decides names others).0 is

names_alike : (names others : List (List ℕ)) → names ≡ others → are_names names others ≡ true
names_alike names others same = (pointwise_decides bytes_decides names others).1 same

abbrev names_cmp : Names → Names → Ordering
names_cmp x y = slice_cmp string_cmp x.items y.items

-- what a search by these names finds
pub found : (names : List (String Global)) (keys : List Names)
    → list_any (is_at (λ (key : Names). slice_cmp string_cmp names key.items)) keys ≡ list_any (λ (key : Names). are_names (map string_bytes names) (names_of key)) keys
found names [] = refl
found names (key ∷ keys) = λ i. tied names key.items i || found names keys i

-- ---- one path more

only : (b : Bool) → (b || false) ≡ b
only true = refl
only false = refl

last_first : (a b : Bool) → (a || b) ≡ (b || a)
last_first true true = refl
last_first true false = refl
last_first false true = refl
last_first false false = refl

twice : (a b : Bool) → (a || b) ≡ ((a || b) || a)
twice true b = refl
twice false true = refl
twice false false = refl

or_assoc : (a b c : Bool) → (a || (b || c)) ≡ ((a || b) || c)
or_assoc true b c = refl
or_assoc false b c = refl

by_order : (o : Ordering) (test : Names → Bool) (key x : Names) (xs more : List Names) → (o ≡ Equal → test key ≡ test x) → list_any test more ≡ (list_any test xs || test key)
    → list_any test (match_ordering o (key ∷ x ∷ xs) (x ∷ xs) (x ∷ more)) ≡ (list_any test (x ∷ xs) || test key)
by_order Less test key x xs more same rest = last_first (test key) (test x || list_any test xs)
by_order Equal test key x xs more same rest =
    twice (test x) (list_any test xs) ∙ ap (λ b. (test x || list_any test xs) || b) (sym (same refl))
by_order Greater test key x xs more same rest = ap (λ b. test x || b) rest ∙ or_assoc (test x) (list_any test xs) (test key)

any_inserted : (test : Names → Bool) (key : Names) → ((x : Names) → names_cmp key x ≡ Equal → test key ≡ test x) → (keys : List Names)
    → list_any test (insert_key names_cmp keys key) ≡ (list_any test keys || test key)
any_inserted test key same [] = only (test key)
any_inserted test key same (x ∷ xs) = by_order (names_cmp key x) test key x xs (insert_key names_cmp xs key) (same x) (any_inserted test key same xs)

pub put : (old new : BTreeSet Names) (key : Names) (path : List ℕ) (names : List (List ℕ)) → new.keys ≡ insert_key names_cmp old.keys key → names_of key ≡ path_components path
    → has_names new names ≡ (has_names old names || are_names names (path_components path))
put old new key path names inserted named =
    let test : Names → Bool = λ other. are_names names (names_of other) in
    ap (list_any test) inserted
    ∙ any_inserted test key (λ x tie. ap (are_names names) (same_names (names_of key) (names_of x) (sym (tied key.items x.items) ∙ ap is_eq tie))) old.keys
    ∙ ap (λ ns. has_names old names || are_names names ns) named

pub no_paths : (paths : BTreeSet Names) → paths.keys ≡ [] → AreOfPaths [] paths
no_paths paths none names = ap (list_any (λ (other : Names). are_names names (names_of other))) none

pub next_path : (texts : List (List ℕ)) (i : ℕ) (text : List ℕ) (old new : BTreeSet Names) → i < length texts → get_or texts i [] ≡ text → AreOfPaths (take i texts) old
    → ((names : List (List ℕ)) → has_names new names ≡ (has_names old names || are_names names (path_components text))) → AreOfPaths (take (i + 1) texts) new
next_path texts i text old new below at held step names =
    let test : List ℕ → Bool = λ path. are_names names (path_components path) in
    step names ∙ ap (λ b. b || test text) (held names) ∙ ap (λ path. list_any test (take i texts) || test path) (sym at) ∙ sym (list_any_more test texts i [] below)

-- ---- names that begin with those of a path

abbrev BeginsIn : BTreeSet Names → List (String Global) → Type 0
BeginsIn paths names = (end : ℕ) × (end ≤ length names) × IsTrue (has_names paths (map string_bytes (take end names)))

-- if no part before all of the names is one of the paths, all are, or they do not begin with one
pub first_or_all : (paths : BTreeSet Names) (names : List (String Global)) (i : ℕ) (is : Bool) → length names ≤ i
    → ((k : ℕ) → k < i → ¬ IsTrue (has_names paths (map string_bytes (take k names)))) → is ≡ has_names paths (map string_bytes names) → IsTrue is ↔ BeginsIn paths names
first_or_all paths names i is past none whole = (
  λ so. (length names, omega arith, ap (λ (ns : List (String Global)). has_names paths (map string_bytes ns)) (take_all (length names) names (omega arith)) ∙ sym whole ∙ so),
  λ some. elim (cases_lt some.0 i) [
    | inl less ↦ absurd (none some.0 less some.2)
    | inr more ↦
        let all : take some.0 names ≡ names = take_all some.0 names (omega (arith, more, past)) in
        whole ∙ ap (λ (ns : List (String Global)). has_names paths (map string_bytes ns)) (sym all) ∙ some.2
  ],
)

starts : (names : List (String Global)) (end : ℕ) (path folder : List ℕ) → map string_bytes names ≡ path_components path → map string_bytes (take end names) ≡ path_components folder
    → PathStartsWith path folder
starts names end path folder named first =
    let all = map string_bytes names in
    (drop end all, sym named ∙ sym (take-append-drop end all) ∙ ap (λ ns. ns ++ drop end all) (take-map string_bytes end names ∙ first))

begins : (names : List (String Global)) (path folder : List ℕ) (rest : List (List ℕ)) → map string_bytes names ≡ path_components path → path_components path ≡ path_components folder ++ rest
    → (length (path_components folder) ≤ length names) × (map string_bytes (take (length (path_components folder)) names) ≡ path_components folder)
begins names path folder rest named split =
    let first = path_components folder in
    let long : length names ≡ length first + length rest = sym (length-map names string_bytes) ∙ ap length (named ∙ split) ∙ length-append first rest in (
      omega (arith, long),
      sym (take-map string_bytes (length first) names) ∙ ap (take (length first)) (named ∙ split) ∙ take_at first rest (length first) refl,
    )

-- a path is at or below one of the texts if its names begin with those of one
pub in_one : (paths : BTreeSet Names) (names : List (String Global)) (path : List ℕ) (texts : List (List ℕ)) (is : Bool) → map string_bytes names ≡ path_components path → AreOfPaths texts paths
    → IsTrue is ↔ BeginsIn paths names → IsTrue is ↔ Any (PathStartsWith path) texts
in_one paths names path texts is named are begun = (
  λ so.
      let (end, within, has) = begun.0 so in
      let first = map string_bytes (take end names) in
      let (k, folder, below, at, same) = Any-from_list_any (λ text. are_names first (path_components text)) texts (sym (are first) ∙ has) in
      (k, folder, below, at, starts names end path folder named (same_names first (path_components folder) same)),
  λ one.
      let (k, folder, below, at, start) = one in
      let front = begins names path folder start.0 named start.1 in
      let end = length (path_components folder) in
      let first = map string_bytes (take end names) in
      let has : has_names paths first ≡ true = are first ∙ list_any-from_Any (λ text. are_names first (path_components text)) texts (k, folder, below, at, names_alike first (path_components folder) front.1) in
      begun.1 (end, front.0, has),
)
