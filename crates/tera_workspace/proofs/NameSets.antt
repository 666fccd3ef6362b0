-- Names among others, and sets to which names are added.
use Rattle.std.proofs.Common.{◌≡◌, ◌∙◌, ◌<◌, ◌≤◌, ℕ, zero, suc, ◌+◌, List, [], ◌∷◌, ◌++◌, ◌||◌, length, drop, get_or, map, Bool, true, false, cond, Bor, String, string_bytes, refl, sym, ap, arith, drop-cons}
use Rattle.std.proofs.Common.{if◌then◌else◌}
use Rattle.std.specs.BTreeSet.{BTreeSet, UpdatesBy}
use Rattle.std.specs.Cmp.Lexicographic.{slice_cmp}
use Rattle.std.specs.List.{AllByRecursion}
use Rattle.std.specs.Ordering.{nat_cmp}
use Rattle.std.specs.Str.{bytes_eq}
use Rattle.std.specs.declared.alloc.Global.{Global}
use Rattle.std.proofs.lemmas.List.{at_drop_more, at_drop_all}
use Rattle.std.proofs.lemmas.Map.Text.{is_eq-slice_cmp}
use Rattle.std.proofs.lemmas.Slice.Eq.{bytes_eq-Decides}
use Rattle.tera_workspace.specs.Names.{is_among, contains_name}

-- one more name
moved : (b c more : Bool) → (c || (if b then true else more)) ≡ (cond b true c || more)
moved true true more = refl
moved true false more = refl
moved false c more = refl

pub name_added : (names : List (String Global)) (i : ℕ) (name : String Global) (key : Bor (List ℕ)) (s t : BTreeSet (Bor (List ℕ))) → i < length names → name ≡ get_or names i name → key.now ≡ string_bytes name
    → UpdatesBy (λ x y. slice_cmp nat_cmp x.now y.now) (λ k. slice_cmp nat_cmp key.now k.now) s t true
    → (n : List ℕ) → (contains_name s n || is_among n (map string_bytes (drop i names))) ≡ (contains_name t n || is_among n (map string_bytes (drop (i + 1) names)))
name_added names i name key s t within is same h n =
    let rest = is_among n (map string_bytes (drop (i + 1) names)) in
    let now : contains_name t n ≡ cond (bytes_eq (string_bytes name) n) true (contains_name s n) =
    h.0 (record { ref_ptr = (0, 0); now = n }) ∙ ap (λ b. cond b true (contains_name s n)) (is_eq-slice_cmp key.now n ∙ ap (λ m. bytes_eq m n) same) in
    at_drop_more (λ ss. contains_name s n || is_among n (map string_bytes ss)) names i name within
    ∙ ap (λ m. contains_name s n || (if bytes_eq (string_bytes m) n then true else rest)) (sym is)
    ∙ moved (bytes_eq (string_bytes name) n) (contains_name s n) rest
    ∙ ap (λ b. b || rest) (sym now)

or_false : (b : Bool) → (b || false) ≡ b
or_false true = refl
or_false false = refl

pub all_added : (names : List (String Global)) (i : ℕ) (s t : BTreeSet (Bor (List ℕ))) → length names ≤ i
    → ((n : List ℕ) → (contains_name s n || is_among n (map string_bytes names)) ≡ (contains_name t n || is_among n (map string_bytes (drop i names))))
    → (n : List ℕ) → contains_name t n ≡ (contains_name s n || is_among n (map string_bytes names))
all_added names i s t over h n =
    sym (h n ∙ at_drop_all (λ ss. contains_name t n || is_among n (map string_bytes ss)) names i over ∙ or_false (contains_name t n))

pub drop_end : {X : Type 0} (xs : List X) (i : ℕ) → length xs ≤ i → drop i xs ≡ []
drop_end [] zero h = refl
drop_end [] (suc i) h = refl
drop_end (x ∷ xs) zero h = absurd (omega arith)
drop_end (x ∷ xs) (suc i) h = drop_end xs i (omega arith)

pub drop_next : {X : Type 0} (xs : List X) (i : ℕ) (x : X) → i < length xs → x ≡ get_or xs i x → drop i xs ≡ x ∷ drop (suc i) xs
drop_next xs i x h is = drop-cons xs i x h ∙ ap (λ y. y ∷ drop (suc i) xs) (sym is)

-- two lists of names after one another
pub among_append : (n : List ℕ) (ms ks : List (List ℕ)) → is_among n (ms ++ ks) ≡ (is_among n ms || is_among n ks)
among_append n [] ks = refl
among_append n (m ∷ ms) ks = by_first (bytes_eq m n) (is_among n (ms ++ ks)) (is_among n ms) (is_among n ks) (among_append n ms ks)
  where
    by_first : (b x y z : Bool) → x ≡ (y || z) → (if b then true else x) ≡ ((if b then true else y) || z)
    by_first true x y z h = refl
    by_first false x y z h = h

-- what is so of each name that is among these is so of them all
equal_itself : (n : List ℕ) → bytes_eq n n ≡ true
equal_itself n = (bytes_eq-Decides n n).1 refl

pub all_among : (Q : List ℕ → Type 0) (ns : List (List ℕ)) → ((n : List ℕ) → is_among n ns ≡ true → Q n) → AllByRecursion Q ns
all_among Q [] h = tt
all_among Q (n ∷ ns) h = (h n (ap (λ (b : Bool). if b then true else is_among n ns) (equal_itself n)), all_among Q ns (λ m among. h m (following (bytes_eq n m) (is_among m ns) among)))
  where
    following : (b x : Bool) → x ≡ true → (if b then true else x) ≡ true
    following true x e = refl
    following false x e = e
