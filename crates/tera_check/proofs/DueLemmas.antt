-- Which findings are due.
use Rattle.std.proofs.Common.{◌≡◌, ◌∙◌, ◌+◌, ◌≤◌, ℕ, zero, suc, Bool, true, false, Bor, cond, List, [], ◌∷◌, ◌++◌, Option, None, Some, drop, get_or, map, refl, sym, ap, append_assoc, arith}
use Rattle.std.specs.Prelude.{◌&&◌, ◌||◌, MatchOption, ◌==◌, nat_le, nat_lt, not}
use Rattle.std.specs.BTreeMap.Range.{range_contains}
use Rattle.std.specs.List.{filter, find, list_any, slice_get}
use Rattle.std.specs.Option.{is_some, option_map}
use Rattle.std.specs.Ordering.{is_le, nat_cmp}
use Rattle.std.specs.declared.cmp.Ordering.TheVariants.{Equal, Greater, Less}
use Rattle.std.specs.declared.ops.Bound.TheVariants.{Excluded, Included, Unbounded}
use Rattle.std.proofs.lemmas.Bool.Decides.{nat_tests}
use Rattle.std.proofs.lemmas.List.{map-append}
use Rattle.tera_findings.specs.Findings.{FindingVal, finding_view}
use Rattle.tera_findings.specs.declared.finding.Finding.{Finding}

-- ---- a filter, one by one

first_more : {X : Type 0} (b : Bool) (x : X) (xs ys : List X) → cond b (x ∷ (xs ++ ys)) (xs ++ ys) ≡ cond b (x ∷ xs) xs ++ ys
first_more true x xs ys = refl
first_more false x xs ys = refl

filter_parts : {X : Type 0} (p : X → Bool) (xs ys : List X) → filter p (xs ++ ys) ≡ filter p xs ++ filter p ys
filter_parts p [] ys = refl
filter_parts p (x ∷ xs) ys = ap (λ zs. cond (p x) (x ∷ zs) zs) (filter_parts p xs ys) ∙ first_more (p x) x (filter p xs) (filter p ys)

-- one more finding
pub due_more : (p : FindingVal → Bool) (start old new : List FindingVal) (done : List Finding) (f : Finding)
    → old ≡ start ++ filter p (map finding_view done) → new ≡ old ++ filter p (finding_view f ∷ []) → new ≡ start ++ filter p (map finding_view (done ++ f ∷ []))
due_more p start old new done f held step =
    let one = filter p (finding_view f ∷ []) in
    let all : map finding_view (done ++ f ∷ []) ≡ map finding_view done ++ (finding_view f ∷ []) = map-append finding_view done (f ∷ []) in
    step ∙ ap (λ fs. fs ++ one) held ∙ append_assoc start (filter p (map finding_view done)) one
    ∙ ap (λ fs. start ++ fs) (sym (ap (filter p) all ∙ filter_parts p (map finding_view done) (finding_view f ∷ [])))

-- ---- the first of a filter, and whether it has one

first_by : (b : Bool) (k : ℕ) (rest : List ℕ) (o : Option ℕ) → slice_get rest 0 ≡ o → slice_get (cond b (k ∷ rest) rest) 0 ≡ cond b (Some k) o
first_by true k rest o is = refl
first_by false k rest o is = is

pub first_kept : (p q : ℕ → Bool) → ((k : ℕ) → p k ≡ q k) → (ks : List ℕ) → slice_get (filter p ks) 0 ≡ find q ks
first_kept p q same [] = refl
first_kept p q same (k ∷ ks) = first_by (p k) k (filter p ks) (find q ks) (first_kept p q same ks) ∙ ap (λ b. cond b (Some k) (find q ks)) (same k)

some_by : (b : Bool) (k : ℕ) (rest : List ℕ) (o : Bool) → is_some (slice_get rest 0) ≡ o → is_some (slice_get (cond b (k ∷ rest) rest) 0) ≡ (b || o)
some_by true k rest o is = refl
some_by false k rest o is = is

pub any_kept : (p q : ℕ → Bool) → ((k : ℕ) → p k ≡ q k) → (ks : List ℕ) → is_some (slice_get (filter p ks) 0) ≡ list_any q ks
any_kept p q same [] = refl
any_kept p q same (k ∷ ks) = some_by (p k) k (filter p ks) (list_any q ks) (any_kept p q same ks) ∙ ap (λ b. b || list_any q ks) (same k)

none_kept : (q : ℕ → Bool) → ((k : ℕ) → q k ≡ false) → (ks : List ℕ) → list_any q ks ≡ false
none_kept q none [] = refl
none_kept q none (k ∷ ks) = ap (λ b. b || list_any q ks) (none k) ∙ none_kept q none ks

outside : (start end k : ℕ) → end ≤ start → (nat_le start k && nat_lt k end) ≡ false
outside start end k before = grind (arith, nat_tests)

pub none_between : (start end : ℕ) (ks : List ℕ) → end ≤ start → false ≡ list_any (λ at. nat_le start at && nat_lt at end) ks
none_between start end ks before = sym (none_kept (λ at. nat_le start at && nat_lt at end) (λ k. outside start end k before) ks)

-- ---- the keys of a range

compared : (less same : Bool) → is_le (cond less Less (cond same Equal Greater)) ≡ (less || same)
compared true same = refl
compared false true = refl
compared false false = refl

less_or_same : (a k : ℕ) → (nat_lt a k || (a == k)) ≡ nat_le a k
less_or_same a k = grind (arith, nat_tests)

ordered : (a k : ℕ) → is_le (nat_cmp a k) ≡ nat_le a k
ordered a k = compared (nat_lt a k) (a == k) ∙ less_or_same a k

and_true : (b : Bool) → (b && true) ≡ b
and_true true = refl
and_true false = refl

pub from_start : (a k : ℕ) → range_contains nat_cmp (Included a) Unbounded k ≡ nat_le a k
from_start a k = and_true (is_le (nat_cmp a k)) ∙ ordered a k

past : (a k : ℕ) → not (nat_le a k) ≡ nat_lt k a
past a k = grind (arith, nat_tests)

pub in_range : (start end k : ℕ) → range_contains nat_cmp (Included start) (Excluded end) k ≡ (nat_le start k && nat_lt k end)
in_range start end k =
    ap (λ b. b && not (is_le (nat_cmp end k))) (ordered start k) ∙ ap (λ b. nat_le start k && not b) (ordered end k) ∙ ap (λ b. nat_le start k && b) (past end k)

-- what `next` gives of them
pub first_taken : (ks : List ℕ) (r : Option (Bor ℕ)) (rest : List ℕ) → MatchOption r ((ks ≡ []) × (rest ≡ [])) (λ x. ks ≡ x.now ∷ rest) → option_map (λ x. x.now) r ≡ slice_get ks 0
first_taken ks None rest h = ap (λ ns. slice_get ns 0) (sym h.0)
first_taken ks (Some x) rest h = ap (λ ns. slice_get ns 0) (sym h)

pub some_taken : (ks : List ℕ) (r : Option (Bor ℕ)) (rest : List ℕ) → MatchOption r ((ks ≡ []) × (rest ≡ [])) (λ x. ks ≡ x.now ∷ rest) → is_some r ≡ is_some (slice_get ks 0)
some_taken ks None rest h = ap (λ ns. is_some (slice_get ns 0)) (sym h.0)
some_taken ks (Some x) rest h = ap (λ ns. is_some (slice_get ns 0)) (sym h)
