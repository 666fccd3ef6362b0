-- Operators before a space, and no end of a tag where they are.
use Rattle.std.proofs.Common.{rules, ◌≡◌, ◌≢◌, ℕ, Bool, true, false, not, ◌&&◌, ◌||◌, List, [], ◌∷◌, ◌++◌, Option, Some, None, ⊎_elim, ap, ◌∙◌, refl, subst, arith}
use Rattle.std.specs.Prelude.{find, nat_eq, codes}
use Rattle.std.specs.List.{AllByRecursion}
use Rattle.std.specs.Char.{is_ascii_whitespace}
use Rattle.std.proofs.lemmas.Bool.{cases_Bool, ne_eqb}
use Rattle.std.proofs.lemmas.Bool.Decides.{nat_tests}
use Rattle.tera_lexer.specs.grammar.Marks.{begins}
use Rattle.tera_lexer.specs.grammar.Lexeme.{StopsAt, is_short_operator, short_operator, first_of, long_operators, long_operator_at, operator_at, is_at_end}

-- no byte of the marker is a space
abbrev pub HasNoSpace : List ℕ → Type 0
HasNoSpace marker = AllByRecursion (λ b. b ≢ 32) marker

-- such a marker begins what is before a space where it begins that alone
pub begins_before : (marker bytes rest : List ℕ) → HasNoSpace marker → begins marker (bytes ++ 32 ∷ rest) ≡ begins marker bytes
begins_before [] bytes rest none = refl
begins_before (m ∷ ms) [] rest none = rw (ne_eqb m 32 none.0) refl
begins_before (m ∷ ms) (b ∷ bs) rest none = ap (λ x. nat_eq m b && x) (begins_before ms bs rest none.1)

find_same : (p q : List ℕ → Bool) (xs : List (List ℕ)) → AllByRecursion (λ x. p x ≡ q x) xs → find p xs ≡ find q xs
find_same p q [] same = refl
find_same p q (x ∷ xs) same = rw (same.0, find_same p q xs same.1) refl

all_before : (bytes rest : List ℕ) (xs : List (List ℕ)) → AllByRecursion HasNoSpace xs → AllByRecursion (λ op. begins op (bytes ++ 32 ∷ rest) ≡ begins op bytes) xs
all_before bytes rest [] none = tt
all_before bytes rest (x ∷ xs) none = (begins_before x bytes rest none.0, all_before bytes rest xs none.1)

long_operators_solid : AllByRecursion HasNoSpace long_operators
long_operators_solid = search rules

-- a space after an operator makes no other of it
pub operator_before : (op rest : List ℕ) → operator_at op ≡ Some op → operator_at (op ++ 32 ∷ rest) ≡ Some op
operator_before [] rest is = cc
operator_before (b ∷ bs) rest is =
    ap (λ o. first_of o (short_operator b)) (find_same (λ op. begins op (b ∷ (bs ++ 32 ∷ rest))) (λ op. begins op (b ∷ bs)) long_operators (all_before (b ∷ bs) rest long_operators long_operators_solid)) ∙ is

-- what holds of each operator of the table holds of each operator
find_among : (Q : List ℕ → Type 0) (p : List ℕ → Bool) (xs : List (List ℕ)) (x : List ℕ) → AllByRecursion Q xs → find p xs ≡ Some x → Q x
find_among Q p [] x all e = cc
find_among Q p (y ∷ ys) x all e =
    ⊎_elim
    (λ here. let same : Some y ≡ Some x = rw here at e in let is : y ≡ x = cc in subst Q is all.0)
    (λ other. find_among Q p ys x all.1 (rw other at e))
    (cases_Bool (p y))

module _ (Q : List ℕ → Type 0) (long : AllByRecursion Q long_operators) (short : (b : ℕ) → is_short_operator b ≡ true → Q (b ∷ [])) where
  short_holds : (b : ℕ) (op : List ℕ) → short_operator b ≡ Some op → Q op
  short_holds b op e =
      ⊎_elim
      (λ here. let same : Some (b ∷ []) ≡ Some op = rw here at e in let is : b ∷ [] ≡ op = cc in subst Q is (short b here))
      (λ other. let clash : None ≡ Some op = rw other at e in cc)
      (cases_Bool (is_short_operator b))

  holds_by : (b : ℕ) (bs op : List ℕ) (o : Option (List ℕ)) → long_operator_at (b ∷ bs) ≡ o → first_of o (short_operator b) ≡ Some op → Q op
  holds_by b bs op (Some found) e f = let same : found ≡ op = cc in find_among Q (λ x. begins x (b ∷ bs)) long_operators op long (e ∙ ap Some same)
  holds_by b bs op None e f = short_holds b op f

  pub operator_holds : (bytes op : List ℕ) → operator_at bytes ≡ Some op → Q op
  operator_holds [] op is = cc
  operator_holds (b ∷ bs) op is = holds_by b bs op (long_operator_at (b ∷ bs)) refl is

-- an operator that begins bytes is the operator of its own bytes
long_alone : AllByRecursion (λ op. operator_at op ≡ Some op) long_operators
long_alone = search rules

short_alone : (b : ℕ) → is_short_operator b ≡ true → operator_at (b ∷ []) ≡ Some (b ∷ [])
short_alone b h = grind (arith, nat_tests)

pub operator_alone : (bytes op : List ℕ) → operator_at bytes ≡ Some op → operator_at op ≡ Some op
operator_alone bytes op is = operator_holds (λ z. operator_at z ≡ Some z) long_alone short_alone bytes op is

-- no operator begins with white space, and none is the end of a tag
abbrev begins_gap : List ℕ → Bool
begins_gap [] = true
begins_gap (b ∷ bs) = is_ascii_whitespace b

abbrev is_safe : List ℕ → Bool
is_safe op = not (begins_gap op) && not (is_at_end (codes "}}") op)

long_safe : AllByRecursion (λ op. is_safe op ≡ true) long_operators
long_safe = search rules

short_safe : (b : ℕ) → is_short_operator b ≡ true → is_safe (b ∷ []) ≡ true
short_safe b h = grind (arith, nat_tests)

operator_safe : (op : List ℕ) → operator_at op ≡ Some op → is_safe op ≡ true
operator_safe op is = operator_holds (λ z. is_safe z ≡ true) long_safe short_safe op op is

and_true : (a b : Bool) → (a && b) ≡ true → (a ≡ true) × (b ≡ true)
and_true true b h = (refl, h)
and_true false b h = cc

not_true : (b : Bool) → not b ≡ true → b ≡ false
not_true true h = cc
not_true false h = refl

pub operator_no_gap : (op rest : List ℕ) → operator_at op ≡ Some op → StopsAt is_ascii_whitespace (op ++ rest)
operator_no_gap [] rest is = cc
operator_no_gap (b ∷ bs) rest is = not_true _ (and_true (not (is_ascii_whitespace b)) _ (operator_safe (b ∷ bs) is)).0

pub operator_no_end : (op rest : List ℕ) → operator_at op ≡ Some op → is_at_end (codes "}}") (op ++ 32 ∷ rest) ≡ false
operator_no_end op rest is =
    (λ i. begins_before (codes "-}}") op rest (search rules) i || begins_before (codes "}}") op rest (search rules) i)
    ∙ not_true _ (and_true (not (begins_gap op)) _ (operator_safe op is)).1
