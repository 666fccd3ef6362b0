-- Which operators there are, and which bytes begin none.
use Rattle.std.proofs.Common.{◌≡◌, ℕ, ◌<◌, ◌≤◌, Bool, true, false, List, [], ◌∷◌, ◌++◌, length, drop, Option, Some, None, ⊎_elim, ap, sym, ◌∙◌, refl, subst, arith, cond}
use Rattle.std.specs.Prelude.{nat_lt, find}
use Rattle.std.specs.List.{AllByRecursion}
use Rattle.std.specs.Char.{is_ascii_digit}
use Rattle.std.proofs.lemmas.Bool.{cases_Bool}
use Rattle.std.proofs.lemmas.Bool.Decides.{nat_tests, Decides-ltb}
use Rattle.tera_lexer.specs.grammar.Marks.{begins}
use Rattle.tera_lexer.specs.reading.Front.{begins_long_operator}
use Rattle.tera_lexer.specs.grammar.Lexeme.{is_short_operator, short_operator, first_of, long_operators, long_operator_at, operator_at, begins_name, is_quote}
use Rattle.tera_lexer.proofs.Markers.{begins_splits}

pub digit_no_operator : (b : ℕ) (bs : List ℕ) → is_ascii_digit b ≡ true → operator_at (b ∷ bs) ≡ None
digit_no_operator b bs h = grind (arith, nat_tests)

pub name_no_operator : (b : ℕ) (bs : List ℕ) → begins_name b ≡ true → operator_at (b ∷ bs) ≡ None
name_no_operator b bs h = grind (arith, nat_tests)

pub long_begins : (b : ℕ) (bs : List ℕ) → begins_long_operator b ≡ false → long_operator_at (b ∷ bs) ≡ None
long_begins b bs h = grind (arith, nat_tests)

pub quote_no_operator : (b : ℕ) (bs : List ℕ) → is_quote b ≡ true → operator_at (b ∷ bs) ≡ None
quote_no_operator b bs h = grind (arith, nat_tests)

-- what is found passes the test, and whatever all pass
find_passes : (p : List ℕ → Bool) (xs : List (List ℕ)) (x : List ℕ) → find p xs ≡ Some x → p x ≡ true
find_passes p [] x e = cc
find_passes p (y ∷ ys) x e =
    ⊎_elim
    (λ here. let same : Some y ≡ Some x = rw here at e in let y_is : y ≡ x = cc in subst (λ z. p z ≡ true) y_is here)
    (λ other. find_passes p ys x (rw other at e))
    (cases_Bool (p y))

find_among : (p q : List ℕ → Bool) (xs : List (List ℕ)) (x : List ℕ) → AllByRecursion (λ z. q z ≡ true) xs → find p xs ≡ Some x → q x ≡ true
find_among p q [] x all e = cc
find_among p q (y ∷ ys) x all e =
    ⊎_elim
    (λ here. let same : Some y ≡ Some x = rw here at e in let y_is : y ≡ x = cc in subst (λ z. q z ≡ true) y_is all.0)
    (λ other. find_among p q ys x all.1 (rw other at e))
    (cases_Bool (p y))

-- an operator is printable, and not empty
abbrev pub Printable : ℕ → Type 0
Printable b = (32 ≤ b) × (b < 128)

is_printable : ℕ → Bool
is_printable b = cond (nat_lt 31 b) (nat_lt b 128) false

are_printable : List ℕ → Bool
are_printable [] = false
are_printable (b ∷ []) = is_printable b
are_printable (b ∷ c ∷ cs) = cond (is_printable b) (are_printable (c ∷ cs)) false

printable_is : (b : ℕ) → is_printable b ≡ true → Printable b
unfolding is_printable
printable_is b h =
    ⊎_elim
    (λ high. let low = rw high at h in let over = (Decides-ltb 31 b).0 high in (omega arith, (Decides-ltb b 128).0 low))
    (λ none. let clash : false ≡ true = rw none at h in cc)
    (cases_Bool (nat_lt 31 b))

printable_some : (op : List ℕ) → are_printable op ≡ true → (0 < length op) × AllByRecursion Printable op
unfolding are_printable
printable_some [] h = cc
printable_some (b ∷ []) h = (omega arith, (printable_is b h, tt))
printable_some (b ∷ c ∷ cs) h =
    ⊎_elim
    (λ here. let rec = printable_some (c ∷ cs) (rw here at h) in (omega arith, (printable_is b here, rec.1)))
    (λ other. let clash : false ≡ true = rw other at h in cc)
    (cases_Bool (is_printable b))

short_is : (b : ℕ) (op : List ℕ) → short_operator b ≡ Some op → (op ≡ b ∷ []) × Printable b
short_is b op e =
    ⊎_elim
    (λ here. let same : Some (b ∷ []) ≡ Some op = rw here at e in let op_is : b ∷ [] ≡ op = cc in (sym op_is, (short_high b here, short_low b here)))
    (λ other. let clash : None ≡ Some op = rw other at e in cc)
    (cases_Bool (is_short_operator b))
  where
    short_low : (b : ℕ) → is_short_operator b ≡ true → b < 128
    short_low b h = grind (arith, nat_tests)

    short_high : (b : ℕ) → is_short_operator b ≡ true → 32 ≤ b
    short_high b h = grind (arith, nat_tests)

-- an operator that is found is there
pub record IsOperator (op bytes : List ℕ) : Type 0 where
  pub splits : bytes ≡ op ++ drop (length op) bytes
  pub some : 0 < length op
  pub printable : AllByRecursion Printable op

each_printable : AllByRecursion (λ z. are_printable z ≡ true) long_operators
unfolding are_printable is_printable
each_printable = (refl, (refl, (refl, (refl, (refl, (refl, (refl, (refl, (refl, (refl, tt))))))))))

operator_by : (b : ℕ) (bs op : List ℕ) (o : Option (List ℕ)) → long_operator_at (b ∷ bs) ≡ o → first_of o (short_operator b) ≡ Some op → IsOperator op (b ∷ bs)
operator_by b bs op (Some long) e f =
    let same : long ≡ op = cc in
    let found = e ∙ ap Some same in
    let passes = printable_some op (find_among (λ x. begins x (b ∷ bs)) are_printable long_operators op each_printable found) in
    record { splits = begins_splits op (b ∷ bs) (find_passes (λ x. begins x (b ∷ bs)) long_operators op found); some = passes.0; printable = passes.1 }
operator_by b bs op None e f =
    let (is, plain) = short_is b op f in
    rw is (record { splits = refl; some = omega arith; printable = (plain, tt) })

pub operator_sound : (b : ℕ) (bs op : List ℕ) → operator_at (b ∷ bs) ≡ Some op → IsOperator op (b ∷ bs)
operator_sound b bs op e = operator_by b bs op (long_operator_at (b ∷ bs)) refl e

pub operator_printable : (bytes op : List ℕ) → operator_at bytes ≡ Some op → AllByRecursion Printable op
operator_printable [] op e = cc
operator_printable (b ∷ bs) op e = (operator_sound b bs op e).printable
