-- Bytes that are the same as far as anything looks at them.
use Rattle.std.proofs.Common.{rules, ◌≡◌, ◌<◌, ℕ, suc, Bool, true, false, not, ◌&&◌, ◌||◌, List, [], ◌∷◌, ◌++◌, length, Option, Some, None, inl, inr, ⊎_elim, ap, ap₂, sym, ◌∙◌, refl, subst, arith}
use Rattle.std.specs.Prelude.{◌⊎◌, ◌==◌, zero, find, nat_eq, codes}
use Rattle.std.specs.List.{AllByRecursion, list_any}
use Rattle.std.specs.Char.{is_ascii_whitespace, is_ascii_digit}
use Rattle.std.proofs.lemmas.Bool.{cases_Bool, eqb-true, false≢true}
use Rattle.std.proofs.lemmas.Bool.Decides.{nat_tests}
use Rattle.tera_lexer.specs.grammar.Marks.{Marks, default_marks, begins, NowhereIn, TakesDash}
use Rattle.tera_lexer.specs.grammar.Lexeme.{StopsAt, begins_name, goes_on_name, is_quote, written, short_operator, first_of, long_operators, operator_at, Lexeme, Name, Number, Quoted, Operator, spelled, IsLexeme}
use Rattle.tera_lexer.proofs.Markers.{splits_begins}
use Rattle.tera_spelling.proofs.Spaces.{operator_alone}
use Rattle.tera_layout.specs.Apart.{in_operator, in_end, last_from, may_touch}
use Rattle.tera_layout.specs.Widened.{Widens}

pub and_ok : (a b : Bool) → (a && b) ≡ true → (a ≡ true) × (b ≡ true)
and_ok true b h = (refl, h)
and_ok false b h = cc

-- the same bytes as far as some number of them
abbrev pub Agree : ℕ → List ℕ → List ℕ → Type 0
Agree zero a b = Unit {0}
Agree (suc n) [] [] = Unit {0}
Agree (suc n) (x ∷ a) (y ∷ b) = (x ≡ y) × Agree n a b
Agree (suc n) _ _ = ⊥

pub agree_less : (n : ℕ) (a b : List ℕ) → Agree (suc n) a b → Agree n a b
agree_less zero a b h = tt
agree_less (suc n) [] [] h = tt
agree_less (suc n) [] (y ∷ b) h = absurd h
agree_less (suc n) (x ∷ a) [] h = absurd h
agree_less (suc n) (x ∷ a) (y ∷ b) h = (h.0, agree_less n a b h.1)

pub agree_after : (n : ℕ) (front a b : List ℕ) → Agree n a b → Agree n (front ++ a) (front ++ b)
agree_after n [] a b h = h
agree_after zero (x ∷ front) a b h = tt
agree_after (suc n) (x ∷ front) a b h = (refl, agree_after n front a b (agree_less n a b h))

pub begins_agree : (marker a b : List ℕ) → Agree (length marker) a b → begins marker a ≡ begins marker b
begins_agree [] a b h = refl
begins_agree (m ∷ ms) [] [] h = refl
begins_agree (m ∷ ms) [] (y ∷ b) h = absurd h
begins_agree (m ∷ ms) (x ∷ a) [] h = absurd h
begins_agree (m ∷ ms) (x ∷ a) (y ∷ b) h = ap₂ (λ c d. nat_eq m c && d) h.0 (begins_agree ms a b h.1)

pub nowhere_agree : (test : List ℕ → Bool) → ((a b : List ℕ) → Agree 2 a b → test a ≡ test b) → (text a b : List ℕ) → Agree 1 a b → NowhereIn test text a → NowhereIn test text b
nowhere_agree test same [] a b h nowhere = tt
nowhere_agree test same (x ∷ text) a b h nowhere =
    (sym (same (x ∷ (text ++ a)) (x ∷ (text ++ b)) (refl, agree_after 1 text a b h)) ∙ nowhere.0, nowhere_agree test same text a b h nowhere.1)

pub dash_agree : (dash : Bool) (a b : List ℕ) → Agree 1 a b → TakesDash dash a → TakesDash dash b
dash_agree true a b h takes = tt
dash_agree false a b h takes = sym (begins_agree (45 ∷ []) a b h) ∙ takes

-- the same first byte, or white space among the new ones
abbrev pub BeginAlike : List ℕ → List ℕ → Type 0
BeginAlike old [] = old ≡ []
BeginAlike old (c ∷ new) = (is_ascii_whitespace c ≡ true) ⊎ ((more : List ℕ) × (old ≡ c ∷ more))

pub begin_after : (front old new : List ℕ) → 0 < length front → BeginAlike (front ++ old) (front ++ new)
begin_after [] old new some = absurd (omega (arith, some))
begin_after (x ∷ front) old new some = inr (front ++ old, refl)

pub begin_gap : (gap new a b : List ℕ) → Widens gap new → BeginAlike a b → BeginAlike (gap ++ a) (new ++ b)
begin_gap gap [] a b widens h = subst (λ g. BeginAlike (g ++ a) b) (sym (widens.1 refl)) h
begin_gap gap (x ∷ new) a b widens h = inl widens.0.0

-- the two bytes are side by side in an operator, or in the end of a tag with its dash
abbrev pub joins : Marks → ℕ → ℕ → Bool
joins m a c = in_operator a c || in_end m a c

-- no byte is white space
abbrev pub IsSolid : List ℕ → Type 0
IsSolid marker = AllByRecursion (λ b. is_ascii_whitespace b ≡ false) marker

-- it has at most so many bytes
abbrev pub fits : ℕ → List ℕ → Bool
fits n [] = true
fits zero (m ∷ ms) = false
fits (suc n) (m ∷ ms) = fits n ms

-- The first of some texts that passes a test
find_some : (p q : List ℕ → Bool) (xs : List (List ℕ)) (y : List ℕ) → AllByRecursion (λ x. q x ≡ true → p x ≡ true) xs → q y ≡ true → find p xs ≡ Some y → find q xs ≡ Some y
find_some p q [] y only is found = cc
find_some p q (x ∷ xs) y only is found =
    ⊎_elim
    (λ (yes : p x ≡ true). let same : Some x ≡ Some y = rw yes at found in let e : x ≡ y = cc in rw (ap q e ∙ is) same)
    (λ (no : p x ≡ false).
    let none : q x ≡ false = ⊎_elim (λ (yes : q x ≡ true). absurd (false≢true (sym no ∙ only.0 yes))) (λ other. other) (cases_Bool (q x)) in
    let later : find p xs ≡ Some y = rw no at found in rw none (find_some p q xs y only.1 is later))
    (cases_Bool (p x))

find_none : (p q : List ℕ → Bool) (xs : List (List ℕ)) → AllByRecursion (λ x. q x ≡ true → p x ≡ true) xs → find p xs ≡ None → find q xs ≡ None
find_none p q [] only found = refl
find_none p q (x ∷ xs) only found =
    ⊎_elim
    (λ (yes : p x ≡ true). let clash : Some x ≡ None = rw yes at found in cc)
    (λ (no : p x ≡ false).
    let none : q x ≡ false = ⊎_elim (λ (yes : q x ≡ true). absurd (false≢true (sym no ∙ only.0 yes))) (λ other. other) (cases_Bool (q x)) in
    let later : find p xs ≡ None = rw no at found in rw none (find_none p q xs only.1 later))
    (cases_Bool (p x))

pub white_no_name : (b : ℕ) → is_ascii_whitespace b ≡ true → goes_on_name b ≡ false
white_no_name b h = grind (arith, nat_tests)

white_no_digit : (b : ℕ) → is_ascii_whitespace b ≡ true → is_ascii_digit b ≡ false
white_no_digit b h = grind (arith, nat_tests)

white_no_dot : (b : ℕ) → is_ascii_whitespace b ≡ true → nat_eq 46 b ≡ false
white_no_dot b h = grind (arith, nat_tests)

pub not_true : (b : Bool) → not b ≡ true → b ≡ false
not_true true h = cc
not_true false h = refl

-- what begins with a point
pointed : (bytes : List ℕ) → begins (46 ∷ []) bytes ≡ false → StopsAt (λ c. nat_eq 46 c) bytes
pointed [] h = tt
pointed (c ∷ bytes) h = ⊎_elim (λ (yes : nat_eq 46 c ≡ true). absurd (false≢true (sym h ∙ rw yes refl))) (λ no. no) (cases_Bool (nat_eq 46 c))

pointless : (bytes : List ℕ) → StopsAt (λ c. nat_eq 46 c) bytes → begins (46 ∷ []) bytes ≡ false
pointless [] h = refl
pointless (c ∷ bytes) h = rw h refl

-- the last byte of a lexeme
last_passes : (p : ℕ → Bool) (b : ℕ) (bs : List ℕ) → p b ≡ true → AllByRecursion (λ c. p c ≡ true) bs → p (last_from b bs) ≡ true
last_passes p b [] h all = h
last_passes p b (c ∷ bs) h all = last_passes p c bs all.0 all.1

last_after : (a b : ℕ) (front : List ℕ) → last_from a (front ++ b ∷ []) ≡ b
last_after a b [] = refl
last_after a b (x ∷ front) = last_after x b front

-- bytes that are before no other in an operator, nor in an end between the default markers
abbrev is_loose : ℕ → Bool
is_loose a = not (list_any (λ x. x == a) (codes "./*=!><?-}%"))

loose_operator : (a c : ℕ) → is_loose a ≡ true → in_operator a c ≡ false
loose_operator a c h = grind (arith, nat_tests)

loose_end : (a c : ℕ) → is_loose a ≡ true → in_end default_marks a c ≡ false
loose_end a c h = grind (arith, nat_tests)

name_loose : (a : ℕ) → goes_on_name a ≡ true → is_loose a ≡ true
name_loose a h = grind (arith, nat_tests)

begins_goes_on : (a : ℕ) → begins_name a ≡ true → goes_on_name a ≡ true
begins_goes_on a h = grind (arith, nat_tests)

digit_loose : (a : ℕ) → is_ascii_digit a ≡ true → is_loose a ≡ true
digit_loose a h = grind (arith, nat_tests)

quote_loose : (a : ℕ) → is_quote a ≡ true → is_loose a ≡ true
quote_loose a h = grind (arith, nat_tests)

name_touch : (c : ℕ) (b : ℕ) (bs : List ℕ) → may_touch (Name b bs) c ≡ true → goes_on_name c ≡ false
name_touch c b bs h = not_true (goes_on_name c) h

digit_touch : (b : ℕ) (bs : List ℕ) (c : ℕ) → may_touch (Number b bs) c ≡ true → is_ascii_digit c ≡ false
digit_touch b bs c h = not_true (is_ascii_digit c) (and_ok (not (is_ascii_digit c)) (not (nat_eq 46 c)) h).0

dot_touch : (b : ℕ) (bs : List ℕ) (c : ℕ) → may_touch (Number b bs) c ≡ true → nat_eq 46 c ≡ false
dot_touch b bs c h = not_true (nat_eq 46 c) (and_ok (not (is_ascii_digit c)) (not (nat_eq 46 c)) h).1

-- the last byte of a name, a number or a string
abbrev pub IsNoOperator : Lexeme → Type 0
IsNoOperator (Operator op) = ⊥
IsNoOperator l = Unit {0}

last_loose : (l : Lexeme) (rest : List ℕ) → IsNoOperator l → IsLexeme l rest → is_loose (last_from 0 (spelled l)) ≡ true
last_loose (Name b bs) rest plain is = name_loose (last_from b bs) (last_passes goes_on_name b bs (begins_goes_on b is.0) is.1.0)
last_loose (Number b bs) rest plain is = digit_loose (last_from b bs) (last_passes is_ascii_digit b bs is.0.0 is.0.1.0)
last_loose (Quoted quote inner) rest plain is = ap is_loose (last_after quote quote (written inner)) ∙ quote_loose quote is.0.0
last_loose (Operator op) rest plain is = absurd plain

pub loose_last : (l : Lexeme) (rest : List ℕ) (c : ℕ) → IsNoOperator l → IsLexeme l rest → in_end default_marks (last_from 0 (spelled l)) c ≡ false
loose_last l rest c plain is = loose_end (last_from 0 (spelled l)) c (last_loose l rest plain is)

loose_or_alone : (l : Lexeme) (rest : List ℕ) (c : ℕ) → IsLexeme l rest → may_touch l c ≡ true → in_operator (last_from 0 (spelled l)) c ≡ false
loose_or_alone (Name b bs) rest c is h = loose_operator (last_from b bs) c (last_loose (Name b bs) rest tt is)
loose_or_alone (Number b bs) rest c is h = loose_operator (last_from b bs) c (last_loose (Number b bs) rest tt is)
loose_or_alone (Quoted quote inner) rest c is h =
    loose_operator (last_from 0 (spelled (Quoted quote inner))) c (last_loose (Quoted quote inner) rest tt is)
loose_or_alone (Operator op) rest c is h = not_true (in_operator (last_from 0 op) c) h

-- Between given markers
module _ (marks : Marks) where
  -- After a byte the same, as far as some number of them, or as far as white space among the new ones, or as far as a
  -- byte that joins nothing with the one before it
  abbrev pub Like : ℕ → ℕ → List ℕ → List ℕ → Type 0
  Like a zero old new = Unit {0}
  Like a (suc n) old [] = old ≡ []
  Like a (suc n) old (c ∷ new) =
      (is_ascii_whitespace c ≡ true) ⊎ ((joins marks a c ≡ false) ⊎ ((more : List ℕ) × (old ≡ c ∷ more) × Like c n more new))

  pub like_less : (n a : ℕ) (old new : List ℕ) → Like a (suc n) old new → Like a n old new
  like_less zero a old new h = tt
  like_less (suc n) a old [] h = h
  like_less (suc n) a old (c ∷ new) h =
      ⊎_elim
      (λ (white : is_ascii_whitespace c ≡ true). inl white)
      (⊎_elim
      (λ (apart : joins marks a c ≡ false). inr (inl apart))
      (λ (same : (more : List ℕ) × (old ≡ c ∷ more) × Like c (suc n) more new). inr (inr (same.0, same.1, like_less n c same.0 new same.2))))
      h

  -- each is joined to the one before it, of which the first is given
  abbrev pub Linked : ℕ → List ℕ → Type 0
  Linked a [] = Unit {0}
  Linked a (m ∷ ms) = (joins marks a m ≡ true) × Linked m ms

  begins_like : (n a : ℕ) (marker old new : List ℕ) → fits n marker ≡ true → IsSolid marker → Linked a marker → Like a n old new →
      begins marker new ≡ true → begins marker old ≡ true
  begins_like n a [] old new few solid linked h is = refl
  begins_like zero a (m ∷ ms) old new few solid linked h is = cc
  begins_like (suc n) a (m ∷ ms) old [] few solid linked h is = cc
  begins_like (suc n) a (m ∷ ms) old (c ∷ new) few solid linked h is =
      let (here, more) = and_ok (nat_eq m c) (begins ms new) is in
      let one : m ≡ c = eqb-true m c here in
      ⊎_elim
      (λ (white : is_ascii_whitespace c ≡ true). absurd (false≢true (sym solid.0 ∙ ap is_ascii_whitespace one ∙ white)))
      (⊎_elim
      (λ (apart : joins marks a c ≡ false). absurd (false≢true (sym apart ∙ ap (joins marks a) (sym one) ∙ linked.0)))
      (λ (same : (rest : List ℕ) × (old ≡ c ∷ rest) × Like c n rest new).
      subst (λ l. begins (m ∷ ms) l ≡ true) (sym same.1)
      (ap₂ (λ x y. x && y) here (begins_like n c ms same.0 new few solid.1 (subst (λ x. Linked x ms) one linked.1) same.2 more))))
      h

  begins_after : (n a : ℕ) (front marker old new : List ℕ) → fits n marker ≡ true → IsSolid marker → Linked a marker →
      Like (last_from a front) n old new → begins marker (front ++ new) ≡ true → begins marker (front ++ old) ≡ true
  begins_after n a [] marker old new few solid linked h is = begins_like n a marker old new few solid linked h is
  begins_after n a (x ∷ xs) [] old new few solid linked h is = refl
  begins_after zero a (x ∷ xs) (m ∷ ms) old new few solid linked h is = cc
  begins_after (suc n) a (x ∷ xs) (m ∷ ms) old new few solid linked h is =
      let (here, more) = and_ok (nat_eq m x) (begins ms (xs ++ new)) is in
      ap₂ (λ y z. y && z) here
      (begins_after n x xs ms old new few solid.1 (subst (λ y. Linked y ms) (eqb-true m x here) linked.1) (like_less n (last_from x xs) old new h) more)

  -- a text of at most three bytes, without white space, of which each is joined to the one before it
  abbrev pub IsShort : List ℕ → Type 0
  IsShort [] = Unit {0}
  IsShort (m ∷ ms) = (fits 2 ms ≡ true) × IsSolid ms × Linked m ms

  -- it begins no more after some bytes than it did
  begins_front : (b : ℕ) (bs marker old new : List ℕ) → IsShort marker → Like (last_from b bs) 2 old new →
      begins marker (b ∷ (bs ++ new)) ≡ true → begins marker (b ∷ (bs ++ old)) ≡ true
  begins_front b bs [] old new short h is = refl
  begins_front b bs (m ∷ ms) old new (few, solid, linked) h is =
      let (here, more) = and_ok (nat_eq m b) (begins ms (bs ++ new)) is in
      ap₂ (λ y z. y && z) here (begins_after 2 b bs ms old new few solid (subst (λ y. Linked y ms) (eqb-true m b here) linked) h more)

  pub front_not : (front marker old new : List ℕ) → 0 < length front → IsShort marker → Like (last_from 0 front) 2 old new →
      begins marker (front ++ old) ≡ false → begins marker (front ++ new) ≡ false
  front_not [] marker old new some short h none = absurd (omega (arith, some))
  front_not (b ∷ bs) marker old new some short h none =
      ⊎_elim
      (λ (yes : begins marker (b ∷ (bs ++ new)) ≡ true). absurd (false≢true (sym none ∙ begins_front b bs marker old new short h yes)))
      (λ no. no) (cases_Bool (begins marker (b ∷ (bs ++ new))))

  long_short : AllByRecursion IsShort long_operators
  long_short = search rules

  each_front : (b : ℕ) (bs : List ℕ) (xs : List (List ℕ)) (old new : List ℕ) → AllByRecursion IsShort xs → Like (last_from b bs) 2 old new →
      AllByRecursion (λ x. begins x (b ∷ (bs ++ new)) ≡ true → begins x (b ∷ (bs ++ old)) ≡ true) xs
  each_front b bs [] old new short h = tt
  each_front b bs (x ∷ xs) old new short h = (λ is. begins_front b bs x old new short.0 h is, each_front b bs xs old new short.1 h)

  long_like : (b : ℕ) (bs old new : List ℕ) (o : Option (List ℕ)) → Like (last_from b bs) 2 old new →
      find (λ x. begins x (b ∷ (bs ++ old))) long_operators ≡ o → first_of o (short_operator b) ≡ Some (b ∷ bs) → operator_at (b ∷ (bs ++ new)) ≡ Some (b ∷ bs)
  long_like b bs old new (Some op) h found is =
      let same : op ≡ b ∷ bs = cc in
      let starts : begins op (b ∷ (bs ++ new)) ≡ true = subst (λ x. begins x (b ∷ (bs ++ new)) ≡ true) (sym same) (splits_begins (b ∷ bs) (b ∷ (bs ++ new)) new refl) in
      let here = find_some (λ x. begins x (b ∷ (bs ++ old))) (λ x. begins x (b ∷ (bs ++ new))) long_operators op (each_front b bs long_operators old new long_short h) starts found in
      ap (λ o. first_of o (short_operator b)) here ∙ is
  long_like b bs old new None h found is =
      ap (λ o. first_of o (short_operator b)) (find_none (λ x. begins x (b ∷ (bs ++ old))) (λ x. begins x (b ∷ (bs ++ new))) long_operators (each_front b bs long_operators old new long_short h) found) ∙ is

  operator_like : (op old new : List ℕ) → Like (last_from 0 op) 2 old new → operator_at (op ++ old) ≡ Some op → operator_at (op ++ new) ≡ Some op
  operator_like [] old new h is = let clash = operator_alone old [] is in cc
  operator_like (b ∷ bs) old new h is =
      long_like b bs old new (find (λ x. begins x (b ∷ (bs ++ old))) long_operators) h refl is

  -- the byte may come after the lexeme, and no end of a tag comes of it
  abbrev pub Touches : Lexeme → ℕ → Type 0
  Touches l c = (may_touch l c ≡ true) × (in_end marks (last_from 0 (spelled l)) c ≡ false)

  -- Beside a lexeme: the same first bytes, or white space, or a byte that may touch it
  abbrev pub Beside : Lexeme → List ℕ → List ℕ → Type 0
  Beside l old [] = old ≡ []
  Beside l old (c ∷ new) =
      (is_ascii_whitespace c ≡ true) ⊎ (Touches l c ⊎ ((more : List ℕ) × (old ≡ c ∷ more) × Like c 1 more new))

  beside_stops : (l : Lexeme) (p : ℕ → Bool) → ((c : ℕ) → is_ascii_whitespace c ≡ true → p c ≡ false) → ((c : ℕ) → may_touch l c ≡ true → p c ≡ false) →
      (old new : List ℕ) → Beside l old new → StopsAt p old → StopsAt p new
  beside_stops l p white touch old [] h stops = tt
  beside_stops l p white touch old (c ∷ new) h stops =
      ⊎_elim
      (λ (is : is_ascii_whitespace c ≡ true). white c is)
      (⊎_elim
      (λ (is : Touches l c). touch c is.0)
      (λ (same : (more : List ℕ) × (old ≡ c ∷ more) × Like c 1 more new). subst (StopsAt p) same.1 stops))
      h

  or_false : (a b : Bool) → a ≡ false → b ≡ false → (a || b) ≡ false
  or_false a b first second = rw first second

  -- what may touch a lexeme joins nothing with its last byte
  loose_or_apart : (l : Lexeme) (rest : List ℕ) (c : ℕ) → IsLexeme l rest → Touches l c → joins marks (last_from 0 (spelled l)) c ≡ false
  loose_or_apart l rest c is h = or_false (in_operator (last_from 0 (spelled l)) c) (in_end marks (last_from 0 (spelled l)) c) (loose_or_alone l rest c is h.0) h.1

  pub beside_like : (l : Lexeme) (old new : List ℕ) → IsLexeme l old → Beside l old new → Like (last_from 0 (spelled l)) 2 old new
  beside_like l old [] is h = h
  beside_like l old (c ∷ new) is h =
      ⊎_elim
      (λ (white : is_ascii_whitespace c ≡ true). inl white)
      (⊎_elim
      (λ (touch : Touches l c). inr (inl (loose_or_apart l old c is touch)))
      (λ (same : (more : List ℕ) × (old ≡ c ∷ more) × Like c 1 more new). inr (inr same)))
      h

  -- a lexeme is before other bytes as before
  pub lexeme_beside : (l : Lexeme) (old new : List ℕ) → Beside l old new → IsLexeme l old → IsLexeme l new
  lexeme_beside (Name b bs) old new h is =
      (is.0, (is.1.0, beside_stops (Name b bs) goes_on_name white_no_name (λ c touch. name_touch c b bs touch) old new h is.1.1))
  lexeme_beside (Number b bs) old new h is = (
    (is.0.0, (is.0.1.0, beside_stops (Number b bs) is_ascii_digit white_no_digit (digit_touch b bs) old new h is.0.1.1)),
    pointless new (beside_stops (Number b bs) (λ c. nat_eq 46 c) white_no_dot (dot_touch b bs) old new h (pointed old is.1)),
    is.2,
  )
  lexeme_beside (Quoted quote inner) old new h is = is
  lexeme_beside (Operator op) old new h is = operator_like op old new (beside_like (Operator op) old new is h) is

  -- after some bytes they are so one byte further
  pub like_front : (n a : ℕ) (front old new : List ℕ) → Like (last_from a front) n old new → Like a n (front ++ old) (front ++ new)
  like_front n a [] old new h = h
  like_front zero a (x ∷ front) old new h = tt
  like_front (suc n) a (x ∷ front) old new h = inr (inr (front ++ old, refl, like_front n x front old new (like_less n (last_from x front) old new h)))

  -- beside a lexeme are the same bytes of another, or white space, or what may touch it
  pub beside_front : (l : Lexeme) (front old new : List ℕ) → 0 < length front → Like (last_from 0 front) 2 old new → Beside l (front ++ old) (front ++ new)
  beside_front l [] old new some h = absurd (omega (arith, some))
  beside_front l (x ∷ front) old new some h =
      inr (inr (front ++ old, refl, like_front 1 x front old new (like_less 1 (last_from x front) old new h)))
