-- What is parsed as a number.
use Rattle.std.proofs.Common.{◌≡◌, ◌∙◌, ◌<◌, ◌&&◌, ◌^◌, nat_lt, ℕ, Bool, true, false, List, [], ◌∷◌, map, Option, None, Some, ok_or, MatchOption, if◌then◌else◌, refl, sym, ap, arith}
use Rattle.std.proofs.lemmas.Bool.{false≢true}
use Rattle.std.proofs.lemmas.Bool.Decides.{nat_tests}
use Rattle.std.specs.Option.{option_map, option_and_then}
use Rattle.std.specs.Str.Parse.{AllDigits, IsNumeral, digits_value, without_leading_plus, ParsesUnsigned}
use Rattle.json.specs.Json.{Json}
use Rattle.json.specs.Value.{items_of}
use Rattle.protocol_values.specs.Members.{listed, all_decimal, is_numeral, natural_of}

pub listed_items : (js : List Json) → listed (items_of js) ≡ js
listed_items [] = refl
listed_items (j ∷ js) = ap (λ l. j ∷ l) (listed_items js)

both : (p q : Bool) → p ≡ true → q ≡ true → (p && q) ≡ true
both p q e f = rw (e, f) refl

first_of_both : (p q : Bool) → (p && q) ≡ true → p ≡ true
first_of_both true q e = refl
first_of_both false q e = e

second_of_both : (p q : Bool) → (p && q) ≡ true → q ≡ true
second_of_both true q e = e
second_of_both false q e = absurd (false≢true e)

below : {a b : ℕ} → a < b → nat_lt a b ≡ true
below h = grind (arith, nat_tests)

is_below : {a b : ℕ} → nat_lt a b ≡ true → a < b
is_below h = grind (arith, nat_tests)

decimal_by : (ds : List ℕ) → AllDigits 10 ds → all_decimal ds ≡ true
decimal_by [] h = refl
decimal_by (c ∷ cs) h = both _ _ (below h.0) (decimal_by cs h.1)

decimal_of : (ds : List ℕ) → all_decimal ds ≡ true → AllDigits 10 ds
decimal_of [] h = tt
decimal_of (c ∷ cs) h = (is_below (first_of_both _ _ h), decimal_of cs (second_of_both _ _ h))

numeral_by : (ds : List ℕ) → IsNumeral 10 ds → is_numeral ds ≡ true
numeral_by ds h = both _ _ (below h.0) (decimal_by ds h.1)

numeral_of : (ds : List ℕ) → is_numeral ds ≡ true → IsNumeral 10 ds
numeral_of ds h = (is_below (first_of_both _ _ h), decimal_of ds (second_of_both _ _ h))

fits_by : (ds : List ℕ) → IsNumeral 10 ds × (digits_value 10 ds < 2 ^ 64) → (is_numeral ds && nat_lt (digits_value 10 ds) (2 ^ 64)) ≡ true
fits_by ds h = both _ _ (numeral_by ds h.0) (below h.1)

fits_of : (ds : List ℕ) → (is_numeral ds && nat_lt (digits_value 10 ds) (2 ^ 64)) ≡ true → IsNumeral 10 ds × (digits_value 10 ds < 2 ^ 64)
fits_of ds h = (numeral_of ds (first_of_both _ _ h), is_below (second_of_both _ _ h))

found_by : (v : ℕ) (b : Bool) (n : ℕ) → b ≡ true → n ≡ v → Some n ≡ (if b then Some v else None)
found_by v b n e f = rw (e, f) refl

none_by : (v : ℕ) (b : Bool) → (b ≡ true → ⊥) → None ≡ (if b then Some v else None)
none_by v true h = absurd (h refl)
none_by v false h = refl

natural_is : (s : List ℕ) (r : Option ℕ) → ParsesUnsigned 64 10 s (ok_or r s) → r ≡ natural_of (without_leading_plus s)
unfolding natural_of
natural_is s None h = none_by _ _ (λ e. h (fits_of (without_leading_plus s) e))
natural_is s (Some n) h = found_by _ _ n (fits_by (without_leading_plus s) h.0) h.1

-- the number of a text, if there is one
pub number_is : (text : Option (List ℕ)) (r : Option ℕ) → MatchOption text (r ≡ None) (λ s. ParsesUnsigned 64 10 s (ok_or r s)) →
    r ≡ option_and_then (λ s. natural_of (without_leading_plus s)) text
number_is None r h = h
number_is (Some s) r h = natural_is s r h
