-- What is in JSON values that may be absent.
use Rattle.std.specs.Prelude.{◌&&◌, ◌^◌, nat_lt, if◌then◌else◌, ℕ, List, [], ◌∷◌, Bool, true, false, length, Option, None, Some, unwrap_or}
use Rattle.std.specs.Borrow.{Bor}
use Rattle.std.specs.Char.{digit_value}
use Rattle.std.specs.Option.{option_map, option_and_then}
use Rattle.std.specs.Str.Parse.{digits_value, without_leading_plus}
use Rattle.json.specs.Find.{get, as_str, as_number, as_bool, as_array}
use Rattle.json.specs.Json.{Json, Items, no_items, item}
use Rattle.json.specs.Value.{value_view}
use Rattle.json.specs.declared.value.Value.{Value}

-- the value after a reference, if there is one
abbrev pub seen : {A : Type 0} → Option (Bor (Value A)) → Option Json
seen {A} v = option_map (λ w. value_view w.now) v

-- the member of a name, of an object
abbrev pub member_of : List ℕ → Option Json → Option Json
member_of name j = option_and_then (get name) j

-- a text
abbrev pub text_in : Option Json → Option (List ℕ)
text_in j = option_and_then as_str j

-- the items of an array
abbrev pub listed : Items → List Json
listed no_items = []
listed (item j js) = j ∷ listed js

abbrev pub array_in : Option Json → Option (List Json)
array_in j = option_map listed (option_and_then as_array j)

-- .. and no items of what is none
abbrev pub items_in : Option Json → List Json
items_in j = unwrap_or (array_in j) []

-- `true`
abbrev pub is_true : Option Bool → Bool
is_true None = false
is_true (Some b) = b

abbrev pub is_set : Option Json → Bool
is_set j = is_true (option_and_then as_bool j)

-- decimal digits alone, at least one
abbrev pub all_decimal : List ℕ → Bool
all_decimal [] = true
all_decimal (c ∷ cs) = nat_lt (digit_value c) 10 && all_decimal cs

abbrev pub is_numeral : List ℕ → Bool
is_numeral ds = nat_lt 0 (length ds) && all_decimal ds

-- the number below 2 ^ 64 that such digits write
unfoldable pub natural_of : List ℕ → Option ℕ
natural_of ds = if is_numeral ds && nat_lt (digits_value 10 ds) (2 ^ 64) then Some (digits_value 10 ds) else None

abbrev pub number_in : Option Json → Option ℕ
number_in j = option_and_then (λ s. natural_of (without_leading_plus s)) (option_and_then as_number j)
