-- The JSON of constants, and of the keys of their maps.
use Rattle.std.specs.Prelude.{ℕ, nat_lt, unsigned_abs, List, [], ◌∷◌, if◌then◌else◌, codes}
use Rattle.std.specs.Fmt.{decimal, signed_decimal}
use Rattle.json.specs.Json.{Json, null, boolean, number, string, array, object, Items, no_items, item, no_members, member}
use Rattle.tera_base.specs.Values.{KeyVal, TextKey, I64Key, TruthKey, Val, Undefined, Nothing, Truth, I64, U64, I128, U128, Text, Bytes, Array, Map, Vals, NoVals, OneVal, Pairs, NoPairs, OnePair}

-- a number by its digits
abbrev pub count_json : ℕ → Json
count_json n = number (decimal n)

-- what JSON has no form of: an object of one member, whose name says what it is
abbrev pub other_json : List ℕ → Json → Json
other_json kind value = object (member kind value no_members)

-- a whole number of this size, by its digits: a number where a `double` holds each up to it
abbrev pub whole_json : ℕ → List ℕ → Json
whole_json size digits =
    if nat_lt size 9007199254740992 then number digits else other_json (codes "integer") (string digits)

abbrev pub key_json : KeyVal → Json
key_json (TextKey s) = string s
key_json (I64Key n) = whole_json (unsigned_abs n) (signed_decimal n)
key_json (TruthKey b) = boolean b

abbrev pub bytes_json : List ℕ → Items
bytes_json [] = no_items
bytes_json (b ∷ bs) = item (count_json b) (bytes_json bs)

abbrev mutual
  pub value_json : Val → Json
  value_json Undefined = other_json (codes "undefined") null
  value_json Nothing = null
  value_json (Truth b) = boolean b
  value_json (I64 n) = whole_json (unsigned_abs n) (signed_decimal n)
  value_json (U64 n) = whole_json n (decimal n)
  value_json (I128 n) = whole_json (unsigned_abs n) (signed_decimal n)
  value_json (U128 n) = whole_json n (decimal n)
  value_json (Text s) = string s
  value_json (Bytes bs) = other_json (codes "bytes") (array (bytes_json bs))
  value_json (Array vs) = array (vals_json vs)
  value_json (Map ps) = other_json (codes "map") (array (pairs_json ps))

  pub vals_json : Vals → Items
  vals_json NoVals = no_items
  vals_json (OneVal v vs) = item (value_json v) (vals_json vs)

  -- pairs in their order, each an array of the key and the value
  pub pairs_json : Pairs → Items
  pairs_json NoPairs = no_items
  pairs_json (OnePair k v ps) = item (array (item (key_json k) (item (value_json v) no_items))) (pairs_json ps)
