-- The text of a value.
use Rattle.std.specs.Prelude.{ℕ, List, [], ◌++◌, Bool, true, false, if◌then◌else◌, codes}
use Rattle.std.specs.Fmt.{decimal, signed_decimal}
use Rattle.tera_base.specs.Values.{KeyVal, TextKey, I64Key, TruthKey, Val, Undefined, Nothing, Truth, I64, U64, I128, U128, Text, Bytes, Array, Map, Vals, NoVals, OneVal, Pairs, NoPairs, OnePair}

abbrev pub truth_text : Bool → List ℕ
truth_text b = if b then codes "true" else codes "false"

abbrev pub key_text : KeyVal → List ℕ
key_text (TextKey s) = s
key_text (I64Key n) = signed_decimal n
key_text (TruthKey b) = truth_text b

-- a key inside a map: a text is between quotes
abbrev pub inner_key_text : KeyVal → List ℕ
inner_key_text (TextKey s) = codes "\"" ++ (s ++ codes "\"")
inner_key_text (I64Key n) = signed_decimal n
inner_key_text (TruthKey b) = truth_text b

-- what is before one of several: nothing before the first, a comma and a space before a later one
abbrev pub comma_text : Bool → List ℕ
comma_text later = if later then codes ", " else []

-- a value inside another
abbrev mutual
  pub inner_text : Val → List ℕ
  inner_text Undefined = codes "undefined"
  inner_text Nothing = codes "null"
  inner_text (Truth b) = truth_text b
  inner_text (I64 n) = signed_decimal n
  inner_text (U64 n) = decimal n
  inner_text (I128 n) = signed_decimal n
  inner_text (U128 n) = decimal n
  inner_text (Text s) = codes "\"" ++ (s ++ codes "\"")
  inner_text (Bytes bs) = codes "<bytes>"
  inner_text (Array vs) = codes "[" ++ (vals_text false vs ++ codes "]")
  inner_text (Map ps) = codes "{" ++ (pairs_text false ps ++ codes "}")

  pub vals_text : Bool → Vals → List ℕ
  vals_text later NoVals = []
  vals_text later (OneVal v vs) = comma_text later ++ (inner_text v ++ vals_text true vs)

  pub pairs_text : Bool → Pairs → List ℕ
  pairs_text later NoPairs = []
  pairs_text later (OnePair k v ps) = comma_text later ++ (inner_key_text k ++ (codes ": " ++ (inner_text v ++ pairs_text true ps)))

-- a value by itself: a text is its text
abbrev pub value_text : Val → List ℕ
value_text (Text s) = s
value_text v = inner_text v

-- a constant of an expression: a text is between single quotes
abbrev pub const_text : Val → List ℕ
const_text (Text s) = codes "'" ++ (s ++ codes "'")
const_text v = inner_text v
