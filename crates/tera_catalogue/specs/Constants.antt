-- Constants as tokens of JSON.
use Rattle.std.specs.Prelude.{List, [], ◌∷◌, ◌++◌}
use Rattle.std.specs.Fmt.{signed_decimal}
use Rattle.json.specs.Token.{Token, begin_object, end_object, begin_array, end_array, key, string, number, boolean, null}
use Rattle.tera_base.specs.Text.{key_text, value_text}
use Rattle.tera_base.specs.Values.{Val, Undefined, Nothing, Truth, I64, U64, I128, U128, Text, Bytes, Array, Map, Vals, NoVals, OneVal, Pairs, NoPairs, OnePair}

-- a constant; one that no template can write is the text that it is shown as
abbrev mutual
  pub constant : Val → List Token
  constant Undefined = string (value_text Undefined) ∷ []
  constant Nothing = null ∷ []
  constant (Truth b) = boolean b ∷ []
  constant (I64 n) = number (signed_decimal n) ∷ []
  constant (U64 n) = string (value_text (U64 n)) ∷ []
  constant (I128 n) = string (value_text (I128 n)) ∷ []
  constant (U128 n) = string (value_text (U128 n)) ∷ []
  constant (Text s) = string s ∷ []
  constant (Bytes bs) = string (value_text (Bytes bs)) ∷ []
  constant (Array vs) = begin_array ∷ (constants vs ++ end_array ∷ [])
  constant (Map ps) = begin_object ∷ (members_of ps ++ end_object ∷ [])

  pub constants : Vals → List Token
  constants NoVals = []
  constants (OneVal v vs) = constant v ++ constants vs

  pub members_of : Pairs → List Token
  members_of NoPairs = []
  members_of (OnePair k v ps) = key (key_text k) ∷ (constant v ++ members_of ps)
