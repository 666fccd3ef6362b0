-- Whether two keys, values or maps mean the same.
use Rattle.std.specs.Prelude.{Bool, true, false, ◌&&◌, ◌==◌}
use Rattle.std.specs.Bool.{beq}
use Rattle.std.specs.Ordering.{int_eq}
use Rattle.std.specs.Str.{bytes_eq}
use Rattle.tera_base.specs.Values.{KeyVal, TextKey, I64Key, TruthKey, Val, Undefined, Nothing, Truth, I64, U64, I128, U128, Text, Bytes, Array, Map, Vals, NoVals, OneVal, Pairs, NoPairs, OnePair}

abbrev pub key_eq : KeyVal → KeyVal → Bool
key_eq (TextKey s) (TextKey t) = bytes_eq s t
key_eq (I64Key m) (I64Key n) = int_eq m n
key_eq (TruthKey a) (TruthKey b) = beq a b
key_eq _ _ = false

-- lists are the same in the same order, and so are pairs
abbrev mutual
  pub value_eq : Val → Val → Bool
  value_eq Undefined Undefined = true
  value_eq Nothing Nothing = true
  value_eq (Truth a) (Truth b) = beq a b
  value_eq (I64 m) (I64 n) = int_eq m n
  value_eq (U64 m) (U64 n) = m == n
  value_eq (I128 m) (I128 n) = int_eq m n
  value_eq (U128 m) (U128 n) = m == n
  value_eq (Text s) (Text t) = bytes_eq s t
  value_eq (Bytes s) (Bytes t) = bytes_eq s t
  value_eq (Array vs) (Array ws) = vals_eq vs ws
  value_eq (Map ps) (Map qs) = pairs_eq ps qs
  value_eq _ _ = false

  pub vals_eq : Vals → Vals → Bool
  vals_eq NoVals NoVals = true
  vals_eq (OneVal v vs) (OneVal w ws) = value_eq v w && vals_eq vs ws
  vals_eq _ _ = false

  pub pairs_eq : Pairs → Pairs → Bool
  pairs_eq NoPairs NoPairs = true
  pairs_eq (OnePair k v ps) (OnePair l w qs) = key_eq k l && (value_eq v w && pairs_eq ps qs)
  pairs_eq _ _ = false
