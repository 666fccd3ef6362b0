-- From a `Value` to what it stands for.
use Rattle.std.specs.Prelude.{List, [], ◌∷◌, map, string_bytes}
use Rattle.tera_base.specs.Values as values
use Rattle.tera_base.specs.Values.{KeyVal, TextKey, I64Key, TruthKey, Val, Vals, NoVals, OneVal, Pairs, NoPairs, OnePair}
use Rattle.tera_base.specs.declared.values.Key.{Key}
use Rattle.tera_base.specs.declared.values.Key.TheVariants.{String, I64, Bool}
use Rattle.tera_base.specs.declared.values.Value.{Value, fold-Value, Value-F}

abbrev pub key_view : Key → KeyVal
key_view (String s) = TextKey (string_bytes s)
key_view (I64 n) = I64Key n
key_view (Bool b) = TruthKey b

abbrev pub vals_of : List Val → Vals
vals_of [] = NoVals
vals_of (v ∷ vs) = OneVal v (vals_of vs)

abbrev pub pairs_of : List (Key × Val) → Pairs
pairs_of [] = NoPairs
pairs_of (p ∷ ps) = OnePair (key_view p.0) p.1 (pairs_of ps)

-- one level, with the values inside already seen
abbrev pub value_step : Value-F Val → Val
value_step Value-F.Undefined = values.Undefined
value_step Value-F.None = values.Nothing
value_step (Value-F.Bool b) = values.Truth b
value_step (Value-F.I64 n) = values.I64 n
value_step (Value-F.U64 n) = values.U64 n
value_step (Value-F.I128 n) = values.I128 n
value_step (Value-F.U128 n) = values.U128 n
value_step (Value-F.String s) = values.Text (string_bytes s)
value_step (Value-F.Bytes b) = values.Bytes b.items
value_step (Value-F.Array v) = values.Array (vals_of v.items)
value_step (Value-F.Map m) = values.Map (pairs_of m)

abbrev pub value_view : Value → Val
value_view = fold-Value Val value_step

abbrev pub vals_view : List Value → Vals
vals_view vs = vals_of (map value_view vs)

abbrev pub pairs_view : List (Key × Value) → Pairs
pairs_view ps = pairs_of (map (λ p. (p.0, value_view p.1)) ps)
