-- A value, without where it lies in memory.
use Rattle.std.specs.Prelude.{ℕ, ℤ, Bool, List}

-- what a value of a map is found by: a text, a whole number, or one of the two truths
pub data KeyVal : Type 0 where
  TextKey : List ℕ → KeyVal
  I64Key : ℤ → KeyVal
  TruthKey : Bool → KeyVal

mutual
  -- what is not there; no value; one of the two truths; a whole number, by its kind; a text; bytes; values;
  -- keys in order, each with its value
  pub data Val : Type 0 where
    Undefined : Val
    Nothing : Val
    Truth : Bool → Val
    I64 : ℤ → Val
    U64 : ℕ → Val
    I128 : ℤ → Val
    U128 : ℕ → Val
    Text : List ℕ → Val
    Bytes : List ℕ → Val
    Array : Vals → Val
    Map : Pairs → Val

  pub data Vals : Type 0 where
    NoVals : Vals
    OneVal : Val → Vals → Vals

  pub data Pairs : Type 0 where
    NoPairs : Pairs
    OnePair : KeyVal → Val → Pairs → Pairs
