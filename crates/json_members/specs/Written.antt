-- What a call writes.
use Rattle.std.specs.Prelude.{◌≡◌, List, ◌++◌, Result, OnOk}
use Rattle.json.specs.Json.{Json}
use Rattle.json.specs.Token.{Token}
use Rattle.json.specs.Tree.{json_tokens}
use Rattle.json.specs.Written.{Written}

-- a call that succeeds has written these tokens after those that were there; what was before them all stays
pub record Puts {E : Type 0} (r : Result (Unit {0}) E) (old new : Written) (ts : List Token) : Type 0 where
  pub tokens : OnOk r (new.tokens ≡ old.tokens ++ ts)
  pub before : new.before ≡ old.before

-- the same of the tokens of a value
abbrev pub PutsJson : {E : Type 0} → Result (Unit {0}) E → Written → Written → Json → Type 0
PutsJson r old new j = Puts r old new (json_tokens j)
