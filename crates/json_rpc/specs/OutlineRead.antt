-- The members of a message that were read.
use Rattle.std.specs.Prelude.{◌≡◌, List, length, Some}
use Rattle.json.specs.Json.{Members, members, value}
use Rattle.json.specs.Token.{Token}
use Rattle.json_rpc.specs.Outline.{OutlineVal, no_outline, outline_after}

-- members was in front with the end of their object, which make up the outline, and these tokens are left
pub record IsOutlined (old : List Token) (o : OutlineVal) (new : List Token) : Type 0 where
  pub all : Members
  pub value : members (value 127) (length old) old ≡ Some (all, new)
  pub outline : o ≡ outline_after no_outline all
