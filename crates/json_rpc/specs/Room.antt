-- Bytes that are added to others, and the room that they take.
use Rattle.std.specs.Prelude.{◌≡◌, ℕ, ◌+◌, ◌*◌, ◌<◌, ◌≤◌, List, ◌++◌, codes, Result, OnOk, OnErr, Vec, vec_len, vec_capacity}
use Rattle.std.specs.declared.alloc.Global.{Global}
use Rattle.json_rpc.specs.Codes.{code_number, code_text}
use Rattle.json_rpc.specs.Ids.{max_id}
use Rattle.json_rpc.specs.declared.code.Code.{Code}

-- the bytes are added, and fit into the room; memory is missing only where there was less room
pub record Adds {E : Type 0} (r : Result (Unit {0}) E) (old new : Vec ℕ Global) (bytes : List ℕ) (room : ℕ) : Type 0 where
  pub ok : OnOk r (new.items ≡ old.items ++ bytes)
  pub len : OnOk r (vec_len new ≤ vec_len old + room)
  pub capacity : vec_capacity old ≤ vec_capacity new
  pub full : OnErr r (vec_capacity old < vec_len old + room)

-- the room that an id takes at most: each byte may become six
abbrev pub id_room : ℕ
id_room = 6 * max_id + 2

-- what comes after the id of a refusal
abbrev pub error_member : Code → List ℕ
error_member code =
    codes ",\"error\":{\"code\":" ++ (code_number code ++ (codes ",\"message\":\"" ++ (code_text code ++ codes "\"}}")))
