-- Messages of JSON-RPC 2.0 as the Language Server Protocol has them: each by itself, with no batches.
use Rattle.std.specs.Prelude.{ℕ, List, length, Bool, ◌||◌, nat_le, if◌then◌else◌, codes, Option, None, Some, is_some}
use Rattle.std.specs.Str.{is_utf8}
use Rattle.json.specs.Json.{Json, null, boolean, number, string, array, object, document}
use Rattle.json.specs.Find.{get}
use Rattle.json_rpc.specs.Ids.{IdVal, NullId, NumberId, TextId, max_id}

pub data MessageVal : Type 0 where
  -- the id, the method and the parameters
  Request : IdVal → List ℕ → Option Json → MessageVal
  -- the method and the parameters
  Notification : List ℕ → Option Json → MessageVal
  -- the outcome of a request
  Response : MessageVal
  -- none of these, and its id
  Invalid : IdVal → MessageVal
  NotJson : MessageVal

-- what the member `id` is: none, none that names a request, or an id
pub data Naming : Type 0 where
  Unnamed : Naming
  Misnamed : Naming
  NamedBy : IdVal → Naming

abbrev pub id_of_text : (List ℕ → IdVal) → List ℕ → Naming
id_of_text kind s = if nat_le (length s) max_id then NamedBy (kind s) else Misnamed

abbrev pub naming : Option Json → Naming
naming None = Unnamed
naming (Some null) = Misnamed
naming (Some (boolean b)) = Misnamed
naming (Some (number s)) = id_of_text NumberId s
naming (Some (string s)) = id_of_text TextId s
naming (Some (array js)) = Misnamed
naming (Some (object ms)) = Misnamed

-- the id that an answer has
abbrev pub id_of : Naming → IdVal
id_of Unnamed = NullId
id_of Misnamed = NullId
id_of (NamedBy id) = id

-- a message with a method
abbrev pub call : Naming → List ℕ → Option Json → MessageVal
call Unnamed method params = Notification method params
call Misnamed method params = Invalid NullId
call (NamedBy id) method params = Request id method params

-- a message without one, which may have an outcome
abbrev pub outcome : Naming → Bool → MessageVal
outcome Unnamed given = Invalid NullId
outcome Misnamed given = if given then Response else Invalid NullId
outcome (NamedBy id) given = if given then Response else Invalid id

-- by the members `id` and `method`, the parameters, and whether there is an outcome
abbrev pub message_by : Naming → Option Json → Option Json → Bool → MessageVal
message_by name None params given = outcome name given
message_by name (Some null) params given = Invalid (id_of name)
message_by name (Some (boolean b)) params given = Invalid (id_of name)
message_by name (Some (number s)) params given = Invalid (id_of name)
message_by name (Some (string method)) params given = call name method params
message_by name (Some (array js)) params given = Invalid (id_of name)
message_by name (Some (object ms)) params given = Invalid (id_of name)

abbrev pub has_outcome : Json → Bool
has_outcome j = is_some (get (codes "result") j) || is_some (get (codes "error") j)

-- what a value of JSON says, if there is one
abbrev pub message_in : Option Json → MessageVal
message_in None = NotJson
message_in (Some j) =
    message_by (naming (get (codes "id") j)) (get (codes "method") j) (get (codes "params") j) (has_outcome j)

-- the value of JSON that bytes are, where they are UTF-8
abbrev pub json_of : List ℕ → Option Json
json_of bytes = if is_utf8 bytes then document bytes else None

-- the message that bytes are
abbrev pub message_of : List ℕ → MessageVal
message_of bytes = message_in (json_of bytes)
