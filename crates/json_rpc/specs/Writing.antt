-- The messages that are written, each a value of JSON.
use Rattle.std.specs.Prelude.{ℕ, List, [], ◌∷◌, codes}
use Rattle.json.specs.Json.{Json, null, number, string, object, Members, no_members, member}
use Rattle.json.specs.Token.{Token, begin_object, key}
use Rattle.json.specs.Token as tokens
use Rattle.json.specs.Print.{print}
use Rattle.json.specs.Tree.{json_tokens}
use Rattle.json_rpc.specs.Codes.{code_number, code_text}
use Rattle.json_rpc.specs.Ids.{IdVal, NullId, NumberId, TextId}
use Rattle.json_rpc.specs.declared.code.Code.{Code}

-- the bytes of a message
abbrev pub body : Json → List ℕ
body j = print (json_tokens j)

abbrev pub id_json : IdVal → Json
id_json NullId = null
id_json (NumberId s) = number s
id_json (TextId s) = string s

-- an object of these members after the version of the protocol
abbrev pub versioned : Members → Json
versioned ms = object (member (codes "jsonrpc") (string (codes "2.0")) ms)

-- two members
abbrev pub two : List ℕ → Json → List ℕ → Json → Members
two name j other k = member name j (member other k no_members)

abbrev pub answer : IdVal → Json → Json
answer id result = versioned (two (codes "id") (id_json id) (codes "result") result)

abbrev pub error : Code → Json
error code = object (two (codes "code") (number (code_number code)) (codes "message") (string (code_text code)))

abbrev pub refusal : IdVal → Code → Json
refusal id code = versioned (two (codes "id") (id_json id) (codes "error") (error code))

abbrev pub notification : List ℕ → Json → Json
notification method params = versioned (two (codes "method") (string method) (codes "params") params)

abbrev pub request : IdVal → List ℕ → Json → Json
request id method params =
    versioned (member (codes "id") (id_json id) (two (codes "method") (string method) (codes "params") params))

-- ---- the tokens of each up to its value

abbrev pub id_token : IdVal → Token
id_token NullId = tokens.null
id_token (NumberId s) = tokens.number s
id_token (TextId s) = tokens.string s

abbrev pub answer_begin : IdVal → List Token
answer_begin id =
    begin_object ∷ key (codes "jsonrpc") ∷ tokens.string (codes "2.0") ∷ key (codes "id") ∷ id_token id ∷ key (codes "result") ∷ []

abbrev pub notification_begin : List ℕ → List Token
notification_begin method =
    begin_object ∷ key (codes "jsonrpc") ∷ tokens.string (codes "2.0") ∷ key (codes "method") ∷ tokens.string method ∷ key (codes "params") ∷ []

abbrev pub request_begin : IdVal → List ℕ → List Token
request_begin id method =
    begin_object ∷ key (codes "jsonrpc") ∷ tokens.string (codes "2.0") ∷ key (codes "id") ∷ id_token id ∷ key (codes "method") ∷ tokens.string method ∷ key (codes "params") ∷ []
