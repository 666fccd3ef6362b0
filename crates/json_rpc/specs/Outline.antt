-- What of a message says how it is answered.
use Rattle.std.specs.Prelude.{◌≡◌, ℕ, List, [], ◌∷◌, Bool, true, false, ◌||◌, bytes_eq, if◌then◌else◌, codes, Option, None, Some, option_and_then}
use Rattle.json.specs.Json.{Json, null, boolean, number, string, array, object, Members, no_members, member, value, if_last, max_depth}
use Rattle.json.specs.Token.{Token}
use Rattle.json_rpc.specs.Ids.{IdVal, NullId, NumberId, TextId}
use Rattle.json_rpc.specs.Messages.{MessageVal, Request, Notification, Response, Invalid, NotJson, Naming, Unnamed, Misnamed, NamedBy, id_of_text, id_of}

-- the id under which a message is to be answered, if it is to be
abbrev pub answered_id : MessageVal → Option IdVal
answered_id (Request id method params) = Some id
answered_id (Notification method params) = None
answered_id Response = None
answered_id (Invalid id) = Some id
answered_id NotJson = Some NullId

-- ---- by the first tokens of members

-- what the member `method` is
pub data Kind : Type 0 where
  NoMethod : Kind
  TextMethod : Kind
  OtherMethod : Kind

pub record OutlineVal : Type 0 where
  pub named : Naming
  pub method : Kind
  pub given : Bool

abbrev pub no_outline : OutlineVal
no_outline = record { named = Unnamed; method = NoMethod; given = false }

abbrev pub answered_with : Kind → Naming → Bool → Option IdVal
answered_with NoMethod Unnamed given = Some NullId
answered_with NoMethod Misnamed given = if given then None else Some NullId
answered_with NoMethod (NamedBy id) given = if given then None else Some id
answered_with TextMethod Unnamed given = None
answered_with TextMethod Misnamed given = Some NullId
answered_with TextMethod (NamedBy id) given = Some id
answered_with OtherMethod name given = Some (id_of name)

abbrev pub answered_by : OutlineVal → Option IdVal
answered_by o = answered_with o.method o.named o.given

abbrev pub first_token : Json → Token
first_token null = Token.null
first_token (boolean b) = Token.boolean b
first_token (number s) = Token.number s
first_token (string s) = Token.string s
first_token (array js) = Token.begin_array
first_token (object ms) = Token.begin_object

abbrev pub naming_at : Token → Naming
naming_at Token.begin_object = Misnamed
naming_at Token.end_object = Misnamed
naming_at Token.begin_array = Misnamed
naming_at Token.end_array = Misnamed
naming_at (Token.key s) = Misnamed
naming_at (Token.string s) = id_of_text TextId s
naming_at (Token.number s) = id_of_text NumberId s
naming_at (Token.boolean b) = Misnamed
naming_at Token.null = Misnamed
naming_at Token.bad = Misnamed

abbrev pub kind_at : Token → Kind
kind_at Token.begin_object = OtherMethod
kind_at Token.end_object = OtherMethod
kind_at Token.begin_array = OtherMethod
kind_at Token.end_array = OtherMethod
kind_at (Token.key s) = OtherMethod
kind_at (Token.string s) = TextMethod
kind_at (Token.number s) = OtherMethod
kind_at (Token.boolean b) = OtherMethod
kind_at Token.null = OtherMethod
kind_at Token.bad = OtherMethod

-- when a member was read whose value begins with a token
abbrev pub noted : OutlineVal → List ℕ → Token → OutlineVal
noted o key t = record {
  named = if bytes_eq key (codes "id") then naming_at t else o.named;
  method = if bytes_eq key (codes "method") then kind_at t else o.method;
  given = o.given || (bytes_eq key (codes "result") || bytes_eq key (codes "error"));
}

abbrev pub outline_after : OutlineVal → Members → OutlineVal
outline_after o no_members = o
outline_after o (member key j ms) = outline_after (noted o key (first_token j)) ms

-- ---- of tokens that are read

abbrev pub opens_object : List Token → Bool
opens_object [] = false
opens_object (Token.begin_object ∷ ts) = true
opens_object (Token.end_object ∷ ts) = false
opens_object (Token.begin_array ∷ ts) = false
opens_object (Token.end_array ∷ ts) = false
opens_object (Token.key s ∷ ts) = false
opens_object (Token.string s ∷ ts) = false
opens_object (Token.number s ∷ ts) = false
opens_object (Token.boolean b ∷ ts) = false
opens_object (Token.null ∷ ts) = false
opens_object (Token.bad ∷ ts) = false

-- the value that tokens are
abbrev pub document_at : List Token → Option Json
document_at ts = option_and_then (λ p. if_last p.0 p.1) (value max_depth ts)

-- a value was in front that begins with a token, and these tokens are left
pub record IsRead (depth : ℕ) (old : List Token) (t : Token) (new : List Token) : Type 0 where
  pub json : Json
  pub value : value depth old ≡ Some (json, new)
  pub first : t ≡ first_token json
