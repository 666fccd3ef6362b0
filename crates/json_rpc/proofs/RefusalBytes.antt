-- The bytes of a refusal.
use Rattle.std.proofs.Common.{◌≡◌, ℕ, ◌≤◌, List, ◌∷◌, ◌++◌, codes, length, refl, append_assoc, lit≤}
use Rattle.json.specs.Print.{escape, escape_byte, print_from, token_text}
use Rattle.json_rpc.specs.Codes.{code_number, code_text}
use Rattle.json_rpc.specs.Ids.{IdVal, NullId, NumberId, TextId}
use Rattle.json_rpc.specs.Room.{error_member}
use Rattle.json_rpc.specs.Writing.{body, refusal, id_token}
use Rattle.json_rpc.specs.declared.code.Code.{Code}
use Rattle.json_rpc.specs.declared.code.Code.TheVariants.{ParseError, InvalidRequest, MethodNotFound, InvalidParams, InternalError, ServerNotInitialized, RequestFailed}

pub number-short : (code : Code) → length (code_number code) ≤ 8
number-short ParseError = lit≤ tt
number-short InvalidRequest = lit≤ tt
number-short MethodNotFound = lit≤ tt
number-short InvalidParams = lit≤ tt
number-short InternalError = lit≤ tt
number-short ServerNotInitialized = lit≤ tt
number-short RequestFailed = lit≤ tt

pub text-short : (code : Code) → length (code_text code) ≤ 48
text-short ParseError = lit≤ tt
text-short InvalidRequest = lit≤ tt
text-short MethodNotFound = lit≤ tt
text-short InvalidParams = lit≤ tt
text-short InternalError = lit≤ tt
text-short ServerNotInitialized = lit≤ tt
text-short RequestFailed = lit≤ tt

-- no byte of it has to be escaped
text-plain : (code : Code) → escape (code_text code) ≡ code_text code
unfolding escape_byte
text-plain ParseError = refl
text-plain InvalidRequest = refl
text-plain MethodNotFound = refl
text-plain InvalidParams = refl
text-plain InternalError = refl
text-plain ServerNotInitialized = refl
text-plain RequestFailed = refl

abbrev error_by : Code → List ℕ → List ℕ
error_by code text =
    codes ",\"error\":{\"code\":" ++ (code_number code ++ (codes ",\"message\":\"" ++ (text ++ codes "\"}}")))

following : (id : IdVal) (code : Code) →
    body (refusal id code)
    ≡ codes "{\"jsonrpc\":\"2.0\",\"id\":" ++ (token_text (id_token id) ++ error_by code (escape (code_text code)))
unfolding escape_byte print_from
following NullId code = simp append_assoc
following (NumberId s) code = simp append_assoc
following (TextId s) code = simp append_assoc

pub refusal_text : (id : IdVal) (code : Code) →
    body (refusal id code)
    ≡ codes "{\"jsonrpc\":\"2.0\",\"id\":" ++ (token_text (id_token id) ++ error_member code)
refusal_text id code = rw (text-plain code) at (following id code)

-- it begins with a brace
pub refusal_begins : (id : IdVal) (code : Code) → (rest : List ℕ) × (body (refusal id code) ≡ 123 ∷ rest)
refusal_begins id code = (_, refusal_text id code)
