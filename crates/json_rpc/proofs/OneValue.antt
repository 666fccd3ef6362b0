-- Messages are values of JSON, which are read back.
use Rattle.std.proofs.Common.{◌≡◌, ℕ, List, refl, arith}
use Rattle.json.proofs.Printed.Trees.{document-print}
use Rattle.json.specs.Json.{Json}
use Rattle.json.specs.Print.{IsNumber}
use Rattle.json.specs.Tree.{depth, HasNumbers}
use Rattle.json.specs.Word.{after_number}
use Rattle.json_rpc.specs.Codes.{code_number}
use Rattle.json_rpc.specs.Ids.{IdVal, NullId, NumberId, TextId, IsId}
use Rattle.json_rpc.specs.Laws.{IsPart, IsOneValue}
use Rattle.json_rpc.specs.Writing.{id_json, answer, refusal, notification, request}
use Rattle.json_rpc.specs.declared.code.Code.{Code}
use Rattle.json_rpc.specs.declared.code.Code.TheVariants.{ParseError, InvalidRequest, MethodNotFound, InvalidParams, InternalError, ServerNotInitialized, RequestFailed}

has_number : (id : IdVal) → IsId id → HasNumbers (id_json id)
has_number NullId h = tt
has_number (NumberId s) h = h.1
has_number (TextId s) h = tt

is_flat : (id : IdVal) → depth (id_json id) ≡ 0
is_flat NullId = refl
is_flat (NumberId s) = refl
is_flat (TextId s) = refl

code_is_number : (code : Code) → IsNumber (code_number code)
unfolding after_number
code_is_number ParseError = refl
code_is_number InvalidRequest = refl
code_is_number MethodNotFound = refl
code_is_number InvalidParams = refl
code_is_number InternalError = refl
code_is_number ServerNotInitialized = refl
code_is_number RequestFailed = refl

pub one_answer : (id : IdVal) (j : Json) → IsId id → IsPart j → IsOneValue (answer id j)
one_answer id j h p =
    document-print (answer id j) (tt, (has_number id h, (p.0, tt))) (omega (arith, is_flat id, p.1))

pub one_refusal : (id : IdVal) (code : Code) → IsId id → IsOneValue (refusal id code)
one_refusal id code h =
    document-print (refusal id code) (tt, (has_number id h, ((code_is_number code, (tt, tt)), tt))) (omega (arith, is_flat id))

pub one_notification : (method : List ℕ) (j : Json) → IsPart j → IsOneValue (notification method j)
one_notification method j p = document-print (notification method j) (tt, (tt, (p.0, tt))) (omega (arith, p.1))

pub one_request : (id : IdVal) (method : List ℕ) (j : Json) → IsId id → IsPart j → IsOneValue (request id method j)
one_request id method j h p =
    document-print (request id method j) (tt, (has_number id h, (tt, (p.0, tt)))) (omega (arith, is_flat id, p.1))
