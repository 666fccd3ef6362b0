-- What is written is read as what it was written for.
use Rattle.std.proofs.Common.{◌≡◌, ◌≢◌, ℕ, ◌≤◌, List, length, true, nat_le, Some, refl, ap, ◌∙◌, arith}
use Rattle.std.proofs.lemmas.Bool.Decides.{nat_tests}
use Rattle.std.specs.Str.{IsUtf8}
use Rattle.json.specs.Json.{Json}
use Rattle.json_rpc.specs.Ids.{IdVal, NullId, NumberId, TextId, IsId, max_id}
use Rattle.json_rpc.specs.Laws.{IsPart, IsOneValue}
use Rattle.json_rpc.specs.Messages.{Request, Notification, Response, NamedBy, naming, message_in, message_of}
use Rattle.json_rpc.specs.Writing.{body, id_json, answer, refusal, notification, request}
use Rattle.json_rpc.specs.declared.code.Code.{Code}
use Rattle.json_rpc.proofs.Documents.{json_of-some}
use Rattle.json_rpc.proofs.OneValue.{one_answer, one_refusal, one_notification, one_request}

read : (message : Json) → IsOneValue message → IsUtf8 (body message) → message_of (body message) ≡ message_in (Some message)
read message one u = ap message_in (json_of-some (body message) message u one)

within : (s : List ℕ) → length s ≤ max_id → nat_le (length s) max_id ≡ true
within s h = grind (arith, nat_tests, h)

names : (id : IdVal) → IsId id → id ≢ NullId → naming (Some (id_json id)) ≡ NamedBy id
names NullId h other = absurd (other refl)
names (NumberId s) h other = rw (within s h.0) refl
names (TextId s) h other = rw (within s h) refl

pub request_back : (id : IdVal) (method : List ℕ) (j : Json) → IsId id → id ≢ NullId → IsPart j →
    IsUtf8 (body (request id method j)) → message_of (body (request id method j)) ≡ Request id method (Some j)
request_back id method j h other p u = read (request id method j) (one_request id method j h p) u ∙ rw (names id h other) refl

pub notification_back : (method : List ℕ) (j : Json) → IsPart j → IsUtf8 (body (notification method j)) →
    message_of (body (notification method j)) ≡ Notification method (Some j)
notification_back method j p u = read (notification method j) (one_notification method j p) u

answers : (id : IdVal) (j : Json) → IsId id → message_in (Some (answer id j)) ≡ Response
answers NullId j h = refl
answers (NumberId s) j h = rw (within s h.0) refl
answers (TextId s) j h = rw (within s h) refl

pub answer_back : (id : IdVal) (j : Json) → IsId id → IsPart j → IsUtf8 (body (answer id j)) →
    message_of (body (answer id j)) ≡ Response
answer_back id j h p u = read (answer id j) (one_answer id j h p) u ∙ answers id j h

refuses : (id : IdVal) (code : Code) → IsId id → message_in (Some (refusal id code)) ≡ Response
refuses NullId code h = refl
refuses (NumberId s) code h = rw (within s h.0) refl
refuses (TextId s) code h = rw (within s h) refl

pub refusal_back : (id : IdVal) (code : Code) → IsId id → IsUtf8 (body (refusal id code)) →
    message_of (body (refusal id code)) ≡ Response
refusal_back id code h u = read (refusal id code) (one_refusal id code h) u ∙ refuses id code h
