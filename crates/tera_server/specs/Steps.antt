-- What a message does.
use Rattle.std.specs.Prelude.{◌≡◌, ◌⊎◌, ⊤, ℕ, List, Option, None, Some, Result, Ok, Err, Vec}
use Rattle.std.specs.declared.alloc.Global.{Global}
use Rattle.json.specs.Json.{Json}
use Rattle.json_rpc.specs.Ids.{IdVal, NullId, NumberId, TextId}
use Rattle.json_rpc.specs.Messages.{MessageVal, Request, Notification, Response, Invalid, NotJson}
use Rattle.json_rpc.specs.Outgoing.{Outgoing, IsAnswered}
use Rattle.json_rpc.specs.Outline.{answered_id}
use Rattle.json_rpc.specs.Writing.{body, refusal}
use Rattle.json_rpc.specs.declared.code.Code.{Code}
use Rattle.json_rpc.specs.declared.code.Code.TheVariants as codes_of
use Rattle.tera_editor.specs.Editors.{state_of}
use Rattle.tera_server.specs.Notes.{noted_of, IsNoted, sent_by, Texts, Edits, IsInStep}
use Rattle.tera_server.specs.Requests.{asked_of, IsAnsweredBy}
use Rattle.tera_server.specs.Sending.{with_all}
use Rattle.tera_server.specs.States.{IsMissed, KeepsDue, StaysBut}
use Rattle.tera_editor.specs.declared.editor.DocumentState.TheVariants.{Open}
use Rattle.tera_server.specs.declared.notes.Noted.{Noted}
use Rattle.tera_server.specs.declared.notes.Noted.TheVariants as notes
use Rattle.tera_server.specs.declared.requests.Asked.{Asked}
use Rattle.tera_server.specs.declared.server.Ended.{Ended}
use Rattle.tera_server.specs.declared.server.Ended.TheVariants.{Orderly, Early}
use Rattle.tera_server.specs.declared.server.Phase.{Phase}
use Rattle.tera_server.specs.declared.server.Phase.TheVariants.{New, Running, ShutDown}
use Rattle.tera_server.specs.declared.server.Server.{Server}

-- how an exchange ends: orderly after `shutdown`
abbrev pub ended_at : Phase → Ended
ended_at New = Early
ended_at Running = Early
ended_at ShutDown = Orderly

-- by a notification: only by `exit`
abbrev pub ended_by : Noted → Phase → Option Ended
ended_by notes.Exit phase = Some (ended_at phase)
ended_by _ phase = None

-- a message that is not taken: with an id it is not a notification, and nothing changes; without one it may have been a
-- change of any document
abbrev pub IsPassedOver : IdVal → Server → Server → Type 0
IsPassedOver NullId s t = IsMissed s t
IsPassedOver (NumberId number) s t = t ≡ s
IsPassedOver (TextId text) s t = t ≡ s

-- .. and it is answered by an error
abbrev pub IsRefused : IdVal → Code → Server → Outgoing → Server → Outgoing → Type 0
IsRefused id code s old t now = IsPassedOver id s t × IsAnswered old now id (body (refusal id code))

-- the answer to a request
abbrev pub answer_by : IdVal → Result (Vec ℕ Global) Code → List ℕ
answer_by id (Ok v) = v.items
answer_by id (Err code) = body (refusal id code)

-- a request is answered
abbrev pub Answers : IdVal → Asked → Server → Option Json → Outgoing → Server → Outgoing → Type 0
Answers id asked s params old t now =
    (r : Result (Vec ℕ Global) Code) × IsAnsweredBy s id asked params r t × IsAnswered old now id (answer_by id r)

-- a notification is taken, which may end the exchange
abbrev pub IsHeard : Noted → Server → Option Json → Outgoing → Option Ended → Server → Outgoing → Type 0
IsHeard noted s params old ended t now =
    (ended ≡ ended_by noted s.phase) × IsNoted noted s params t × (now ≡ with_all old (sent_by noted s))

-- a message is taken: a request has its answer, and nothing else has one
abbrev pub Step : Server → MessageVal → Outgoing → Option Ended → Server → Outgoing → Type 0
Step s (Request id method params) old ended t now = (ended ≡ None) × Answers id (asked_of method) s params old t now
Step s (Notification method params) old ended t now = IsHeard (noted_of method) s params old ended t now
Step s Response old ended t now = (ended ≡ None) × (t ≡ s) × (now ≡ old)
Step s (Invalid id) old ended t now = (ended ≡ None) × IsRefused id codes_of.InvalidRequest s old t now
Step s NotJson old ended t now = (ended ≡ None) × IsRefused NullId codes_of.ParseError s old t now

-- ---- what fails to allocate

-- an allocation fails for a message: a request is answered by an error; for a notification nothing is sent, and what
-- was still to be done is still to be done
abbrev pub IsUntakenBy : Option IdVal → Server → Outgoing → Server → Outgoing → Type 0
IsUntakenBy None s old t now = StaysBut s t × KeepsDue s t × (now ≡ old)
IsUntakenBy (Some id) s old t now = IsRefused id codes_of.InternalError s old t now

-- .. or it is missed: not even its id was found, since an allocation failed for its bytes
abbrev pub IsUntaken : Server → MessageVal → Outgoing → Server → Outgoing → Type 0
IsUntaken s message old t now =
    IsUntakenBy (answered_id message) s old t now
    ⊎ (IsMissed s t × IsAnswered old now NullId (body (refusal NullId codes_of.InternalError)))

-- ---- what the editor has

-- what a message does to the texts that the editor has open: once the exchange has begun, a note may change them
abbrev pub EditsIn : Phase → Server → Noted → Option Json → Texts → Texts → Type 0
EditsIn New s noted params old now = (n : List ℕ) → now n ≡ old n
EditsIn Running s noted params old now = Edits s.workspace.encoding noted params old now
EditsIn ShutDown s noted params old now = (n : List ℕ) → now n ≡ old n

-- .. what a message does that is not taken: without an id it may have changed them in any way
abbrev pub EditsPassedOver : IdVal → Texts → Texts → Type 0
EditsPassedOver NullId old now = ⊤
EditsPassedOver (NumberId number) old now = (n : List ℕ) → now n ≡ old n
EditsPassedOver (TextId text) old now = (n : List ℕ) → now n ≡ old n

abbrev pub EditsBy : Server → MessageVal → Texts → Texts → Type 0
EditsBy s (Request id method params) old now = (n : List ℕ) → now n ≡ old n
EditsBy s (Notification method params) old now = EditsIn s.phase s (noted_of method) params old now
EditsBy s Response old now = (n : List ℕ) → now n ≡ old n
EditsBy s (Invalid id) old now = EditsPassedOver id old now
EditsBy s NotJson old now = EditsPassedOver NullId old now

-- each text that is known to be open is the editor's; and before the exchange none is
pub record Follows (texts : Texts) (s : Server) : Type 0 where
  pub in_step : IsInStep texts s
  pub unopened : s.phase ≡ New → (n : List ℕ) → state_of s.editor n ≡ Open → ⊥

-- a message that is taken, or fails to allocate, leaves the server in step
abbrev pub KeepsUp : MessageVal → Server → Server → Type 0
KeepsUp message s t = (texts now : Texts) → EditsBy s message texts now → Follows texts s → Follows now t
