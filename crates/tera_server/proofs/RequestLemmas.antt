-- What requests are given, by what they ask and when.
use Rattle.std.proofs.Common.{◌≡◌, ◌∙◌, ◌++◌, ◌∷◌, [], ℕ, List, Option, Result, Ok, Err, Vec, IfOk, IfErr, MatchResult, None, Some, ◌⊎◌, inl, inr, refl, sym, ap, subst, append_assoc}
use Rattle.std.specs.declared.alloc.Global.{Global}
use Rattle.json.specs.Json.{Json}
use Rattle.json.specs.Print.{print}
use Rattle.json.specs.Token.{Token, end_object}
use Rattle.json.specs.Tree.{json_tokens}
use Rattle.json_rpc.specs.Ids.{IdVal, NullId, NumberId, TextId}
use Rattle.json_rpc.specs.Outgoing.{Outgoing, IsAnswered}
use Rattle.json_rpc.specs.Writing.{body, answer, answer_begin, refusal}
use Rattle.tera_answers.specs.Abilities.{abilities_json}
use Rattle.tera_editor.specs.Clients.{client_in}
use Rattle.tera_workspace.specs.Workspaces.{IsKept}
use Rattle.tera_workspace.specs.declared.workspace.Workspace.{Workspace}
use Rattle.text_edits.specs.Documents.{text_of}
use Rattle.text_edits.specs.Stored.{AreSame}
use Rattle.json_rpc.specs.declared.code.Code.{Code}
use Rattle.json_rpc.specs.declared.code.Code.TheVariants.{InternalError}
use Rattle.tera_editor.specs.Editors.{state_of}
use Rattle.tera_server.specs.Notes.{Texts}
use Rattle.tera_server.specs.Requests.{IsBegun, HasRead, Gives, Remains, RefusesDocument, RefusesPlace, RefusesState, IsAnsweredBy}
use Rattle.tera_server.specs.Steps.{answer_by, Answers, Follows}
use Rattle.tera_editor.specs.declared.editor.DocumentState.TheVariants.{Open}
use Rattle.tera_server.specs.declared.requests.Asked.{Asked}
use Rattle.tera_server.specs.declared.requests.Asked.TheVariants.{Initialize, Shutdown, OfText, AtPlace, Actions, Other}
use Rattle.tera_server.specs.declared.server.Phase.{Phase}
use Rattle.tera_server.specs.declared.server.Phase.TheVariants.{New, Running, ShutDown}
use Rattle.tera_server.specs.declared.server.Server.{Server}

gives_begun : (phase : Phase) (asked : Asked) (params : Option Json) (s t : Server) → phase ≡ New → asked ≡ Initialize → IsBegun params s t →
    Gives phase asked s params (abilities_json (client_in params).encoding) t
gives_begun phase asked params s t e f h =
    let j = abilities_json (client_in params).encoding in
    subst (λ p. Gives p asked s params j t) (sym e) (subst (λ a. Gives New a s params j t) (sym f) (refl, h))

pub begun_answered : (id : IdVal) (asked : Asked) (params : Option Json) (s t : Server) (r : Result (Vec ℕ Global) Code) → s.phase ≡ New → asked ≡ Initialize →
    IfOk r (λ v. IsBegun params s t × (v.items ≡ body (answer id (abilities_json (client_in params).encoding)))) → IfErr r (λ code. (t ≡ s) × (code ≡ InternalError)) →
    IsAnsweredBy s id asked params r t
begun_answered id asked params s t (Ok v) new is begun err = (abilities_json (client_in params).encoding, gives_begun s.phase asked params s t new is begun.0, begun.1)
begun_answered id asked params s t (Err code) new is begun err = (subst (λ p. Remains p asked s t) (sym new) err.0, inl err.1)

-- an answer that was begun, has its result written, and is ended
completed : (id : IdVal) (j : Json) → answer_begin id ++ (json_tokens j ++ end_object ∷ []) ≡ json_tokens (answer id j)
completed NullId j = refl
completed (NumberId s) j = refl
completed (TextId s) j = refl

pub answered : (id : IdVal) (j : Json) (first items : List ℕ) (tokens : List Token) → items ≡ first ++ print (tokens ++ end_object ∷ []) → first ≡ [] → tokens ≡ answer_begin id ++ json_tokens j →
    items ≡ body (answer id j)
answered id j first items tokens is none written =
    is
    ∙ ap (λ bs. bs ++ print (tokens ++ end_object ∷ [])) none
    ∙ ap print (ap (λ ts. ts ++ end_object ∷ []) written ∙ append_assoc (answer_begin id) (json_tokens j) (end_object ∷ []) ∙ completed id j)

-- ---- what is sent

sent_by_result : (id : IdVal) (r : Result (Vec ℕ Global) Code) (old now : Outgoing) →
    MatchResult r (λ m. IsAnswered old now id m.items) (λ code. IsAnswered old now id (body (refusal id code))) → IsAnswered old now id (answer_by id r)
sent_by_result id (Ok m) old now h = h
sent_by_result id (Err code) old now h = h

pub answers : (id : IdVal) (asked meant : Asked) (params : Option Json) (s t : Server) (r : Result (Vec ℕ Global) Code) (old now : Outgoing) → asked ≡ meant →
    IsAnsweredBy s id asked params r t → MatchResult r (λ m. IsAnswered old now id m.items) (λ code. IsAnswered old now id (body (refusal id code))) →
    Answers id meant s params old t now
answers id asked meant params s t r old now is answered sent = (r, subst (λ a. IsAnsweredBy s id a params r t) is answered, sent_by_result id r old now sent)

-- ---- a document is refused for the same reasons after documents were read

refused : (uri : Option (List ℕ)) (s : Server) (w : Workspace) (code : Code) → AreSame s.workspace.documents w.documents → RefusesDocument uri (record s { workspace = w }) code → RefusesDocument uri s code
refused None s w code same h = h
refused (Some uri) s w code same (name, is, why) = (name, is, subst (λ d. RefusesState (state_of s.editor name) (text_of d) code) (same name) why)

refused_place : {A : Type 0} (place : Option A) (uri : Option (List ℕ)) (s : Server) (w : Workspace) (code : Code) → AreSame s.workspace.documents w.documents
    → RefusesPlace place uri (record s { workspace = w }) code → RefusesPlace place uri s code
refused_place None uri s w code same h = h
refused_place (Some place) uri s w code same h = refused uri s w code same h

pub due_before : {A : Type 0} (place : Option A) (uri : Option (List ℕ)) (s : Server) (w : Workspace) (code : Code) → AreSame s.workspace.documents w.documents
    → (code ≡ InternalError) ⊎ RefusesPlace place uri (record s { workspace = w }) code → (code ≡ InternalError) ⊎ RefusesPlace place uri s code
due_before place uri s w code same (inl failed) = inl failed
due_before place uri s w code same (inr h) = inr (refused_place place uri s w code same h)

-- ---- what is so of each workspace stays so, and the texts that are open stay those of the editor

abbrev pub Keeps : Server → Server → Type 0
Keeps s t = (IsKept s.workspace → IsKept t.workspace) × ((texts : Texts) → Follows texts s → Follows texts t)

same_keeps : (s t : Server) → t ≡ s → Keeps s t
same_keeps s t same = subst (λ u. Keeps s u) (sym same) (λ kept. kept, λ texts f. f)

read_keeps : (s t : Server) → HasRead s t → Keeps s t
read_keeps s t h = (
  h.kept,
  λ texts f. record {
    in_step = λ n sound. ap (λ d. d.opened) (h.documents n) ∙ f.in_step n (subst (λ (u : Server). state_of u.editor n ≡ Open) h.rest sound);
    unopened = λ begun n sound. f.unopened (subst (λ (u : Server). u.phase ≡ New) h.rest begun) n (subst (λ (u : Server). state_of u.editor n ≡ Open) h.rest sound);
  },
)

begun_keeps : (params : Option Json) (s t : Server) → s.phase ≡ New → IsBegun params s t → Keeps s t
begun_keeps params s t new h = (
  λ kept. h.kept,
  λ texts f. record {
    in_step = λ n sound. absurd (f.unopened new n (subst (λ (u : Server). state_of u.editor n ≡ Open) h.same sound));
    unopened = λ begun n sound. f.unopened new n (subst (λ (u : Server). state_of u.editor n ≡ Open) h.same sound);
  },
)

ended_keeps : (s t : Server) → t ≡ record s { phase = ShutDown } → Keeps s t
ended_keeps s t is = subst (λ u. Keeps s u) (sym is) (λ kept. kept, λ texts f. record { in_step = f.in_step; unopened = λ begun. absurd (cc) })

given_keeps : (phase : Phase) (asked : Asked) (params : Option Json) (s t : Server) (j : Json) → s.phase ≡ phase → Gives phase asked s params j t → Keeps s t
given_keeps New Initialize params s t j is h = begun_keeps params s t is h.1
given_keeps New Shutdown params s t j is h = absurd h
given_keeps New (OfText request) params s t j is h = absurd h
given_keeps New (AtPlace request) params s t j is h = absurd h
given_keeps New Actions params s t j is h = absurd h
given_keeps New Other params s t j is h = absurd h
given_keeps Running Initialize params s t j is h = absurd h
given_keeps Running Shutdown params s t j is h = ended_keeps s t h.1
given_keeps Running (OfText request) params s t j is h = same_keeps s t h.1
given_keeps Running (AtPlace request) params s t j is h = read_keeps s t h.stays
given_keeps Running Actions params s t j is h = read_keeps s t h.stays
given_keeps Running Other params s t j is h = absurd h
given_keeps ShutDown asked params s t j is h = absurd h

remains_keeps : (phase : Phase) (asked : Asked) (s t : Server) → Remains phase asked s t → Keeps s t
remains_keeps New asked s t h = same_keeps s t h
remains_keeps Running Initialize s t h = same_keeps s t h
remains_keeps Running Shutdown s t h = same_keeps s t h
remains_keeps Running (OfText request) s t h = same_keeps s t h
remains_keeps Running (AtPlace request) s t h = read_keeps s t h
remains_keeps Running Actions s t h = read_keeps s t h
remains_keeps Running Other s t h = same_keeps s t h
remains_keeps ShutDown asked s t h = same_keeps s t h

pub answered_keeps : (id : IdVal) (asked : Asked) (params : Option Json) (s t : Server) (r : Result (Vec ℕ Global) Code) → IsAnsweredBy s id asked params r t → Keeps s t
answered_keeps id asked params s t (Ok v) (j, given, written) = given_keeps s.phase asked params s t j refl given
answered_keeps id asked params s t (Err code) (remains, due) = remains_keeps s.phase asked s t remains
