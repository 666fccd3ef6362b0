-- The texts that are known to be open are those of the editor, after a note as before it.
use Rattle.std.proofs.Common.{◌≡◌, ◌∙◌, ℕ, List, [], ◌∷◌, Bool, true, false, cond, Option, None, Some, Result, Ok, Err, OnOk, OnErr, codes, option_map, refl, sym, ap, subst}
use Rattle.std.specs.List.{list_any}
use Rattle.std.specs.Str.{bytes_eq}
use Rattle.std.specs.declared.alloc.AllocError.{AllocError}
use Rattle.std.proofs.lemmas.Slice.Eq.{bytes_eq-Decides}
use Rattle.file_uris.specs.Names.{IsNameOf}
use Rattle.file_uris.proofs.DecodingLemmas.{name_once}
use Rattle.json.specs.Json.{Json}
use Rattle.protocol_values.specs.Members.{member_of, text_in}
use Rattle.protocol_values.specs.Reading.{changes_in}
use Rattle.text_edits.specs.Edits.{ChangeView, NewText, NewPart, edited}
use Rattle.text_edits.specs.declared.positions.Encoding.{Encoding}
use Rattle.tera_editor.specs.Editors.{SeenVal, seen_of, state_of, state_in, state_lost, lost}
use Rattle.tera_server.specs.Notes.{document_in, uri_given, version_of, IsOpened, IsChanged, IsNotedAs, IsNotedOf, IsNotedBy, IsHeldBut, Texts, IsTextAt, EditOpened, EditChanged, Edit, EditsOf, Edits, IsInStep}
use Rattle.tera_server.specs.States.{Known, known_of, IsKnownAt, IsMissed, opened_as, with_lost, changed_as, closed_as, is_whole}
use Rattle.tera_editor.specs.declared.editor.DocumentState.{DocumentState}
use Rattle.tera_editor.specs.declared.editor.DocumentState.TheVariants.{Open, Lost, Closed}
use Rattle.tera_server.specs.declared.notes.DocumentNote.{DocumentNote}
use Rattle.tera_server.specs.declared.notes.DocumentNote.TheVariants as of_document
use Rattle.tera_server.specs.declared.notes.Noted.TheVariants.{OfDocument}
use Rattle.tera_server.specs.declared.server.Server.{Server}

-- after changes of which one says the whole text, the text does not depend on what it was
edited_whole : (e : Encoding) (cs : List ChangeView) (t u : List ℕ) → list_any is_whole cs ≡ true → edited e t cs ≡ edited e u cs
edited_whole e [] t u h = cc
edited_whole e (NewText new ∷ cs) t u h = refl
edited_whole e (NewPart p q new ∷ cs) t u h = edited_whole e cs _ _ h

-- a document that is known to be open has this text
abbrev pub IsHeld : Known → Option (List ℕ) → Type 0
IsHeld k text = state_in k.seen ≡ Open → k.texts.opened ≡ text

-- one is another, and its text
step_at : (name n : List ℕ) (change : Known → Known) (s : Server) (texts : Texts) (text : Option (List ℕ)) (k : Known) (w : Option (List ℕ)) (b : Bool) →
    (b ≡ true → name ≡ n) → k ≡ cond b (change (known_of s n)) (known_of s n) → w ≡ cond b text (texts n) →
    (IsHeld (known_of s name) (texts name) → IsHeld (change (known_of s name)) text) → IsHeld (known_of s n) (texts n) → IsHeld k w
step_at name n change s texts text k w true same is are one h =
    subst (λ j. IsHeld j w) (sym is) (subst (λ v. IsHeld (change (known_of s n)) v) (sym are)
    (subst (λ m. IsHeld (known_of s m) (texts m) → IsHeld (change (known_of s m)) text) (same refl) one h))
step_at name n change s texts text k w false same is are one h =
    subst (λ j. IsHeld j w) (sym is) (subst (λ v. IsHeld (known_of s n) v) (sym are) h)

step_by : (name : List ℕ) (change : Known → Known) (s t : Server) (texts now : Texts) (text : Option (List ℕ)) → IsKnownAt name change s t → IsTextAt name text texts now →
    (IsHeld (known_of s name) (texts name) → IsHeld (change (known_of s name)) text) → IsInStep texts s → IsInStep now t
step_by name change s t texts now text known are one h n =
    step_at name n change s texts text (known_of t n) (now n) (bytes_eq name n) (bytes_eq-Decides name n).0 (known n) (are n) one (h n)

-- an allocation failed
step_but : (uri name : List ℕ) (s t : Server) (texts now : Texts) (text : Option (List ℕ)) → IsHeldBut (Some uri) s t → IsNameOf uri name → IsTextAt name text texts now →
    IsInStep texts s → IsInStep now t
step_but uri name s t texts now text held is are h n sound =
    let (other, same) = held name is n sound in
    let as_was : now n ≡ texts n = are n ∙ ap (λ b. cond b text (texts n)) other in
    ap (λ k. k.texts.opened) same ∙ (h n (sym (ap (λ k. state_in k.seen) same) ∙ sound) ∙ sym as_was)

-- changes of a document that is open in the editor
changed_at : (e : Encoding) (version : Option ℕ) (cs : List ChangeView) (text : List ℕ) (uri : List ℕ) (v : Option ℕ) (state : DocumentState) (opened stored : Option (List ℕ)) (any : Bool) →
    any ≡ list_any is_whole cs → (state ≡ Open → opened ≡ Some text) →
    IsHeld (changed_as e version (Some cs) (record { seen = Some (record { uri = uri; version = v; state = state }); texts = record { opened = opened; stored = stored } })) (Some (edited e text cs))
changed_at e version cs text uri v Open opened stored any is h =
    subst (λ o. IsHeld (changed_as e version (Some cs) (record { seen = Some (record { uri = uri; version = v; state = Open }); texts = record { opened = o; stored = stored } })) (Some (edited e text cs)))
    (sym (h refl)) (λ sound. refl)
changed_at e version cs text uri v Lost None stored true is h = rw (← is) (λ sound. cc)
changed_at e version cs text uri v Lost (Some was) stored true is h = rw (← is) (λ sound. ap Some (edited_whole e cs was text (sym is)))
changed_at e version cs text uri v Lost opened stored false is h = rw (← is) (λ sound. cc)
changed_at e version cs text uri v Closed opened stored any is h = λ sound. cc

changed_held : (e : Encoding) (version : Option ℕ) (cs : List ChangeView) (text : List ℕ) (seen : Option SeenVal) (opened stored : Option (List ℕ)) →
    (state_in seen ≡ Open → opened ≡ Some text) →
    IsHeld (changed_as e version (Some cs) (record { seen = seen; texts = record { opened = opened; stored = stored } })) (Some (edited e text cs))
changed_held e version cs text None opened stored h = λ sound. cc
changed_held e version cs text (Some s) opened stored h = changed_at e version cs text s.uri s.version s.state opened stored (list_any is_whole cs) refl h

-- ---- after a note on a document

renamed : (uri name other : List ℕ) (note : DocumentNote) (s t : Server) (params : Option Json) → IsNameOf uri name → IsNameOf uri other →
    IsNotedAs note other uri s params t → IsNotedAs note name uri s params t
renamed uri name other note s t params of is h = subst (λ m. IsNotedAs note m uri s params t) (name_once uri other name is of) h

never_open : (state : DocumentState) → state_lost state ≡ Open → ⊥
never_open Open e = cc
never_open Lost e = cc
never_open Closed e = cc

lost_unopened : (seen : Option SeenVal) → state_in (option_map lost seen) ≡ Open → ⊥
lost_unopened None e = cc
lost_unopened (Some s) e = never_open s.state e

-- of what is lost no text is known
lost_held : (k : Known) (text : Option (List ℕ)) → IsHeld (with_lost k) text
lost_held k text = λ sound. absurd (lost_unopened k.seen sound)

pub missed_unopened : (s t : Server) → IsMissed s t → (n : List ℕ) → state_of t.editor n ≡ Open → ⊥
missed_unopened s t h n sound = lost_unopened (seen_of s.editor n) (sym (ap state_in (h.seen n)) ∙ sound)

-- what was missed leaves none known, whatever the texts of the editor are
pub missed_step : (s t : Server) (now : Texts) → IsMissed s t → IsInStep now t
missed_step s t now h n sound = absurd (missed_unopened s t h n sound)

opened_step : (name uri : List ℕ) (reported : Option (List ℕ)) (version : Option ℕ) (text : Option (List ℕ)) (s t : Server) (texts now : Texts) → IsOpened name uri reported version s t →
    EditOpened reported text → IsTextAt name text texts now → IsInStep texts s → IsInStep now t
opened_step name uri None version text s t texts now noted edit are h =
    step_by name with_lost s t texts now text noted.0.at are (λ held. lost_held (known_of s name) text) h
opened_step name uri (Some new) version text s t texts now noted is are h =
    step_by name (opened_as uri version new) s t texts now text noted.0.at are (λ held sound. sym is) h

changed_step : (name : List ℕ) (reported : Option (List ChangeView)) (version : Option ℕ) (text : Option (List ℕ)) (s t : Server) (texts now : Texts) → IsChanged name version reported s t →
    EditChanged s.workspace.encoding reported (texts name) text → IsTextAt name text texts now → IsInStep texts s → IsInStep now t
changed_step name None version text s t texts now noted edit are h =
    step_by name (changed_as s.workspace.encoding version None) s t texts now text noted.0.at are (λ held. lost_held (known_of s name) text) h
changed_step name (Some changes) version text s t texts now noted (old, was, is) are h =
    let e = s.workspace.encoding in
    let k = known_of s name in
    step_by name (changed_as e version (Some changes)) s t texts now text noted.0.at are
    (λ held sound. changed_held e version changes old k.seen k.texts.opened k.texts.stored (λ stood. held stood ∙ was) sound ∙ sym is) h

-- of the one that has this name
noted_step : (note : DocumentNote) (params : Option Json) (uri name : List ℕ) (text : Option (List ℕ)) (s t : Server) (texts now : Texts) → IsNotedAs note name uri s params t →
    Edit s.workspace.encoding note params (texts name) text → IsTextAt name text texts now → IsInStep texts s → IsInStep now t
noted_step of_document.Opened params uri name text s t texts now noted edit are h =
    opened_step name uri (text_in (member_of (codes "text") (document_in params))) (version_of (document_in params)) text s t texts now noted edit are h
noted_step of_document.Changed params uri name text s t texts now noted edit are h =
    changed_step name (changes_in (member_of (codes "contentChanges") params)) (version_of (document_in params)) text s t texts now noted edit are h
noted_step of_document.Closed params uri name text s t texts now noted is are h =
    step_by name closed_as s t texts now text noted.0.at are (λ held sound. sym is) h

pub document_step : (note : DocumentNote) (params : Option Json) (s t : Server) (r : Result (Unit {0}) AllocError) → OnOk r (IsNotedBy (OfDocument note) s params t) →
    OnErr r (IsHeldBut (uri_given (document_in params)) s t) →
    (texts now : Texts) → Edits s.workspace.encoding (OfDocument note) params texts now → IsInStep texts s → IsInStep now t
document_step note params s t r ok err texts now edits h = by (uri_given (document_in params)) r ok err edits
  where
    by : (u : Option (List ℕ)) (r : Result (Unit {0}) AllocError) → OnOk r (IsNotedOf note u s params t) → OnErr r (IsHeldBut u s t) → EditsOf s.workspace.encoding note u params texts now → IsInStep now t
    by None (Ok x) ok err edits = missed_step s t now ok
    by None (Err x) ok err edits = missed_step s t now err
    by (Some uri) (Ok x) (other, is, noted) err (name, text, of, edit, are) =
        noted_step note params uri name text s t texts now (renamed uri name other note s t params of is noted) edit are h
    by (Some uri) (Err x) ok err (name, text, of, edit, are) = step_but uri name s t texts now text err of are h
