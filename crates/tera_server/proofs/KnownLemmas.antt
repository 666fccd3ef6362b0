-- What is reported for a document of a name is reported for that of its URI.
use Rattle.std.proofs.Common.{◌≡◌, ℕ, List, Option, Some, Result, Ok, Err, OnOk, OnErr, sym, subst}
use Rattle.std.specs.declared.alloc.AllocError.{AllocError}
use Rattle.file_uris.specs.Names.{IsNameOf}
use Rattle.file_uris.proofs.DecodingLemmas.{name_once}
use Rattle.json.specs.Json.{Json}
use Rattle.tera_server.specs.Notes.{IsNotedAs, IsNotedOf, IsHeldAside, IsHeldBut}
use Rattle.tera_server.specs.declared.notes.DocumentNote.{DocumentNote}
use Rattle.tera_server.specs.declared.server.Server.{Server}

-- a note was taken
pub noted_of : (r : Result (Unit {0}) AllocError) (note kind : DocumentNote) (u : Option (List ℕ)) (uri name shown : List ℕ) (params : Option Json) (s t : Server) → note ≡ kind → Some uri ≡ u →
    IsNameOf uri name → shown ≡ name → OnOk r (IsNotedAs kind shown uri s params t) → OnOk r (IsNotedOf note u s params t)
noted_of (Ok x) note kind u uri name shown params s t noted is of same h =
    subst (λ n. IsNotedOf n u s params t) (sym noted) (subst (λ v. IsNotedOf kind v s params t) is (shown, subst (λ m. IsNameOf uri m) (sym same) of, h))
noted_of (Err x) note kind u uri name shown params s t noted is of same h = h

-- an allocation failed
aside_but : (uri name : List ℕ) (s t : Server) → IsNameOf uri name → IsHeldAside name s t → IsHeldBut (Some uri) s t
aside_but uri name s t of h = λ other is. subst (λ m. IsHeldAside m s t) (name_once uri name other of is) h

pub aside_err : (r : Result (Unit {0}) AllocError) (u : Option (List ℕ)) (uri name shown : List ℕ) (s t : Server) → Some uri ≡ u → IsNameOf uri name → shown ≡ name →
    OnErr r (IsHeldAside shown s t) → OnErr r (IsHeldBut u s t)
aside_err (Ok x) u uri name shown s t is of same h = h
aside_err (Err x) u uri name shown s t is of same h = subst (λ v. IsHeldBut v s t) is (aside_but uri name s t of (subst (λ m. IsHeldAside m s t) same h))
