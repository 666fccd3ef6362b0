-- One more fault of a tag that is read alone.
use Rattle.std.proofs.Common.{◌≡◌, ◌++◌, ◌∙◌, ◌<◌, ℕ, true, List, [], ◌∷◌, map, length, append_assoc, refl, sym, subst, ap, inl, string_bytes}
use Rattle.std.specs.Prelude.{IfSome, Option, Some, None}
use Rattle.std.specs.List.{AllByRecursion}
use Rattle.tera_base.specs.ErrorView.{ErrorVal, NoMemory, Saying, Reporting, ReportOf, NoteVal, NoteOf, error_view}
use Rattle.tera_base.specs.declared.errors.Error.{Error}
use Rattle.tera_lexer.specs.declared.lexer.place.Place as lexer
use Rattle.tera_lexer.specs.grammar.Marks.{default_marks}
use Rattle.tera_lexer.specs.grammar.Place.{place_after}
use Rattle.tera_grammar.specs.Limits.{usual}
use Rattle.tera_parser.specs.Notes.{EachNote, IsAbout}
use Rattle.tera_mend.specs.Lone.{IsFaultOf, IsLone, IsPlaced}
use Rattle.tera_mend.specs.Mending.{EditVal, Edits, FailsAlone, Puts}
use Rattle.tera_mend.specs.Moved.{moved_error, moved_note}
use Rattle.tera_mend.specs.Places.{AreInPlace}
use Rattle.tera_mend.specs.Views.{LeadsTo, edit_view, place_view}
use Rattle.tera_mend.specs.declared.lone.Lone.{Lone}
use Rattle.tera_mend.specs.declared.mending.Fault.{Fault}
use Rattle.tera_mend.specs.declared.moved.Place.{Place}
use Rattle.tera_mend.proofs.Steps.{more_alone}

names_moved : (file : List ℕ) (p : lexer.Place) (ns : List NoteVal) → AllByRecursion (IsAbout file) ns → AllByRecursion (IsAbout file) (map (moved_note p) ns)
names_moved file p [] all = tt
names_moved file p (NoteOf label name span ∷ ns) all = (all.0, names_moved file p ns all.1)

error_names : (file : List ℕ) (p : lexer.Place) (v : ErrorVal) → EachNote (λ span n. IsAbout file n) v → EachNote (λ span n. IsAbout file n) (moved_error p v)
error_names file p NoMemory all = tt
error_names file p (Saying text) all = tt
error_names file p (Reporting (ReportOf text span notes)) all = names_moved file p notes all

-- the fault of a tag, at its place after bytes
pub placed_lone : (file before tag : List ℕ) (place : Place) (e : Error) (written : List ℕ) (o : Option Lone) → IsFaultOf file tag e → AreInPlace tag written
    → IfSome o (IsPlaced before place e written) → IfSome o (IsLone file before tag place)
placed_lone file before tag place e written None found are placed = placed
placed_lone file before tag place e written (Some lone) found are placed = record {
  fault = λ front at. record {
    closing = found.closing;
    alone = e;
    fails = found.fails;
    in_tag = found.in_tag;
    is_moved = placed.error ∙ ap (λ p. moved_error p (error_view e)) (placed.is_there front at);
  };
  notes = subst (EachNote (λ span n. IsAbout file n)) (sym placed.error) (error_names file placed.there (error_view e) found.notes);
  in_place = subst (AreInPlace tag) (sym placed.written) are;
  after = λ front at. placed.after front at ∙ ap (λ t. place_after ((front ++ before) ++ t)) (sym placed.written);
}

over_tag : (front tag written after : List ℕ) → AreInPlace tag written → Puts (record { at = length front; bytes = written }) (front ++ (tag ++ after)) (front ++ (written ++ after))
over_tag front tag written after are = record {
  before = front;
  taken = tag;
  after = after;
  is_old = refl;
  is_new = refl;
  is_at = refl;
  in_place = inl are;
}

pub same_edit : (at there : ℕ) (bytes others : List ℕ) → at ≡ there → bytes ≡ others
    → (let one : EditVal = record { at = at; bytes = bytes } in let other : EditVal = record { at = there; bytes = others } in one ∷ [] ≡ other ∷ [])
same_edit at there bytes others a b = rw (a, b)

-- one more fault of a tag
pub lone_more : (file source : List ℕ) (fs gs : List Fault) (f : Fault) (done rest before tag after : List ℕ) (place : Place) (lone : Lone) → LeadsTo file source fs (done ++ rest)
    → 0 < length fs → rest ≡ before ++ (tag ++ after) → place_view place ≡ place_after done → IsLone file before tag place lone → gs ≡ fs ++ f ∷ [] → f.error ≡ lone.error → f.alone ≡ true
    → map edit_view f.edits.items ≡ record { at = length (done ++ before); bytes = string_bytes lone.written } ∷ [] → LeadsTo file source gs (((done ++ before) ++ string_bytes lone.written) ++ after)
lone_more file source fs gs f done rest before tag after place lone leads some is at found added same kind edited =
    let text : done ++ rest ≡ (done ++ before) ++ (tag ++ after) = ap (λ t. done ++ t) is ∙ sym (append_assoc done before (tag ++ after)) in
    let fails : FailsAlone usual default_marks (done ++ rest) f.error = (done ++ before, tag, after, text, rw same (found.fault done at)) in
    let edits : Edits (map edit_view f.edits.items) ((done ++ before) ++ (tag ++ after)) ((done ++ before) ++ (string_bytes lone.written ++ after)) =
    rw edited (_, over_tag (done ++ before) tag (string_bytes lone.written) after found.in_place, refl)
    in
    subst (LeadsTo file source gs) (sym (append_assoc (done ++ before) (string_bytes lone.written) after))
    (more_alone file source (done ++ rest) ((done ++ before) ++ (string_bytes lone.written ++ after)) fs gs f leads added some kind fails (rw same found.notes)
    (subst (λ t. Edits (map edit_view f.edits.items) t ((done ++ before) ++ (string_bytes lone.written ++ after))) (sym text) edits))
