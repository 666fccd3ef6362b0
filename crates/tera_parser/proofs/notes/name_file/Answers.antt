use Rattle.std.proofs.Common.{rules, ◌≡◌, ◌∙◌, map, ◌<◌, length, ap, sym, set, string_bytes, slice_index_or}
use Rattle.std.proofs.lemmas.List.{get_or-map, map-set, length-map}
use Rattle.std.proofs.lemmas.List.Edits.{map_over_more}
use Rattle.tera_base.specs.ErrorView.{NoteOf, note_view}
use Rattle.tera_parser.specs.Notes.{about}
use Rattle.tera_parser.proofs.notes.name_file.Goals as goal

pub notes-preserved : goal.notes-preserved
notes-preserved c =
    let old = slice_index_or c.notes.note-items c.notes.note-index c.note-item.result in
    let here : c.notes.note-index < length c.notes.note-items = search rules in
    let first : c.notes.note-index < length c.deref_mut-note-items.result.now = search rules in
    let below : c.notes.note-index < length (map note_view c.deref_mut-note-items.result.now) =
    rw length-map first
    in
    let named : string_bytes c.in_ok-note.field-0 ≡ c.args.filename.now = search rules in
    map-set note_view _ _ _
    ∙ ap (λ text. set (map note_view c.notes.note-items) c.notes.note-index (NoteOf (string_bytes old.label) text old.span)) named
    ∙ map_over_more (about c.args.filename.now) _ _ c.notes.note-index (note_view old) below c.notes.invariant
    (sym (get_or-map note_view c.notes.note-items c.notes.note-index c.note-item.result (note_view old) here))
