use Rattle.std.proofs.Common.{rules, ◌≡◌, ◌∙◌, map, ◌<◌, length, ap, sym, set, string_bytes, slice_index_or}
use Rattle.std.proofs.lemmas.List.{get_or-map, map-set, length-map}
use Rattle.std.proofs.lemmas.List.Edits.{map_over_more}
use Rattle.tera_base.specs.ErrorView.{NoteOf, note_view}
use Rattle.tera_mend.specs.Moved.{moved_note, moved_span}
use Rattle.tera_mend.specs.Views.{place_view}
use Rattle.tera_mend.proofs.moved.put_notes_at.Goals as goal

pub notes-preserved : goal.notes-preserved
notes-preserved c =
    let old = slice_index_or c.notes.note-items c.notes.note-index c.note-item.result in
    let here : c.notes.note-index < length c.notes.note-items = search rules in
    let first : c.notes.note-index < length c.deref_mut-note-items.result.now = search rules in
    let below : c.notes.note-index < length (map note_view c.deref_mut-note-items.result.now) =
    rw length-map first
    in
    let moved : c.in-Some.span ≡ moved_span (place_view c.args.place) old.span = search rules in
    map-set note_view _ _ _
    ∙ ap (λ span. set (map note_view c.notes.note-items) c.notes.note-index (NoteOf (string_bytes old.label) (string_bytes old.filename) span)) moved
    ∙ map_over_more (moved_note (place_view c.args.place)) _ _ c.notes.note-index (note_view old) below c.notes.invariant
    (sym (get_or-map note_view c.notes.note-items c.notes.note-index c.note-item.result (note_view old) here))
