use Rattle.std.proofs.Common.{◌≡◌, ◌∙◌, refl, ap, inl, Some, length, option_map}
use Rattle.std.specs.Prelude.{slice_get}
use Rattle.std.proofs.lemmas.Option.{slice_get-map, slice_get_read}
use Rattle.tera_base.specs.ErrorView.{note_view}
use Rattle.tera_c.proofs.faults.put_note.Goals as goal

pub returns-in-Some : goal.returns-in-Some
returns-in-Some c =
    let notes = c.args.report.now.notes.items in
    let shown = rw c.deref.ensures.value at c.in-Some.ensures.lookup in
    let found : slice_get notes c.args.index ≡ Some c.in-Some.note.now
    = slice_get_read notes (length notes) c.args.index c.in-Some.note.now refl shown.3.0 shown.1 in
    inl (
      note_view c.in-Some.note.now,
      slice_get-map note_view notes c.args.index ∙ ap (option_map note_view) found,
      rw c.as_str.ensures.value at c.put.ensures,
      c.place_at.ensures,
    )
