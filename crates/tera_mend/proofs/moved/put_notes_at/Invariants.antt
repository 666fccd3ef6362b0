use Rattle.std.proofs.Common.{◌≡◌, ◌++◌, map, take, drop}
use Rattle.tera_base.specs.ErrorView.{note_view}
use Rattle.tera_mend.specs.Moved.{moved_note}
use Rattle.tera_mend.specs.Views.{place_view}
use Rattle.tera_mend.proofs.moved.put_notes_at.Given as goal

-- the notes before the index are at their places there, and those from there on are as they were
abbrev pub invariant-notes : goal.invariant-notes
invariant-notes l =
    map note_view l.note-items
    ≡ map (moved_note (place_view l.fn.place)) (take l.note-index (map note_view l.initial.note-items)) ++ drop l.note-index (map note_view l.initial.note-items)
