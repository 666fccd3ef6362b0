use Rattle.std.proofs.Common.{◌≡◌, ◌++◌, map, take, drop}
use Rattle.tera_base.specs.ErrorView.{note_view}
use Rattle.tera_parser.specs.Notes.{about}
use Rattle.tera_parser.proofs.notes.name_file.Given as goal

-- the notes before the index are about the file, and those from there on are as they were
abbrev pub invariant-notes : goal.invariant-notes
invariant-notes l =
    map note_view l.note-items
    ≡ map (about l.filename) (take l.note-index (map note_view l.initial.note-items)) ++ drop l.note-index (map note_view l.initial.note-items)
