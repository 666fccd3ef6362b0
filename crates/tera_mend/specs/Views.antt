-- From what was mended to what it means.
use Rattle.std.specs.Prelude.{ℕ, List, map}
use Rattle.std.specs.List.{AllByRecursion}
use Rattle.tera_lexer.specs.declared.lexer.place.Place as lexer
use Rattle.tera_lexer.specs.grammar.Marks.{default_marks}
use Rattle.tera_grammar.specs.Limits.{usual}
use Rattle.tera_parser.specs.Notes.{NotesName}
use Rattle.tera_mend.specs.Mending.{EditVal, Mends, Step}
use Rattle.tera_mend.specs.declared.edits.Edit.{Edit}
use Rattle.tera_mend.specs.declared.mending.Fault.{Fault}
use Rattle.tera_mend.specs.declared.moved.Place.{Place}

abbrev pub edit_view : Edit → EditVal
edit_view e = record { at = e.at; bytes = e.bytes.items }

abbrev pub step_of : Fault → Step
step_of f = record { error = f.error; alone = f.alone; edits = map edit_view f.edits.items }

abbrev pub place_view : Place → lexer.Place
place_view p = record { line = p.line; column = p.column; byte = p.byte }

-- the faults lead from the source to the text, and their notes are about the file
pub record LeadsTo (file source : List ℕ) (fs : List Fault) (text : List ℕ) : Type 0 where
  pub mends : Mends usual default_marks source (map step_of fs) text
  pub notes : AllByRecursion (λ f. NotesName file f.error) fs
