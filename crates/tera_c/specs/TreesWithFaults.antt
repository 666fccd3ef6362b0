-- The tree of a file, whatever faults it has, and these.
use Rattle.std.specs.Prelude.{◌⊎◌, ℕ, List}
use Rattle.tera_templates.specs.declared.templates.Template.{Template}
use Rattle.tera_report.specs.Trees.{IsTreeLine}
use Rattle.tera_c.specs.Files.{IsReadFrom, IsUnreadFile}
use Rattle.tera_c.specs.Statuses.{IsPut, IsLeft}
use Rattle.tera_c.specs.declared.shapes.AskedFile.{AskedFile}
use Rattle.tera_c.specs.declared.status.Status.{Status}

-- a line of JSON has the tree of the file, or of what it is read as, and at most so many faults of it
abbrev pub HasTreeLine : ℕ → AskedFile → List ℕ → Type 0
HasTreeLine faults file text = (template : Template) × IsReadFrom faults file template × IsTreeLine template text

-- what a buffer held and holds after a call that asks for that line, and what is needed: the line was put there, or left
-- out for want of room; or the file cannot be read, or an allocation failed
abbrev pub WritesTreeLine : ℕ → AskedFile → Status → List ℕ → List ℕ → ℕ → Type 0
WritesTreeLine faults file status old new needed =
    ((text : List ℕ) × HasTreeLine faults file text × IsPut text status old new needed)
    ⊎ (IsUnreadFile file status × IsLeft old new needed)
