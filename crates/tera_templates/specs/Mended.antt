-- What a source with faults is read as.
use Rattle.std.specs.Prelude.{◌≡◌, ◌↔◌, ◌<◌, ◌≤◌, ℕ, List, Option, codes, length, map, string_bytes}
use Rattle.std.specs.BTreeSet.{keys}
use Rattle.std.specs.List.{AllByRecursion, Contains}
use Rattle.std.specs.Option.{option_map_or}
use Rattle.tera_grammar.specs.Limits.{usual}
use Rattle.tera_lexer.specs.grammar.Marks.{default_marks}
use Rattle.tera_mend.specs.Mending.{Ends, Mends}
use Rattle.tera_mend.specs.Views.{edit_view, step_of}
use Rattle.tera_parser.specs.Notes.{NotesName}
use Rattle.tera_templates.specs.Lost.{IsLostAt, IsWordAt, places_under}
use Rattle.tera_templates.specs.declared.mended.Mended.{Mended}
use Rattle.tera_templates.specs.declared.templates.Template.{Template}

-- The faults lead from the source of the file to a text. That is the text that was read, if these are all faults. There
-- is at least one, and at most as many as may be reported.
pub record IsMended (file source : List ℕ) (most : ℕ) (m : Mended) : Type 0 where
  pub is_source : string_bytes m.source ≡ source
  pub some : 0 < length m.faults.items
  pub bound : length m.faults.items ≤ most
  pub reached : List ℕ
  pub mends : Mends usual default_marks source (map step_of m.faults.items) reached
  pub ends : Ends usual default_marks m.cut (map edit_view m.rest.items) reached (string_bytes m.text)
  pub notes : AllByRecursion (λ f. NotesName file f.error) m.faults.items
  pub lost : (n : List ℕ) (at : ℕ) → Contains (places_under m.lost n) at ↔ IsLostAt source (string_bytes m.text) n at
  pub ends_of : (at : ℕ) → Contains (keys m.ends) at ↔ IsWordAt (string_bytes m.text) (codes "endcomponent") at

-- the text whose tree a template has: its source, or what that was read as
abbrev pub text_by : List ℕ → Option Mended → List ℕ
text_by source m = option_map_or (λ m. string_bytes m.text) m source

abbrev pub text_of : List ℕ → Template → List ℕ
text_of source t = text_by source t.mended
