-- Documents, and what becomes of them.
use Rattle.std.specs.Prelude.{ℕ, List, Option, None, Some}
use Rattle.std.specs.Option.{option_map}
use Rattle.text_edits.specs.Edits.{ChangeView, edited}
use Rattle.text_edits.specs.declared.positions.Encoding.{Encoding}

-- a document: the text that an editor has of it, where it is open, and the text on disk
pub record DocumentVal : Type 0 where
  pub opened : Option (List ℕ)
  pub stored : Option (List ℕ)

-- one that is neither open nor on disk
abbrev pub no_document : DocumentVal
no_document = record { opened = None; stored = None }

-- the text that counts
abbrev pub text_among : Option (List ℕ) → Option (List ℕ) → Option (List ℕ)
text_among (Some text) stored = Some text
text_among None stored = stored

abbrev pub text_of : DocumentVal → Option (List ℕ)
text_of d = text_among d.opened d.stored

-- opened with a text, changed in the editor, and closed
abbrev pub opened : List ℕ → DocumentVal → DocumentVal
opened text d = record { opened = Some text; stored = d.stored }

abbrev pub changed : Encoding → List ChangeView → DocumentVal → DocumentVal
changed e changes d = record { opened = option_map (λ text. edited e text changes) d.opened; stored = d.stored }

abbrev pub closed : DocumentVal → DocumentVal
closed d = record { opened = None; stored = d.stored }

-- written to disk, and removed from it
abbrev pub written : List ℕ → DocumentVal → DocumentVal
written text d = record { opened = d.opened; stored = Some text }

abbrev pub removed : DocumentVal → DocumentVal
removed d = record { opened = d.opened; stored = None }
