-- What a file of settings means, or why it means nothing.
use Rattle.std.specs.Prelude.{◌≡◌, ◌+◌, ◌-◌, ◌^◌, min, ℕ, List, string_bytes}
use Rattle.tera_files.specs.declared.reading.Source.{Source}
use Rattle.tera_settings.specs.Meaning.{IsMeantBy}
use Rattle.text_edits.specs.Lines.{lines_of}
use Rattle.text_edits.specs.Positions.{boundary_to, position_of}
use Rattle.text_edits.specs.declared.positions.Encoding.TheVariants.{Utf32}
use Rattle.settings_files.specs.declared.configured.Configured.{Configured}
use Rattle.settings_files.specs.declared.unfit.Unfit.{Unfit}
use Rattle.settings_files.specs.declared.unfit.Unfit.TheVariants.{Memory}
use Rattle.settings_files.specs.declared.unfit.WrongFile.{WrongFile}

-- an allocation failed
abbrev pub IsMemory : Unfit → Type 0
IsMemory unfit = unfit ≡ Memory

-- the settings are what the text of the file means
abbrev pub IsConfigured : List (List ℕ) → Configured → Type 0
IsConfigured rules c = IsMeantBy rules (string_bytes c.source.text) c.settings

-- what is wrong at a byte of the source: its file, its line and its column, which are counted from 1, and the message
abbrev pub IsPlaced : Source → ℕ → List ℕ → WrongFile → Type 0
IsPlaced source byte message wrong =
    let text = string_bytes source.text in
    let position = position_of Utf32 (lines_of text) (boundary_to text byte) in
    (string_bytes wrong.file ≡ string_bytes source.file)
    × (wrong.line ≡ min (position.line + 1) (2 ^ 64 - 1))
    × (wrong.column ≡ min (position.character + 1) (2 ^ 64 - 1))
    × (string_bytes wrong.message ≡ message)
