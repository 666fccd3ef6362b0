-- Sending messages.
use Rattle.std.specs.Prelude.{◌≡◌, ◌++◌, ℕ, List, Option}
use Rattle.std.specs.Io.KnownBytes.{Appends}

-- a writer took a part of a text, from its beginning on
abbrev pub AppendsPart : Option (List ℕ) → Option (List ℕ) → List ℕ → Type 0
AppendsPart old new text = (written : List ℕ) × (rest : List ℕ) × (text ≡ written ++ rest) × Appends old new written
