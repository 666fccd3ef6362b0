-- A stream of messages, each after its header.
use Rattle.std.specs.Prelude.{◌≡◌, ℕ, ◌<◌, List, [], ◌∷◌, ◌++◌, length}
use Rattle.message_frames.specs.Header.{IsHead, IsHeader}

-- a message, or what is in the place of a header and is none
pub data Item : Type 0 where
  Whole : List ℕ → Item
  Headless : Item

-- the bytes of an item on the stream: a message after its header; lines up to an empty line that are not header
abbrev pub IsText : List ℕ → Item → Type 0
IsText text (Whole message) = (header : List ℕ) × (text ≡ header ++ message) × IsHeader header (length message)
IsText text Headless = IsHead text × ((n : ℕ) → ¬ (IsHeader text n))

-- the stream is these items, and then the rest
abbrev pub Begins : List ℕ → List Item → List ℕ → Type 0
Begins stream [] rest = stream ≡ rest
Begins stream (item ∷ items) rest =
    (text : List ℕ) × (more : List ℕ) × (stream ≡ text ++ more) × IsText text item × Begins more items rest

-- less than a whole item: no empty line has come, or after a header fewer bytes than it says
abbrev pub IsPartial : List ℕ → Type 0
IsPartial rest =
    (head more : List ℕ) → IsHead head → rest ≡ head ++ more → (n : ℕ) × IsHeader head n × (length more < n)

-- the stream is these items, and then less than a whole one
pub record Splits (stream : List ℕ) (items : List Item) (rest : List ℕ) : Type 0 where
  pub whole : Begins stream items rest
  pub partial : IsPartial rest
