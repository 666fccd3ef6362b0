-- How what is held stands for what has come of the stream after the last frame.
use Rattle.std.specs.Prelude.{◌≡◌, ℕ, ◌+◌, ◌<◌, ◌≤◌, List, ◌++◌, length, Option, Some, None}
use Rattle.std.specs.List.{AllByRecursion, flat_map}
use Rattle.message_frames.specs.declared.field.Stated.{Stated}
use Rattle.message_frames.specs.declared.field.Stated.TheVariants as stated
use Rattle.message_frames.specs.declared.framing.Stage.{Stage}
use Rattle.message_frames.specs.declared.framing.Stage.TheVariants as stages
use Rattle.message_frames.specs.Header.{NoneEndsBefore, IsLine, ended, StatesOther, IsStatedOnce, IsHeader}
use Rattle.message_frames.specs.Stream.{Item, Whole, IsText, IsPartial}
use Rattle.message_frames.specs.Held.{Held}
use Rattle.message_frames.specs.Shown.{Shown, Wait, frame_of}

-- ---- frames

-- nothing is reported until the next item is whole
abbrev pub frame_or_wait : ℕ → Option Item → Shown
frame_or_wait limit None = Wait
frame_or_wait limit (Some item) = frame_of limit item

-- ---- what is held

-- what these lines say
abbrev pub IsStated : Stated → List (List ℕ) → Type 0
IsStated stated.Nothing lines = AllByRecursion StatesOther lines
IsStated (stated.Length len) lines = IsStatedOnce lines len
IsStated stated.Malformed lines = ¬ (AllByRecursion StatesOther lines) × ((len : ℕ) → ¬ (IsStatedOnce lines len))

-- whole lines, none of them empty, are in front of the bytes, and say this
pub record LinesRepresent (pending bytes : List ℕ) (stated : Stated) : Type 0 where
  pub lines : List (List ℕ)
  pub whole : pending ≡ flat_map ended lines ++ bytes
  pub each : AllByRecursion IsLine lines
  pub states : IsStated stated lines

-- Of a header the lines that have come whole are let go. Of a message its header is; of one beyond the limit the bytes
-- too, and those that are still to come are counted.
abbrev pub RepresentsAt : ℕ → Stage → List ℕ → List ℕ → Type 0
RepresentsAt limit (stages.Lines t searched) bytes pending = LinesRepresent pending bytes t
RepresentsAt limit (stages.Message len) bytes pending =
    (header : List ℕ) × (pending ≡ header ++ bytes) × IsHeader header len × (len ≤ limit)
RepresentsAt limit (stages.TooLong len left) bytes pending =
    (header : List ℕ) × (passed : List ℕ) × (pending ≡ header ++ (passed ++ bytes)) × IsHeader header len × (limit < len) × (length passed + left ≡ len)

-- what has come after the last frame is this
abbrev pub Represents : Held → List ℕ → Type 0
Represents held pending = RepresentsAt held.limit held.stage held.bytes pending

-- the next item, if it is whole, is taken from the front of what has come
abbrev pub Takes : Option Item → List ℕ → Held → Type 0
Takes None pending new = IsPartial pending × Represents new pending
Takes (Some item) pending new =
    (text : List ℕ) × (rest : List ℕ) × (pending ≡ text ++ rest) × IsText text item × Represents new rest

-- the frame is what is reported for it
abbrev pub IsNext : ℕ → List ℕ → Shown → Held → Type 0
IsNext limit pending frame new = (next : Option Item) × (frame ≡ frame_or_wait limit next) × Takes next pending new

-- a message within the limit has come whole
abbrev pub IsWholeNext : ℕ → List ℕ → Type 0
IsWholeNext limit pending =
    (message : List ℕ) × (text : List ℕ) × (rest : List ℕ) × (pending ≡ text ++ rest) × IsText text (Whole message)
    × (length message ≤ limit)

-- .. and is in front of what is held
abbrev pub HoldsWhole : Held → Type 0
HoldsWhole held = (len : ℕ) × (held.stage ≡ stages.Message len) × (len ≤ length held.bytes)

-- while it waits, it holds less than a message of the limit, or of a header the front of one line
abbrev pub HoldsLittle : ℕ → Stage → List ℕ → Type 0
HoldsLittle limit (stages.Lines t searched) bytes = NoneEndsBefore bytes (length bytes)
HoldsLittle limit (stages.Message len) bytes = length bytes < limit
HoldsLittle limit (stages.TooLong len left) bytes = length bytes ≡ 0

abbrev pub IsLittle : Shown → Held → Type 0
IsLittle Wait held = HoldsLittle held.limit held.stage held.bytes
IsLittle _ held = Unit {0}

-- ---- how far it is to the end of what is held

abbrev pub counted : Stage → ℕ
counted (stages.Lines t searched) = 0
counted _ = 1

-- what each frame makes less
abbrev pub weight : Held → ℕ
weight held = length held.bytes + counted held.stage

abbrev pub IsNearer : Shown → Held → Held → Type 0
IsNearer Wait old new = Unit {0}
IsNearer _ old new = weight new < weight old
