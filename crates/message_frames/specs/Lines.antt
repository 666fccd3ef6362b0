-- What reading lines answers.
use Rattle.std.specs.Prelude.{◌≡◌, ℕ, ◌-◌, ◌≤◌, List, ◌++◌, length, drop, Option, MatchOption}
use Rattle.std.specs.List.{AllByRecursion, flat_map}
use Rattle.message_frames.specs.declared.field.Stated.{Stated}
use Rattle.message_frames.specs.declared.lines.Lines.{Lines}
use Rattle.message_frames.specs.declared.lines.Lines.TheVariants.{Ended, Open}
use Rattle.message_frames.specs.Header.{EndsAt, NoneEndsBefore, IsLine, ended, head_text}
use Rattle.message_frames.specs.Reading.{stated_after}

-- the first line end
abbrev pub IsEndFrom : List ℕ → Option ℕ → Type 0
IsEndFrom bytes r = MatchOption r (NoneEndsBefore bytes (length bytes)) (λ k. EndsAt bytes k × NoneEndsBefore bytes k)

-- whole lines are in front of the rest
pub record LinesBefore (bytes : List ℕ) (stated : Stated) (rest : List ℕ) (after : Stated) : Type 0 where
  pub lines : List (List ℕ)
  pub whole : bytes ≡ flat_map ended lines ++ rest
  pub each : AllByRecursion IsLine lines
  pub states : stated_after stated lines ≡ after

abbrev pub AreRead : List ℕ → Stated → Lines → Type 0
AreRead bytes stated (Ended len after) =
    (len ≤ length bytes)
    × ((lines : List (List ℕ)) × (bytes ≡ head_text lines ++ drop len bytes) × AllByRecursion IsLine lines × (stated_after stated lines ≡ after))
AreRead bytes stated (Open len after searched) =
    (len ≤ length bytes) × LinesBefore bytes stated (drop len bytes) after
    × NoneEndsBefore (drop len bytes) (length (drop len bytes)) × (searched ≡ length bytes - len - 1)
