-- What `Frames` holds.
use Rattle.std.specs.Prelude.{◌≡◌, ℕ, ◌-◌, ◌<◌, ◌≤◌, List, length}
use Rattle.message_frames.specs.declared.framing.Stage.{Stage}
use Rattle.message_frames.specs.declared.framing.Stage.TheVariants as stages
use Rattle.message_frames.specs.Header.{NoneEndsBefore}

pub record Held : Type 0 where
  pub limit : ℕ
  pub stage : Stage
  pub bytes : List ℕ

-- what each stage knows of the bytes that are held
abbrev pub IsStage : ℕ → Stage → List ℕ → Type 0
IsStage limit (stages.Lines stated searched) bytes = (searched ≤ length bytes - 1) × NoneEndsBefore bytes searched
IsStage limit (stages.Message len) bytes = len ≤ limit
IsStage limit (stages.TooLong len left) bytes = 0 < left → length bytes ≡ 0
