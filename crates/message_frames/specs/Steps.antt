-- What the steps of `Frames` promise one another.
use Rattle.std.specs.Prelude.{◌≡◌, ℕ, ◌-◌, ◌<◌, ◌≤◌, List, length, min, Some, None}
use Rattle.message_frames.specs.declared.framing.Stage.{Stage}
use Rattle.message_frames.specs.declared.framing.Stage.TheVariants as stages
use Rattle.message_frames.specs.declared.framing.Header.{Header}
use Rattle.message_frames.specs.declared.framing.Header.TheVariants as headers
use Rattle.message_frames.specs.Stream.{Headless}
use Rattle.message_frames.specs.Held.{Held}
use Rattle.message_frames.specs.Representing.{Represents, Takes, HoldsLittle, weight}

-- how many of the bytes that come are passed over
abbrev pub passed_of : Stage → ℕ → ℕ
passed_of (stages.TooLong len left) came = min left came
passed_of _ came = 0

abbrev pub stage_after : Stage → ℕ → Stage
stage_after (stages.TooLong len left) passed = stages.TooLong len (left - passed)
stage_after stage passed = stage

-- where a header was read to
abbrev pub HeaderRead : Header → List ℕ → Held → Type 0
HeaderRead headers.Open pending new = Takes None pending new
HeaderRead headers.Malformed pending new = Takes (Some Headless) pending new
HeaderRead _ pending new = Represents new pending

abbrev pub IsAtStage : Header → Held → Type 0
IsAtStage (headers.Message len) held = held.stage ≡ stages.Message len
IsAtStage (headers.TooLong len left) held = (held.stage ≡ stages.TooLong len left) × (0 < left → length held.bytes ≡ 0)
IsAtStage _ held = Unit {0}

abbrev pub IsNearerHeader : Header → Held → Held → Type 0
IsNearerHeader headers.Open old new = Unit {0}
IsNearerHeader headers.Malformed old new = weight new < weight old
IsNearerHeader _ old new = weight new ≤ weight old

abbrev pub IsLittleHeader : Header → Held → Type 0
IsLittleHeader headers.Open held = HoldsLittle held.limit held.stage held.bytes
IsLittleHeader _ held = Unit {0}
