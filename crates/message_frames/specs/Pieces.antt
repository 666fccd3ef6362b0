-- Frames that are taken one after the other.
use Rattle.std.specs.Prelude.{◌≡◌, ℕ, List, ◌++◌, map}
use Rattle.message_frames.specs.declared.framing.Frame.{Frame}
use Rattle.message_frames.specs.Stream.{Item, Begins, IsPartial}
use Rattle.message_frames.specs.Held.{Held}
use Rattle.message_frames.specs.Shown.{shown, frame_of}
use Rattle.message_frames.specs.Representing.{Represents}

-- from what was pending items were taken, and what is reported for them was added
pub record Taken (limit : ℕ) (pending : List ℕ) (old new : List Frame) (held : Held) : Type 0 where
  pub items : List Item
  pub rest : List ℕ
  pub begins : Begins pending items rest
  pub stated : map shown new ≡ map shown old ++ map (frame_of limit) items
  pub represents : Represents held rest

-- the same, with nothing whole left
pub record AllTaken (limit : ℕ) (pending : List ℕ) (old new : List Frame) (held : Held) : Type 0 where
  pub taken : Taken limit pending old new held
  pub partial : IsPartial taken.rest
