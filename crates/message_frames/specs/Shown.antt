-- What is reported for what a stream is split into.
use Rattle.std.specs.Prelude.{ℕ, List, length, nat_le, if◌then◌else◌}
use Rattle.message_frames.specs.declared.framing.Frame.{Frame}
use Rattle.message_frames.specs.declared.framing.Frame.TheVariants as frames
use Rattle.message_frames.specs.Stream.{Item, Whole, Headless}

-- a frame without where its bytes lie
pub data Shown : Type 0 where
  Message : List ℕ → Shown
  TooLong : ℕ → Shown
  Bad : Shown
  Wait : Shown

abbrev pub shown : Frame → Shown
shown (frames.Message message) = Message message.items
shown (frames.TooLong len) = TooLong len
shown frames.Bad = Bad
shown frames.Wait = Wait

-- what is reported for an item: of a message beyond the limit its length alone
abbrev pub frame_of : ℕ → Item → Shown
frame_of limit (Whole message) = if nat_le (length message) limit then Message message else TooLong (length message)
frame_of limit Headless = Bad
