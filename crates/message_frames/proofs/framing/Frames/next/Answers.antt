use Rattle.std.proofs.Common.{Some, refl}
use Rattle.message_frames.specs.Stream.{Headless}
use Rattle.message_frames.proofs.framing.Frames.next.Goals as goal

pub returns-in-Malformed-clause-next : goal.returns-in-Malformed-clause-next
returns-in-Malformed-clause-next c = λ pending h. (Some Headless, refl, c.in-Malformed.ensures.read pending h)
