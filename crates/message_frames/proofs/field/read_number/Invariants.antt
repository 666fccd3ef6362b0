use Rattle.std.proofs.Common.{◌≡◌, drop}
use Rattle.message_frames.specs.Reading.{reads}
use Rattle.message_frames.specs.declared.field.Number.TheVariants.{Before}
use Rattle.message_frames.proofs.field.read_number.Given as goal

abbrev pub invariant-bytes : goal.invariant-bytes
invariant-bytes l = reads l.number (drop l.byte-index l.value) ≡ reads Before l.value
