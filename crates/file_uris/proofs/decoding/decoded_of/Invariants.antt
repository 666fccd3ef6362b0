use Rattle.std.proofs.Common.{◌≡◌, ◌++◌, length}
use Rattle.file_uris.specs.Decoding.{decoded}
use Rattle.file_uris.proofs.decoding.decoded_of.Given as goal

abbrev pub invariant-bytes : goal.invariant-bytes
invariant-bytes l = l.bytes.items ++ decoded l.rest ≡ decoded l.text

abbrev pub decreases-bytes : goal.decreases-bytes
decreases-bytes l = length l.rest
